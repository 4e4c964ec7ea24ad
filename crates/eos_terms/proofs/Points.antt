-- What a point holds, by the density that it was worked at. Assumes nothing.
use mathlib.Core.Path.{◌≡◌, refl, sym, ap, ◌∙◌}
use mathlib.Core.List.{map}
use lib.ListN.{get_or}
use lib.Ieee.{Float, nan}
use Rattle.num_powers.specs.Power.{power, powers}
use Rattle.num_exponential.specs.Decay as Decay
use Rattle.num_formulas.specs.Formula.{value}
use Rattle.eos_rows.specs.Row.{gaussians, non_analytics, row40, row42}
use Rattle.eos_isotherm.specs.declared.Isotherm.{Isotherm}
use Rattle.eos_non_analytic.specs.Parts.{around, psi}
use Rattle.eos_terms.specs.declared.term.Point.{Point}
use Rattle.eos_terms.specs.Term.{point, decay, decays, bell, bells, psis, exponents, point_by}

module _ (iso : Isotherm) (p : Point) (e : p ≡ point iso p.delta) where
  pub its_powers : powers 10 p.delta ≡ p.powers
  unfolding point
  its_powers = sym (ap (λ (q : Point). q.powers) e)

  pub its_decays : decays p.delta ≡ p.decays
  unfolding point
  its_decays = sym (ap (λ (q : Point). q.decays) e)

  pub its_bells : bells iso.bell p.delta ≡ p.bells
  unfolding point
  its_bells = sym (ap (λ (q : Point). q.bells) e)

  -- Ψ of rows 40 and 41, and of row 42
  pub first_psi : get_or p.psis 0 nan ≡ value (psi row40 (around p.delta) iso.psi)
  unfolding point psis
  first_psi = ap (λ (q : Point). get_or q.psis 0 nan) e

  pub other_psi : get_or p.psis 1 nan ≡ value (psi row42 (around p.delta) iso.psi)
  unfolding point psis
  other_psi = ap (λ (q : Point). get_or q.psis 1 nan) e

-- the point at a density is that of its own density
pub own : (iso : Isotherm) (delta : Float) (p : Point) → p ≡ point iso delta → (p ≡ point iso p.delta) × (p.delta ≡ delta)
unfolding point
own iso delta p e = let d = ap (λ (q : Point). q.delta) e in (e ∙ ap (point iso) (sym d), d)

-- the point at a density, by the twelve exponentials of its arguments
pub point_is : (iso : Isotherm) (delta : Float) → point_by delta (powers 10 delta) (map Decay.decay (exponents iso delta)) ≡ point iso delta
unfolding point_by Decay.decay exponents point decay decays bells bell psis gaussians non_analytics powers power value
point_is iso delta = refl
