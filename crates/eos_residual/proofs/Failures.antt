-- What fails with the temperature: the quarter root, which fails where τ does, stands in the second row, so each sum fails with it. Assumes nothing.
use Rattle.std.specs.Prelude.{Some, None}
use mathlib.Core.Path.{◌≡◌, refl, ◌∙◌}
use mathlib.Core.List.{List, [], ◌∷◌}
use lib.ListN.{get_or}
use lib.Ieee.{Float, nan, of_int}
use Rattle.num_working.specs.Number.{whole}
use Rattle.num_powers.specs.Power.{◌^ᵂ◌}
use Rattle.num_working.specs.Working.{checked, ◌+ᵂ◌, ◌*ᵂ◌, Worked}
use Rattle.num_formulas.specs.Formula.{value, work}
use Rattle.num_formulas.proofs.Formulas.{once}
use Rattle.eos_brackets.specs.Derivative.{Derivative}
use Rattle.eos_rows.specs.Row.{polynomials}
use Rattle.eos_rows.specs.Column.{tau_quarters}
use Rattle.eos_isotherm.specs.Isotherm.{quarter_of, tau_power, tau_powers, quarters, isotherm}
use Rattle.eos_isotherm.specs.declared.Isotherm.{Isotherm}
use Rattle.eos_terms.specs.Term.{polynomial_term}
use Rattle.eos_residual.specs.Sum.{onto, total, polynomial_figures, figures, residual}

times_failed : (v : Worked) → v *ᵂ None ≡ None
unfolding ◌*ᵂ◌
times_failed None = refl
times_failed (Some x) = refl

plus_failed : (v : Worked) → v +ᵂ None ≡ None
unfolding ◌+ᵂ◌
plus_failed None = refl
plus_failed (Some x) = refl

onto_failed : (fs : List Worked) → onto None fs ≡ None
unfolding onto ◌+ᵂ◌
onto_failed [] = refl
onto_failed (f ∷ fs) = onto_failed fs

-- the second row's τᵗ is a power of the quarter root
second_power : (t : Float) → work (quarter_of t) ≡ None → checked (get_or (isotherm t).powers 1 nan) ≡ None
unfolding isotherm tau_powers quarters tau_quarters polynomials tau_power work ◌^ᵂ◌ ◌*ᵂ◌ whole of_int
second_power t e = once (tau_power _ (value (quarter_of t)) 3) ∙ rw (once (quarter_of t), e) refl

-- and its figure fails with it
second_figure : (iso : Isotherm) (delta : Float) (k : Derivative) → checked (get_or iso.powers 1 nan) ≡ None
    → get_or (polynomial_figures iso delta k) 1 None ≡ None
unfolding polynomial_figures polynomials polynomial_term work ◌*ᵂ◌
second_figure iso delta k e = rw (e, times_failed _) refl

second_failed : (f g : Worked) (fs : List Worked) → g ≡ None → total (f ∷ g ∷ fs) ≡ None
unfolding total onto
second_failed f g fs e = rw (e, plus_failed f) (onto_failed fs)

pub failed_with_temperature : (t delta : Float) (k : Derivative) → work (quarter_of t) ≡ None → residual (isotherm t) delta k ≡ None
unfolding residual figures polynomial_figures polynomials
failed_with_temperature t delta k e = second_failed _ _ _ (second_figure (isotherm t) delta k (second_power t e))
