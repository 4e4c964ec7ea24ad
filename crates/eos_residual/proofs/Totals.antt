-- The sum over all 42 rows is the four kinds' one after the other, each onto the sum so far; and the five sums together. Assumes nothing.
use mathlib.Core.Path.{◌≡◌, refl, sym, ◌∙◌}
use mathlib.Core.List.{List, ◌++◌}
use native.Mathlib.Omega.{arith}
use lib.Ieee.{Float}
use Rattle.num_working.specs.Working.{Worked}
use Rattle.eos_brackets.specs.Derivative.{Derivative, Delta, DeltaDelta, Tau, TauTau, DeltaTau}
use Rattle.eos_isotherm.specs.declared.Isotherm.{Isotherm}
use Rattle.eos_non_analytic.specs.Figures.{non_analytic_figures}
use Rattle.eos_residual.specs.Sum.{onto, total, polynomial_figures, exponential_figures, gaussian_figures, figures, residual, all_five}
use Rattle.eos_residual.proofs.Sums.{onto_append, total_append}
use Rattle.eos_residual.proofs.Figures.{polynomial_length}

module _ (iso : Isotherm) (delta : Float) (k : Derivative) where
  abbrev P : List Worked
  P = polynomial_figures iso delta k

  abbrev E : List Worked
  E = exponential_figures iso delta k

  abbrev G : List Worked
  G = gaussian_figures iso delta k

  abbrev N : List Worked
  N = non_analytic_figures iso delta k

  -- all 42, from what each kind came to
  pub in_turn : (w x y z : Worked) → w ≡ total P → x ≡ onto w E → y ≡ onto x G → z ≡ onto y N → z ≡ residual iso delta k
  unfolding residual figures
  in_turn w x y z p q r s =
      rw (s, r, q, p)
      (sym (
      total_append P (E ++ (G ++ N)) (rw (polynomial_length iso delta k) (omega arith))
      ∙ onto_append (total P) E (G ++ N)
      ∙ onto_append (onto (total P) E) G N))

-- ---- the five together
pub all_five_same : (v w : Derivative → Worked) → ((k : Derivative) → v k ≡ w k) → all_five v ≡ all_five w
unfolding all_five
all_five_same v w h = rw (h Delta, h DeltaDelta, h Tau, h TauTau, h DeltaTau) refl
