-- Each turn adds the next row's figures; what is left to add gives the sums that are asked for. Assumes nothing.
use mathlib.Core.Path.{◌≡◌}
use lib.Ieee.{Float}
use Rattle.num_powers.specs.Power.{powers}
use Rattle.eos_isotherm.specs.declared.Isotherm.{Isotherm}
use Rattle.eos_residual.specs.Sum.{total, polynomial_figures}
use Rattle.eos_residual.proofs.Sums.{Dues}
use Rattle.eos_residual.proofs.sum.Terms.polynomial_sums.Given as goal

abbrev pub invariant-loop-i : goal.invariant-loop-i
invariant-loop-i l = (iso : Isotherm) (delta : Float) → iso.powers ≡ l.ys → powers 10 delta ≡ l.xs
    → Dues l.all (polynomial_figures iso delta) (λ k. total (polynomial_figures iso delta k)) l.i l.s
