-- Each turn adds the next row's figures; what is left to add gives the same. Assumes nothing.
use mathlib.Core.Path.{◌≡◌}
use lib.Ieee.{Float}
use lib.ListN.{drop}
use Rattle.num_powers.specs.Power.{powers}
use Rattle.num_working.specs.Working.{checked}
use Rattle.eos_brackets.specs.Derivative.{of}
use Rattle.eos_isotherm.specs.declared.Isotherm.{Isotherm}
use Rattle.eos_terms.specs.Term.{decays}
use Rattle.eos_residual.specs.Sum.{onto, exponential_figures}
use Rattle.eos_residual.proofs.Sums.{Dues, flag}
use Rattle.eos_residual.proofs.sum.Terms.nine_rows.Given as goal

abbrev pub invariant-loop-i : goal.invariant-loop-i
invariant-loop-i g l = (iso : Isotherm) (delta : Float) → iso.powers ≡ l.ys → powers 10 delta ≡ l.xs → decays delta ≡ l.es
    → Dues (flag g.row.ALL) (exponential_figures iso delta)
    (λ k. onto (checked (of l.fn.start k)) (drop g.row.FIRST (exponential_figures iso delta k))) l.i l.s
