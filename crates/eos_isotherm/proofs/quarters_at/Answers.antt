-- The column's entry, or the row's own number. Assumes nothing.
use mathlib.Core.Path.{ap, ◌∙◌}
use native.Mathlib.Omega.{arith}
use Rattle.eos_rows.specs.declared.Gaussian.{Gaussian}
use Rattle.eos_isotherm.proofs.Isotherms.{of_column, of_gaussian}
use Rattle.eos_isotherm.proofs.quarters_at.Goals as goal

pub returns-then-i-lt34 : goal.returns-then-i-lt34
returns-then-i-lt34 c = rw c.requires.column_value (of_column _ (omega arith))

pub returns-else-i-lt34 : goal.returns-else-i-lt34
returns-else-i-lt34 c = ap (λ (r : Gaussian). r.q) c.gaussian_row.ensures ∙ of_gaussian _ (omega arith) (omega arith)
