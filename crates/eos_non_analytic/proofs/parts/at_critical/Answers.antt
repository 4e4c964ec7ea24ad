-- Each row is the definition's: row 41 has the numbers of row 40 but for its root, and row 42 has its b. Assumes nothing.
use mathlib.Core.Path.{refl}
use Rattle.num_formulas.specs.Formula.{value}
use Rattle.eos_rows.specs.Row.{non_analytics}
use Rattle.eos_non_analytic.specs.Parts.{critical_by}
use Rattle.eos_non_analytic.proofs.parts.at_critical.Goals as goal

pub returns : goal.returns
unfolding critical_by value non_analytics
returns c =
    rw (
      c.edge_at-3.ensures,
      c.edge_at-2.ensures,
      c.edge_at.ensures,
      c.three_roots-roots.ensures,
      c.worked_as-2.ensures,
      c.worked_as.ensures,
      c.shared_by-other.ensures,
      c.non_analytic_row.ensures,
      c.shared_by-shared.ensures,
      c.non_analytic_row-next.ensures,
      c.non_analytic_row-row.ensures,
    ) refl
