-- Three times nine rows are all 27. Assumes nothing.
use mathlib.Core.Path.{◌∙◌}
use native.Mathlib.Omega.{arith}
use Rattle.eos_brackets.specs.Derivative.{of}
use Rattle.eos_residual.specs.Sum.{exponential_figures}
use Rattle.eos_residual.proofs.Sums.{due_none}
use Rattle.eos_residual.proofs.Figures.{exponential_length}
use Rattle.eos_residual.proofs.sum.Terms.exponential_rows.Goals as goal

pub returns : goal.returns
returns g c =
    let a = c.args in
    λ k h.
    due_none (exponential_figures a.self.now.iso a.self.now.point.delta k) _ 27 (of c.nine_rows.result k) (rw (exponential_length a.self.now.iso a.self.now.point.delta k) (omega arith))
    (c.nine_rows.ensures k h ∙ c.nine_rows-s25.ensures k h ∙ c.nine_rows-s16.ensures k h)
