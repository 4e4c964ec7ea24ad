-- Each sum is the definition's, and so is the count. Assumes nothing.
use mathlib.Core.Path.{◌∙◌}
use Rattle.num_working.specs.Working.{checked}
use Rattle.eos_brackets.specs.Derivative.{of}
use Rattle.eos_brackets.proofs.Derivatives.{all_asked}
use Rattle.eos_residual.specs.Sum.{residual, five_sums, residual_part}
use Rattle.eos_residual.proofs.Totals.{all_five_same}
use Rattle.eos_residual.proofs.sum.residual_part.Goals as goal

pub returns : goal.returns
unfolding residual_part five_sums
returns c =
    let a = c.args in
    let w = c.sums_at-s.ensures in
    let five = c.sums_at-s.result.five in
    λ i. record {
      sums = (c.all_five.ensures ∙ all_five_same (λ k. checked (of five k)) (residual a.iso a.delta) (λ k. w.0 k (all_asked k))) i;
      fallen = w.1 i;
    }
