-- The row's exponential is the same in both formulas, and all else is theirs, operation by operation. Assumes nothing.
use lib.Ieee.{of_bits, of_int}
use Rattle.num_working.specs.Number.{whole}
use Rattle.num_formulas.specs.Formula.{value}
use Rattle.eos_ideal.specs.Ideal.{row_τ, row_ττ}
use Rattle.eos_ideal.proofs.with_row.Goals as goal

pub returns : goal.returns
unfolding row_τ row_ττ value whole of_int of_bits
returns c =
    simp (
      c.over-2.ensures,
      c.over.ensures,
      c.plain-e.ensures,
      c.answer_alone.ensures,
      c.exponential.ensures,
    )
