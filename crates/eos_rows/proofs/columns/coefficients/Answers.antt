-- The column is the definition's, entry by entry, by one computation. Assumes nothing.
use mathlib.Core.Path.{refl}
use lib.Ieee.{of_bits, round, neg}
use Rattle.num_working.specs.Number.{decimal, fraction}
use Rattle.eos_rows.specs.Row.{polynomials, exponentials}
use Rattle.eos_rows.specs.Column.{coefficients}
use Rattle.eos_rows.proofs.columns.coefficients.Goals as goal

pub returns : goal.returns
unfolding coefficients polynomials exponentials decimal fraction of_bits round neg
returns c = refl
