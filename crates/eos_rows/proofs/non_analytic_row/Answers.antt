-- In each arm the place is the arm's number, and the row there is the printed one by computation. Assumes nothing.
use mathlib.Core.Path.{refl}
use lib.Ieee.{of_bits, of_int, round, neg}
use Rattle.num_working.specs.Number.{decimal, fraction, whole}
use Rattle.eos_rows.specs.Row.{non_analytics, row42}
use Rattle.std.proofs.Common.{rules}
use Rattle.eos_rows.proofs.Places.{past}
use Rattle.eos_rows.proofs.non_analytic_row.Goals as goal

pub returns-in-0 : goal.returns-in-0
unfolding non_analytics decimal fraction whole of_bits of_int round neg
returns-in-0 c = rw c.in-0.is

pub returns-in-1 : goal.returns-in-1
unfolding non_analytics decimal fraction whole of_bits of_int round neg
returns-in-1 c = rw c.in-1.is

pub returns-in_default : goal.returns-in_default
unfolding non_analytics decimal fraction whole of_bits of_int round neg
returns-in_default c = past non_analytics row42 2 c.args.i refl (search rules)
