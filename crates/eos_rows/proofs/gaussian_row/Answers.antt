-- In each arm the place is the arm's number, and the row there is the printed one by computation. Assumes nothing.
use mathlib.Core.Path.{refl}
use lib.Ieee.{of_bits, of_int, round, neg}
use Rattle.num_working.specs.Number.{decimal, fraction, whole}
use Rattle.eos_rows.specs.Row.{gaussians, row39}
use Rattle.std.proofs.Common.{rules}
use Rattle.eos_rows.proofs.Places.{past}
use Rattle.eos_rows.proofs.gaussian_row.Goals as goal

pub returns-in-0 : goal.returns-in-0
unfolding gaussians decimal fraction whole of_bits of_int round neg
returns-in-0 c = rw (c.new.ensures, c.in-0.is)

pub returns-in-1 : goal.returns-in-1
unfolding gaussians decimal fraction whole of_bits of_int round neg
returns-in-1 c = rw (c.new-in-1.ensures, c.in-1.is)

pub returns-in-2 : goal.returns-in-2
unfolding gaussians decimal fraction whole of_bits of_int round neg
returns-in-2 c = rw (c.new-in-2.ensures, c.in-2.is)

pub returns-in-3 : goal.returns-in-3
unfolding gaussians decimal fraction whole of_bits of_int round neg
returns-in-3 c = rw (c.new-in-3.ensures, c.in-3.is)

pub returns-in_default : goal.returns-in_default
unfolding gaussians decimal fraction whole of_bits of_int round neg
returns-in_default c = rw c.new-in_default.ensures (past gaussians row39 4 c.args.i refl (search rules))
