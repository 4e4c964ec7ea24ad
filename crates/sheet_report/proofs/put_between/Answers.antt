-- Three pieces, each into the part that starts where the former ended. Assumes nothing.
use native.Mathlib.Omega.{arith}
use lib.ListN.{length-append}
use Rattle.sheet_write.proofs.Writings.{then}
use Rattle.sheet_report.proofs.put_between.Goals as goal

pub returns : goal.returns
returns c =
    let s = then c.put-a.ensures (omega arith) c.put_number.ensures in
    then s (simp length-append (omega arith)) c.put.ensures
