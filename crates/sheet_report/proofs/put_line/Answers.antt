-- `L i `, and what came of the line into the part after it. Assumes nothing.
use native.Mathlib.Omega.{arith}
use Rattle.sheet_write.proofs.Writings.{then}
use Rattle.sheet_report.specs.Report.{line_bytes}
use Rattle.sheet_report.proofs.Reports.{line_length}
use Rattle.sheet_report.proofs.put_line.Goals as goal

pub returns : goal.returns
unfolding line_bytes
returns c =
    let a = c.args in
    then c.put_between-a.ensures (omega (arith, line_length a.i a.w)) c.put_weighed.ensures
