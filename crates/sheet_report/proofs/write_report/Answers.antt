-- What does not fit is left alone; otherwise the lines, and the ending into the part after them. Assumes nothing.
use Rattle.std.proofs.Common.{◌≡◌, length, take, refl, arith, rules, length-append}
use Rattle.sheet_write.proofs.Writings.{then}
use Rattle.sheet_outcome.specs.Outcome.{marks_of}
use Rattle.sheet_report.specs.Report.{report_bytes}
use Rattle.sheet_report.proofs.Reports.{taken}
use Rattle.sheet_report.proofs.write_report.Goals as goal

pub returns-then-lines_len-ending_len : goal.returns-then-lines_len-ending_len
unfolding report_bytes
returns-then-lines_len-ending_len c =
    let size : length c.args.o.marks.marks ≡ 32 = search rules in
    let shown : take c.min-n.result c.args.o.marks.marks ≡ marks_of c.args.o.marks = rw c.min-n.ensures (taken _ _ size) in
    let lines = rw shown at c.lines_len.ensures in
    (refl, refl, simp length-append (omega arith), simp length-append (omega arith))

pub returns : goal.returns
unfolding report_bytes
returns c =
    let size : length c.args.o.marks.marks ≡ 32 = search rules in
    let shown : take c.min-n.result c.args.o.marks.marks ≡ marks_of c.args.o.marks = rw c.min-n.ensures (taken _ _ size) in
    let lines = rw shown at c.lines_len.ensures in
    (then (rw shown at c.put_lines-a.ensures) (omega arith) c.put_ending.ensures, simp length-append (omega arith))
