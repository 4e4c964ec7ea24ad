-- Each byte that is passed is a line's end or another. Assumes nothing.
use Rattle.std.proofs.Common.{arith}
use Rattle.desk_words.proofs.Lines.{found, nothing_left, line_passed, byte_passed}
use Rattle.desk_words.proofs.behind_lines.Goals as goal
use Rattle.desk_words.proofs.behind_lines.Goals.{then-b-eq10, else-b-eq10}

pub returns-then-left-eq0 : goal.returns-then-left-eq0
returns-then-left-eq0 c = found _ _ _ _ c.loop-i.invariant c.loop-i-test.true c.if-left-eq0.true

pub loop-i-preserved : goal.loop-i-preserved
loop-i-preserved c =
    let l = c.loop-i.invariant in
    elim c.if-b-eq10.branch [
      | then-b-eq10 w ↦ rw w.left-is (line_passed _ _ _ _ l c.loop-i-test.true (omega (arith, c.if-left-eq0.false)) w.if-b-eq10.true)
      | else-b-eq10 w ↦ rw w.left-is (byte_passed _ _ _ _ l c.loop-i-test.true (omega (arith, c.if-left-eq0.false)) w.if-b-eq10.false)
    ]

pub returns : goal.returns
returns c = nothing_left c.args.s.now c.args.n c.loop-i.left c.loop-i.i c.loop-i.invariant (omega arith)
