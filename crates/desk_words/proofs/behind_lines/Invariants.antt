-- Each byte that is passed is a line's end or another. Assumes nothing.
use Rattle.desk_words.proofs.Lines.{Left}
use Rattle.desk_words.proofs.behind_lines.Given as goal

abbrev pub invariant-loop-i : goal.invariant-loop-i
invariant-loop-i l = Left l.s l.n l.left l.i
