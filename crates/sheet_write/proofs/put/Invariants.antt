-- After i turns the first i bytes of the text are written, and each turn writes the next. Assumes nothing.
use Rattle.std.proofs.Common.{take}
use Rattle.sheet_write.specs.Writing.{Wrote}
use Rattle.sheet_write.proofs.put.Given as goal

abbrev pub invariant-loop-i : goal.invariant-loop-i
invariant-loop-i l = Wrote l.initial.out l.out l.i (take l.i l.text)
