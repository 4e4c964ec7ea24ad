-- Each turn writes the next byte. Assumes nothing.
use native.Mathlib.Omega.{arith}
use Rattle.sheet_write.proofs.Writings.{next_byte}
use Rattle.sheet_write.proofs.put.Goals as goal

pub loop-i-preserved : goal.loop-i-preserved
loop-i-preserved c = next_byte _ c.loop-i.invariant c.loop-i-test.true (omega arith)
