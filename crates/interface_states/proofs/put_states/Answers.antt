-- Each turn hands over the next place. Assumes nothing.
use Prim.Native.Nat.{◌+◌, ◌-◌, ◌*◌}
use native.Mathlib.Omega.{arith}
use lib.Ieee.{nan}
use Rattle.interface_states.proofs.Places.{next, done}
use Rattle.interface_states.proofs.put_states.Goals as goal

pub loop-i-preserved : goal.loop-i-preserved
loop-i-preserved c =
    let l = c.loop-i in
    next l.invariant (10 * l.i + 10 - 10 * l.i) (l.i + 1) (omega arith) (omega arith) (omega arith) nan _ _ c.put_place.auto.figures
    c.put_place.ensures

pub returns : goal.returns
returns c = done c.loop-i.invariant (omega arith)
