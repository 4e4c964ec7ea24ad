-- Each turn halves what is left, and the halving from there is the one asked for. Assumes nothing.
use Prim.Native.Nat.{◌-◌, ◌≤◌}
use Rattle.num_halving.specs.Halving.{halve}
use Rattle.num_halving.proofs.Halvings.{Narrowing}
use Rattle.num_halving.proofs.narrow.Given as goal

abbrev pub invariant-loop-lo : goal.invariant-loop-lo
invariant-loop-lo g l =
    let f = g.P.Probed.figure l.probed in
    (l.hi ≤ l.fn.to.bits) × Narrowing f l.t (halve f l.t l.from l.fn.to.bits) l.lo l.hi

abbrev pub decreases-loop-lo : goal.decreases-loop-lo
decreases-loop-lo g l = l.hi - l.lo
