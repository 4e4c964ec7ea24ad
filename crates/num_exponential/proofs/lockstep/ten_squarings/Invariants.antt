-- Each turn of the loop is a turn of the definition. Assumes nothing.
use mathlib.Core.Path.{◌≡◌}
use mathlib.Core.List.{map}
use Rattle.num_exponential.specs.Lockstep.{squarings}
use Rattle.num_exponential.proofs.lockstep.ten_squarings.Given as goal

abbrev pub invariant-loop-n : goal.invariant-loop-n
invariant-loop-n l = map (squarings 10) l.fn.s ≡ map (squarings l.n) l.s
