-- The product so far is the i-th whole power. Assumes nothing.
use mathlib.Core.Path.{◌≡◌}
use Rattle.num_powers.specs.Power.{power}
use Rattle.num_powers.proofs.whole_power.Given as goal

abbrev pub invariant-loop-i : goal.invariant-loop-i
invariant-loop-i l = l.p ≡ power l.x l.i
