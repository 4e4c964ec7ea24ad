-- Each place below i has its power. Assumes nothing.
use mathlib.Core.Path.{◌≡◌}
use Prim.Native.Nat.{ℕ, ◌<◌}
use lib.ListN.{length, get_or}
use lib.Ieee.{nan}
use Rattle.num_powers.specs.Power.{power}
use Rattle.eos_powers.proofs.first_powers.Given as goal

abbrev pub invariant-loop-i : goal.invariant-loop-i
invariant-loop-i g l = record {
  long : length l.powers ≡ g.row.N;
  next : l.next ≡ power l.x l.i;
  placed : (k : ℕ) → k < l.i → k < g.row.N → get_or l.powers k nan ≡ power l.x k;
}
