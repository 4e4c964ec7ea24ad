-- The loop keeps a bracket: not above at its lower end, above at its upper end or there the end of the range, which is looked at last.
-- Where the ends have met, the crossing is between them, and there is only one. Assumes nothing.
use Prim.Native.Nat.{ℕ, ◌≤◌, ◌<◌, ◌-◌}
use lib.Ieee.{Float}
use Rattle.num_halving.specs.Halving.{NotAbove, Above}
use Rattle.num_roots.specs.Root.{power_at}
use Rattle.num_roots.proofs.Roots.{top}
use Rattle.num_roots.proofs.root.crossing.Given as goal

pub record Bracket (k : ℕ) (t : Float) (lo hi width : ℕ) : Type 0 where
  pub apart : lo < hi
  pub within : hi ≤ top
  pub some : 0 < width
  pub here : NotAbove (power_at k) t lo
  pub next : hi < top → Above (power_at k) t hi

abbrev pub invariant-loop-lo : goal.invariant-loop-lo
invariant-loop-lo l = Bracket l.k l.t l.lo l.hi l.width

abbrev pub decreases-loop-lo : goal.decreases-loop-lo
decreases-loop-lo l = l.hi - l.lo
