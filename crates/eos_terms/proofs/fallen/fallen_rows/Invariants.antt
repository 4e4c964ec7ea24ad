-- So far the rows of the exponentials that were looked at, each of which serves fewer than 256. Assumes nothing.
use mathlib.Core.Path.{◌≡◌}
use Prim.Native.Nat.{ℕ, ◌*◌, ◌≤◌}
use lib.Ieee.{Float}
use lib.ListN.{length, take}
use Rattle.std.specs.List.{sum_by, zip}
use Rattle.eos_terms.specs.Fallen.{rows_of, served}
use Rattle.eos_terms.proofs.fallen.fallen_rows.Given as goal

abbrev pub invariant-loop-v : goal.invariant-loop-v
invariant-loop-v l = record {
  fits : l.fallen ≤ 255 * length l.yielded;
  so_far : l.fallen ≡ sum_by (λ (p : Float × ℕ). rows_of p.0 p.1) (take (length l.yielded) (zip l.fn.x served));
}
