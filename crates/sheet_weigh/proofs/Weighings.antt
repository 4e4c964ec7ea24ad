-- What a line's volume can be, and that a float holds it. Assumes nothing.
use mathlib.Core.Path.{◌≡◌}
use mathlib.Core.Bool.{true, and-eq-true_iff}
use Prim.Native.Nat.{ℕ, ◌^◌, ◌≤◌}
use native.Mathlib.Omega.{arith}
use lib.Dec.{T, leb, le→leb}
use lib.IntN.{pos}
use lib.Ieee.{binary64, in_float}
use borrow.Author.Tests.{leb-true}
use Rattle.sheet_weigh.specs.Weighing.{is_volume}

pub in_float_lem : (v : ℕ) → v ≤ 1_000_000 → T (in_float binary64 (pos v))
unfolding in_float
in_float_lem v h = le→leb v (2 ^ 53) (omega arith)

pub volume_most : (v : ℕ) → is_volume v ≡ true → v ≤ 1_000_000
volume_most v e = leb-true v 1_000_000 ((and-eq-true_iff (leb 1 v) (leb v 1_000_000)).0 e).1
