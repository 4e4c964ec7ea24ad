-- What stands in the table at each place: one law of all its entries. Assumes nothing.
use mathlib.Core.Path.{◌≡◌, refl}
use mathlib.Core.List.{List}
use Prim.Native.Nat.{ℕ, zero, suc, ◌+◌, ◌*◌, ◌/◌, ◌%◌, ◌<◌}
use native.Mathlib.Nat.{add-zero, zero-add}
use native.Mathlib.Omega.{arith}
use lib.ListN.{get_or}
use Rattle.sheet_write.specs.Pairs.{pairs, pairs_from}
use Rattle.sheet_write.specs.declared.TheConstants.{PAIRS}

-- the two digits of v stand in t at 2 r
abbrev pub Stand : List ℕ → ℕ → ℕ → Type 0
Stand t r v = (get_or t (2 * r) 0 ≡ 48 + v / 10) × (get_or t (2 * r + 1) 0 ≡ 48 + v % 10)

stand_from : (k i r : ℕ) → r < k → Stand (pairs_from k i) r (i + r)
unfolding pairs_from
stand_from zero i r h = absurd (omega arith)
stand_from (suc k) i zero h = (rw add-zero, rw add-zero)
stand_from (suc k) i (suc r) h =
    let e : 2 * suc r ≡ suc (suc (2 * r)) = omega arith in
    let f : suc (suc (2 * r)) + 1 ≡ suc (suc (2 * r + 1)) = omega arith in
    let g : i + suc r ≡ suc i + r = omega arith in
    rw (e, f, g) (stand_from k (suc i) r (omega arith))

pub stand : (t : List ℕ) (r : ℕ) → t ≡ pairs → r < 100 → Stand t r r
unfolding pairs
stand t r e h = rw e (rw zero-add at (stand_from 100 0 r h))

-- the test of the whole table: its two hundred bytes are those of `pairs`, computed
pub table : PAIRS ≡ pairs
unfolding pairs pairs_from
table = refl
