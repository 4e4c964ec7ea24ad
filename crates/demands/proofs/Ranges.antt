-- A whole number from 1 to a top: what the test of its two ends says. Assumes nothing.
use Prim.Native.Nat.{ℕ, ◌≤◌, ◌<◌}
use mathlib.Core.Path.{◌≡◌, refl, sym}
use mathlib.Core.Bool.{Bool, true, false, ◌&&◌, true≢false}
use native.Mathlib.Omega.{arith}
use lib.Dec.{leb}
use borrow.Author.Tests.{le-leb, lt-leb, leb-true, leb-false}

abbrev in_range : ℕ → ℕ → Bool
in_range top n = leb 1 n && leb n top

pub data Outside (top n : ℕ) : Type 0 where
  below_one : n ≡ 0 → Outside top n
  above_top : top < n → Outside top n

module _ (top n : ℕ) where
  pub inside : in_range top n ≡ true → (1 ≤ n) × (n ≤ top)
  inside e = go (leb 1 n) (leb n top) refl refl e
    where
      go : (a b : Bool) → leb 1 n ≡ a → leb n top ≡ b → (a && b) ≡ true → (1 ≤ n) × (n ≤ top)
      go true true p q e = (leb-true 1 n p, leb-true n top q)
      go true false p q e = absurd (true≢false (sym e))
      go false b p q e = absurd (true≢false (sym e))

  pub outside : in_range top n ≡ false → Outside top n
  outside e = go (leb 1 n) (leb n top) refl refl e
    where
      go : (a b : Bool) → leb 1 n ≡ a → leb n top ≡ b → (a && b) ≡ false → Outside top n
      go true true p q e = absurd (true≢false e)
      go true false p q e = above_top (leb-false n top q)
      go false b p q e = below_one (omega (arith, leb-false 1 n p))

  pub is_inside : 1 ≤ n → n ≤ top → in_range top n ≡ true
  is_inside h k = rw (le-leb 1 n h, le-leb n top k)

  pub is_outside : Outside top n → in_range top n ≡ false
  is_outside (below_one e) = rw e
  is_outside (above_top h) = go (leb 1 n)
    where
      go : (a : Bool) → (a && leb n top) ≡ false
      go true = rw (lt-leb n top h)
      go false = refl
