-- Comparisons of floats of either sign: what is not above a number, which is not above a third, is not above the third. Assumes nothing.
use Prim.Native.Nat.{ℕ, ◌+◌, ◌*◌, ◌≤◌, ◌<◌}
use mathlib.Core.Path.{◌≡◌, refl, sym}
use mathlib.Core.Bool.{Bool, true, false, true≢false}
use native.Mathlib.Omega.{arith}
use native.Mathlib.Nat.{le_trans, le_of_eq, le_of_mul-le-mul_right, zero-mul}
use borrow.Author.Tests.{le-ltb, ltb-false}
use lib.Ieee.{Float, nan, inf, fin, up, down, below, lt}
use lib.Ieee.Fits.{down_pos}
use lib.Ieee.Positive.{through}
use lib.Ieee.Scale.{finite}

-- ---- of fractions a/p, b/q and c/r with signs, cross-multiplied as `lt` does
module _ (a p b q c r : ℕ) (P : 0 < p) (Q : 0 < q) (R : 0 < r) where
  -- a product that is 0 by a factor that is not
  none : (x y : ℕ) → 0 < y → x * y ≤ 0 → x ≤ 0
  none x y h k = le_of_mul-le-mul_right (le_trans k (le_of_eq (sym (zero-mul y)))) h

  no_product : (x y : ℕ) → x ≤ 0 → x * y ≡ 0
  no_product x y h = let z : x ≡ 0 = omega arith in rw z (zero-mul y)

  nothing : a ≤ 0 → c ≤ 0 → below true (c * p) false (a * r) ≡ false
  nothing h k = let x = no_product c p k in let y = no_product a r h in le-ltb 0 (c * p + a * r) (omega arith)

  of_signs : (s t u : Bool) → below t (b * p) s (a * q) ≡ false → below u (c * q) t (b * r) ≡ false → below u (c * p) s (a * r) ≡ false
  of_signs false false false h k = le-ltb (c * p) (a * r) (through a b c p q r Q (ltb-false (b * p) (a * q) h) (ltb-false (c * q) (b * r) k))
  of_signs true true true h k = le-ltb (a * r) (c * p) (through c b a r q p Q (ltb-false (b * r) (c * q) k) (ltb-false (a * q) (b * p) h))
  of_signs true false false h k = refl
  of_signs true true false h k = refl
  of_signs true false true h k =
      let z = ltb-false 0 (c * q + b * r) k in
      let x = no_product c p (none c q Q (omega arith)) in
      le-ltb (a * r) (c * p) (omega arith)
  of_signs false true false h k =
      let z = ltb-false 0 (b * p + a * q) h in
      let y = no_product a r (none a q Q (omega arith)) in
      le-ltb (c * p) (a * r) (omega arith)
  of_signs false false true h k =
      let z = ltb-false 0 (c * q + b * r) k in
      let w = no_product b p (none b r R (omega arith)) in
      nothing (none a q Q (omega (arith, ltb-false (b * p) (a * q) h))) (none c q Q (omega arith))
  of_signs false true true h k =
      let z = ltb-false 0 (b * p + a * q) h in
      let w = no_product b r (none b p P (omega arith)) in
      nothing (none a q Q (omega arith)) (none c q Q (omega (arith, ltb-false (b * r) (c * q) k)))

-- a is not above b, and b is not above c; where b is no number nothing follows
pub not_above_through : (a b c : Float) → finite b ≡ true → lt b a ≡ false → lt c b ≡ false → lt c a ≡ false
unfolding lt
not_above_through a nan c f h k = absurd (true≢false (sym f))
not_above_through a (inf t) c f h k = absurd (true≢false (sym f))
not_above_through nan (fin t n d) nan f h k = refl
not_above_through nan (fin t n d) (inf u) f h k = refl
not_above_through nan (fin t n d) (fin u l g) f h k = refl
not_above_through (inf false) (fin t n d) c f h k = absurd (true≢false h)
not_above_through (inf true) (fin t n d) nan f h k = refl
not_above_through (inf true) (fin t n d) (inf true) f h k = refl
not_above_through (inf true) (fin t n d) (inf false) f h k = refl
not_above_through (inf true) (fin t n d) (fin u l g) f h k = refl
not_above_through (fin s m e) (fin t n d) nan f h k = refl
not_above_through (fin s m e) (fin t n d) (inf u) f h k = k
not_above_through (fin s m e) (fin t n d) (fin u l g) f h k =
    of_signs (m * up e) (down e) (n * up d) (down d) (l * up g) (down g) (down_pos e) (down_pos d) (down_pos g) s t u h k
