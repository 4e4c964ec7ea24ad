-- The bits of a number that has no minus sign. Assumes nothing.
use Prim.Native.Nat.{ℕ, zero, suc, ◌+◌, ◌*◌, ◌/◌, ◌%◌, ◌^◌, ◌<◌}
use mathlib.Core.Path.{◌≡◌, refl, sym, subst}
use mathlib.Core.Bool.{Bool, true, false, cond, true≢false}
use native.Mathlib.Omega.{arith}
use borrow.Author.Tests.{ltb-true, ltb-false, leb-false}
use lib.Dec.{T, ltb, leb, eqb}
use lib.Ieee.{Float, nan, inf, fin, binary64, fits, odd, of_fields, of_bits, to_bits}
use lib.Ieee.Bits.{of_bits-to_bits}
use lib.Ieee.Exact.{HasValue, odd_sign}
use Rattle.num_working.specs.Number.{nonneg}
use Rattle.num_working.proofs.Numbers.{infinity}

not_minus : (x : Float) (a c : ℕ) → HasValue x true a c → T (nonneg x) → ⊥
not_minus nan a c h n = n
not_minus (inf s) a c h n = n
not_minus (fin true m e) a c h n = n
not_minus (fin false m e) a c h n = true≢false (sym h.0)

either : (b : Bool) (x y : Float) → (T (nonneg x) → ⊥) → (T (nonneg y) → ⊥) → T (nonneg (cond b x y)) → ⊥
either true x y f g n = f n
either false x y f g n = g n

minus_fields : (x t : ℕ) → T (nonneg (of_fields binary64 true x t)) → ⊥
unfolding of_fields
minus_fields zero t n = not_minus (odd 53 true t 0 1074) (t * 2 ^ 0) (2 ^ 1074) (odd_sign 53 true t 0 1074) n
minus_fields (suc x) t n =
    either (eqb (suc x) 2047) (cond (eqb t 0) (inf true) nan) (odd 53 true (4503599627370496 + t) x 1074) (either (eqb t 0) (inf true) nan (λ m. m) (λ m. m))
    (not_minus (odd 53 true (4503599627370496 + t) x 1074) ((4503599627370496 + t) * 2 ^ x) (2 ^ 1074) (odd_sign 53 true (4503599627370496 + t) x 1074)) n

top_fields : (s : Bool) (t : ℕ) → T (nonneg (of_fields binary64 s 2047 t)) → ⊥
unfolding of_fields
top_fields s t n = either (eqb t 0) (inf s) nan (λ m. m) (λ m. m) n

-- the bits of a number that is finite and has no minus sign lie below those of the infinity
pub bits_below : (x : Float) → T (nonneg x) → T (fits binary64 x) → to_bits binary64 x < infinity
unfolding of_bits
bits_below x n f =
    let b = to_bits binary64 x in
    go b (subst (λ (y : Float). T (nonneg y)) (sym (of_bits-to_bits binary64 x f)) n) (leb 0x8000_0000_0000_0000 b) (ltb b infinity) refl refl
  where
    go : (b : ℕ) → T (nonneg (of_bits binary64 b)) → (s l : Bool) → leb 0x8000_0000_0000_0000 b ≡ s → ltb b infinity ≡ l → b < infinity
    go b m s true q h = ltb-true b infinity h
    go b m true false q h = absurd (minus_fields (b % 0x8000_0000_0000_0000 / 4503599627370496) (b % 4503599627370496) (rw q at m))
    go b m false false q h =
        let u : b < 0x8000_0000_0000_0000 = leb-false 0x8000_0000_0000_0000 b q in
        let v = ltb-false b infinity h in
        let e : b % 0x8000_0000_0000_0000 / 4503599627370496 ≡ 2047 = omega arith in
        absurd (top_fields false (b % 4503599627370496) (rw (q, e) at m))
