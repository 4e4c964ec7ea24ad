-- For a y from 10⁻²⁵⁰ to 1 the quotient by k·2ᵗ is the quotient by k times 2⁻ᵗ, so that the series may have each in either form. Assumes nothing.
use mathlib.Core.Path.{◌≡◌, sym, ◌∙◌}
use mathlib.Core.Bool.{Bool, false, ◌&&◌}
use Prim.Native.Nat.{ℕ, ◌*◌, ◌^◌, ◌≤◌, ◌<◌}
use native.Mathlib.Nat.{le_trans, mul_comm, mul-one, mul-pos}
use lib.Dec.{T, ltb, leb, ltb→lt, leb→le, lit≤}
use lib.Pow.{pow_pos, pow_mono}
use lib.Ieee.{Float, binary64, mul, sub, div, le}
use lib.Ieee.Fits.{and_l, and_r}
use lib.Ieee.Positive.{num, den, den_pos, own_value}
use lib.Ieee.Scale.{round_same}
use Rattle.num_working.specs.Number.{decimal, fraction, whole}
use Rattle.num_exponential.specs.Lockstep.{chain}
use Rattle.num_laws.specs.Quotient.{normal}
use Rattle.num_laws.proofs.Halves.{above_zero, halved, part_value, quotient}
use Rattle.num_laws.proofs.Units.{mul_of}

-- ---- the two forms
abbrev pub part : Float → ℕ → ℕ → Float
part y k t = mul binary64 (div binary64 y (whole k)) (fraction 1 (2 ^ t))

abbrev pub bit : Float → ℕ → Float
bit y t = mul binary64 y (fraction 1 (2 ^ t))

-- a k and a t for which this is so
abbrev few : ℕ → ℕ → Bool
few k t = ltb 0 k && (leb k 16 && leb t 4)

module _ (y : Float) (n : T (normal y)) where
  pub low_of : T (le (decimal 1 250) y)
  unfolding normal
  low_of = and_l (le (decimal 1 250) y) (le y (whole 1)) n

  pub high_of : T (le y (whole 1))
  unfolding normal
  high_of = and_r (le (decimal 1 250) y) (le y (whole 1)) n

  pub part_is : (k t : ℕ) → T (few k t) → part y k t ≡ div binary64 y (whole (k * 2 ^ t))
  part_is k t f =
      let g = and_r (ltb 0 k) (leb k 16 && leb t 4) f in
      halved y low_of high_of k t
      (ltb→lt 0 k (and_l (ltb 0 k) (leb k 16 && leb t 4) f))
      (leb→le k 16 (and_l (leb k 16) (leb t 4) g))
      (leb→le t 4 (and_r (leb k 16) (leb t 4) g))

  pub bit_is : (t : ℕ) → T (leb t 4) → bit y t ≡ div binary64 y (whole (2 ^ t))
  bit_is t f =
      let p = above_zero y low_of high_of in
      let h : t ≤ 4 = leb→le t 4 f in
      let D = den_pos y in
      let P : 0 < 2 ^ t = pow_pos t in
      mul_of binary64 y (fraction 1 (2 ^ t)) (num y) (den y) 1 (2 ^ t) D P (own_value y p) (part_value t h)
      ∙ round_same binary64 false (num y * 1) (den y * 2 ^ t) (num y) (2 ^ t * den y) (mul-pos D P) (mul-pos P D)
      (λ i. mul-one (num y) i * mul_comm (2 ^ t) (den y) i)
      ∙ sym (quotient y (2 ^ t) p P (le_trans (pow_mono h) (lit≤ tt)))

-- ---- the series, from k = 14 down to 8 and from 7 down to 1, with its quotients left open
unfoldable pub seven : (a b c d e f g : Float) → Float → Float
seven a b c d e f g s = less g (less f (less e (less d (less c (less b (less a s))))))
  where
    less : Float → Float → Float
    less q s = sub binary64 (whole 1) (mul binary64 q s)

-- as `chains` has them
unfoldable pub upper : Float → Float
upper y = seven (part y 7 1) (part y 13 0) (part y 3 2) (part y 11 0) (part y 5 1) (part y 9 0) (bit y 3) (whole 1)

unfoldable pub lower : Float → Float → Float
lower y s = seven (part y 7 0) (part y 3 1) (part y 5 0) (bit y 2) (part y 3 0) (bit y 1) (bit y 0) s

pub stepped : (y : Float) → T (normal y) → lower y (upper y) ≡ chain y 14 (whole 1)
unfolding upper lower seven chain
stepped y n =
    let p = part_is y n in
    let b = bit_is y n in
    λ i. seven (p 7 0 tt i) (p 3 1 tt i) (p 5 0 tt i) (b 2 tt i) (p 3 0 tt i) (b 1 tt i) (b 0 tt i)
    (seven (p 7 1 tt i) (p 13 0 tt i) (p 3 2 tt i) (p 11 0 tt i) (p 5 1 tt i) (p 9 0 tt i) (b 3 tt i) (whole 1))

-- as `eased` has them
unfoldable pub eased : Float → Float
eased y =
    let q : ℕ → Float = λ k. div binary64 y (whole k) in
    seven (q 7) (part y 3 1) (q 5) (q 4) (q 3) (q 2) (q 1)
    (seven (part y 7 1) (q 13) (part y 3 2) (q 11) (part y 5 1) (q 9) (q 8) (whole 1))

pub eased_is : (y : Float) → T (normal y) → eased y ≡ chain y 14 (whole 1)
unfolding eased seven chain
eased_is y n =
    let q : ℕ → Float = λ k. div binary64 y (whole k) in
    let p = part_is y n in
    λ i. seven (q 7) (p 3 1 tt i) (q 5) (q 4) (q 3) (q 2) (q 1)
    (seven (p 7 1 tt i) (q 13) (p 3 2 tt i) (q 11) (p 5 1 tt i) (q 9) (q 8) (whole 1))
