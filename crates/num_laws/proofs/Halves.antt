-- A quotient by k·2ᵗ is the quotient by k times 2⁻ᵗ, bit for bit, for a y from 10⁻²⁵⁰ to 1: both quotients are in the normal range, where a power
-- of two goes through rounding. Assumes nothing.
use mathlib.Core.Path.{◌≡◌, refl, sym, ap, ◌∙◌, subst}
use mathlib.Core.Logic.{◌⊎◌, inl, inr}
use mathlib.Core.Bool.{true, false, true≢false}
use Prim.Native.Nat.{ℕ, zero, suc, ◌+◌, ◌-◌, ◌*◌, ◌/◌, ◌%◌, ◌^◌, ◌≤◌, ◌<◌, compare}
use native.Mathlib.Nat.{le_trans, le_of_eq, lt_of_le_of_lt, lt_of_lt_of_le, eq-or-lt_of_le, mul-le-mul, mul-le-mul_left, le-mul_of_pos_right}
use native.Mathlib.Nat.{mul-one, one-mul, mul_comm, mul_assoc, mul_left_comm, mul-pos, mul-div_cancel, div-div-eq-div-mul}
use native.Mathlib.Omega.{arith}
use lib.Dec.{T, eqb-suc-zero, lit≤, lit<}
use lib.Pow.{pow-add, pow_pos, pow-lt, pow_mono}
use lib.Ieee.{Float, nan, inf, fin, Format, binary64, prec, low, hid, down, size, round, to_bits, of_bits, fits, mul, div, le, of_int}
use lib.Ieee.Bits.{of_bits-to_bits}
use lib.Ieee.Digits.{back}
use lib.Ieee.Fits.{down_pos, nearest-le, kept-lt, round-fits, two, two-le_pos}
use lib.Ieee.Exact.{HasValue, round_exact}
use lib.Ieee.Back.{round_whole}
use lib.Ieee.Order.{kept, drop, round_mono}
use lib.Ieee.Scale.{round_same, grid, overflow, grid_scale, normal_of_fraction, round_under, round_val}
use lib.Ieee.Positive.{num, den, positive, den_pos, positive-finite, value→cross, positive_of_value, le→cross, through, between, mul_at}
use Rattle.num_working.specs.Number.{decimal, fraction, whole, nonneg}
use Rattle.num_laws.proofs.Orders.{positive_nonneg}

-- ---- an order, by numbers that the two equal
pub le_by : {a b c d : ℕ} → a ≡ b → b ≤ c → c ≡ d → a ≤ d
le_by p h q = le_trans (le_of_eq p) (le_trans h (le_of_eq q))

pub lt_by : {a b c d : ℕ} → a ≡ b → b < c → c ≡ d → a < d
lt_by p h q = lt_of_le_of_lt (le_of_eq p) (lt_of_lt_of_le h (le_of_eq q))

-- ---- a value that fits is written in one way: its bits hang on its size alone
pub bits_of_value : (f : Format) (x : Float) (g : ℕ) → HasValue x false g (2 ^ low f)
    → to_bits f x ≡ 0 + (size g - prec f) * hid f + g / 2 ^ (size g - prec f)
unfolding to_bits
bits_of_value f nan g h = absurd h
bits_of_value f (inf s) g h = absurd h
bits_of_value f (fin true m e) g h = absurd (true≢false h.0)
bits_of_value f (fin false m e) g h =
    ap (λ (n : ℕ). 0 + (size n - prec f) * hid f + n / 2 ^ (size n - prec f)) (ap (λ (z : ℕ). z / down e) h.1 ∙ mul-div_cancel g (down_pos e))

same_value : (f : Format) (x y : Float) (g : ℕ) → T (fits f x) → T (fits f y) → HasValue x false g (2 ^ low f) → HasValue y false g (2 ^ low f) → x ≡ y
same_value f x y g p q h k =
    sym (of_bits-to_bits f x p) ∙ ap (of_bits f) (bits_of_value f x g h ∙ sym (bits_of_value f y g k)) ∙ of_bits-to_bits f y q

-- ---- rounding a rounded fraction changes nothing
pub kept_le : (p n c : ℕ) → kept p n c ≤ 2 ^ p
kept_le p n c =
    let k = drop p n c in
    let u = c * 2 ^ k in
    le_trans (nearest-le (n / u) (compare (n % u * 2) u))
    (subst (λ (x : ℕ). x < 2 ^ p) (div-div-eq-div-mul n c (2 ^ k)) (kept-lt p (n / c)))

module _ (f : Format) (a c : ℕ) (h : grid f a c < overflow f) where
  again : HasValue (round f false (grid f a c) (2 ^ low f)) false (grid f a c) (2 ^ low f)
  again = go (eq-or-lt_of_le (kept_le (prec f) (a * 2 ^ low f) c))
    where
      go : (kept (prec f) (a * 2 ^ low f) c ≡ 2 ^ prec f) ⊎ (kept (prec f) (a * 2 ^ low f) c < 2 ^ prec f)
          → HasValue (round f false (grid f a c) (2 ^ low f)) false (grid f a c) (2 ^ low f)
      go (inl e) =
          let p = prec f in
          let k = drop p (a * 2 ^ low f) c in
          let w : grid f a c ≡ 1 * 2 ^ (p + k) = ap (λ (z : ℕ). z * 2 ^ k) e ∙ sym (pow-add 2 p k) ∙ sym (one-mul (2 ^ (p + k))) in
          round_exact f false (grid f a c) (2 ^ low f) 1 (p + k) (pow_pos (low f)) (pow-lt (two-le_pos p (two f)))
          (subst (λ (z : ℕ). z < overflow f) w h) (ap (λ (z : ℕ). z * 2 ^ low f) w)
      go (inr l) =
          let n = a * 2 ^ low f in
          round_exact f false (grid f a c) (2 ^ low f) (kept (prec f) n c) (drop (prec f) n c) (pow_pos (low f)) l h refl

  rounded_again : round f false (grid f a c) (2 ^ low f) ≡ round f false a c
  rounded_again =
      let g = grid f a c in
      same_value f (round f false g (2 ^ low f)) (round f false a c) g (round-fits f false g (2 ^ low f)) (round-fits f false a c)
      again (round_val f a c h)

cancel : (g s l : ℕ) → g * s * 1 * l ≡ g * (l * s)
cancel g s l = ap (λ (z : ℕ). z * l) (mul-one (g * s)) ∙ mul_assoc g s l ∙ ap (λ (z : ℕ). g * z) (mul_comm s l)

-- 2ᵗ·a/q, rounded, times z = 2⁻ᵗ is a/q, rounded, where a/q is in the normal range
scaled_back : (f : Format) (a q t : ℕ) (z : Float) → 0 < q → prec f ≤ size (a * 2 ^ low f / q)
    → T (positive (round f false (a * 2 ^ t) q)) → HasValue z false 1 (2 ^ t)
    → mul f (round f false (a * 2 ^ t) q) z ≡ round f false a q
scaled_back f a q t z Q n p v =
    let x = round f false (a * 2 ^ t) q in
    let g = grid f a q in
    let l = 2 ^ low f in
    let scaled : grid f (a * 2 ^ t) q ≡ g * 2 ^ t = grid_scale f a q t Q n in
    let under : grid f (a * 2 ^ t) q < overflow f = round_under f (a * 2 ^ t) q (positive-finite x p) in
    mul_at f x z (g * 2 ^ t) l 1 (2 ^ t) p (positive_of_value z 1 (2 ^ t) v (pow_pos 0)) (pow_pos (low f)) (pow_pos t)
    (subst (λ (w : ℕ). HasValue x false w l) scaled (round_val f (a * 2 ^ t) q under)) v
    ∙ round_same f false (g * 2 ^ t * 1) (l * 2 ^ t) g l (mul-pos (pow_pos (low f)) (pow_pos t)) (pow_pos (low f)) (cancel g (2 ^ t) l)
    ∙ rounded_again f a q (lt_of_le_of_lt (le-mul_of_pos_right g (pow_pos t)) (subst (λ (w : ℕ). w < overflow f) scaled under))

-- ---- a quotient as a fraction that is rounded; and by a small whole number
pub div_is : (f : Format) (x y : Float) → T (nonneg x) → T (positive y) → div f x y ≡ round f false (num x * den y) (num y * den x)
unfolding div
div_is f nan y p q = absurd p
div_is f (inf s) y p q = absurd p
div_is f (fin true m e) y p q = absurd p
div_is f (fin false m e) nan p q = absurd q
div_is f (fin false m e) (inf t) p q = absurd q
div_is f (fin false m e) (fin true n d) p q = absurd q
div_is f (fin false m e) (fin false zero d) p q = absurd q
div_is f (fin false m e) (fin false (suc n) d) p q = rw (eqb-suc-zero n) refl

whole_value : (n : ℕ) → n ≤ 1024 → HasValue (whole n) false n 1
unfolding whole of_int
whole_value n h = round_whole binary64 false n (le_trans h (lit≤ tt))

pub quotient : (y : Float) (n : ℕ) → T (positive y) → 0 < n → n ≤ 1024 → div binary64 y (whole n) ≡ round binary64 false (num y) (n * den y)
quotient y n p N h =
    let w = whole n in
    let v = whole_value n h in
    let x : num w ≡ n * den w = sym (mul-one (num w)) ∙ value→cross w n 1 v in
    div_is binary64 y w (positive_nonneg y p) (positive_of_value w n 1 v N)
    ∙ round_same binary64 false (num y * den w) (num w * den y) (num y) (n * den y)
    (mul-pos (subst (λ (z : ℕ). 0 < z) (sym x) (mul-pos N (den_pos w))) (den_pos y)) (mul-pos N (den_pos y))
    (rw x (simp (mul_assoc, mul_comm, mul_left_comm)))

-- ---- 2⁻ᵗ
pub pow_split : (m j e : ℕ) → e ≤ j → m * 2 ^ j ≡ m * 2 ^ (j - e) * 2 ^ e
pow_split m j e h =
    ap (λ (z : ℕ). m * 2 ^ z) (sym (back j e h)) ∙ ap (λ (z : ℕ). m * z) (pow-add 2 (j - e) e) ∙ sym (mul_assoc m (2 ^ (j - e)) (2 ^ e))

pub part_value : (t : ℕ) → t ≤ 4 → HasValue (fraction 1 (2 ^ t)) false 1 (2 ^ t)
unfolding fraction
part_value t h =
    let l = low binary64 in
    round_exact binary64 false 1 (2 ^ t) 1 (l - t) (pow_pos t) (lit< tt)
    (subst (λ (z : ℕ). z < overflow binary64) (sym (one-mul (2 ^ (l - t)))) (pow-lt {i = l - t} {j = l + 1024} (omega arith)))
    (pow_split 1 l t (omega arith))

-- ---- a value that is no less than lo is no less than 1 / b, where lo is not
pub no_less : (lo x : Float) (b : ℕ) → T (positive lo) → T (positive x) → 1 * den lo ≤ num lo * b → T (le lo x) → den x ≤ num x * b
no_less lo x b p q l h =
    subst (λ (z : ℕ). z ≤ num x * b) (one-mul (den x)) (through 1 (num lo) (num x) b (den lo) (den x) (den_pos lo) l (le→cross lo x p q h))

-- ---- y from 10⁻²⁵⁰ to 1
shuffle : (b a n u : ℕ) → b * (n * (a * u)) ≡ a * (b * (n * u))
shuffle b a n u = simp mul_left_comm

module _ (y : Float) (lo : T (le (decimal 1 250) y)) (hi : T (le y (whole 1))) where
  pub above_zero : T (positive y)
  unfolding decimal fraction whole of_int round
  above_zero = between (decimal 1 250) y (whole 1) tt tt lo hi

  pub at_least : den y ≤ num y * 2 ^ 900
  unfolding decimal fraction round
  at_least = no_less (decimal 1 250) y (2 ^ 900) tt above_zero (lit≤ tt) lo

  pub at_most : num y ≤ den y
  unfolding whole of_int round
  at_most = omega (arith, le→cross y (whole 1) above_zero tt hi)

  enough : (b n r : ℕ) → n ≤ 256 → b * (256 * 2 ^ 900) ≤ r → b * (n * den y) ≤ num y * r
  enough b n r h k =
      le_trans (mul-le-mul_left b (mul-le-mul h at_least))
      (le_trans (le_of_eq (shuffle b (num y) 256 (2 ^ 900))) (mul-le-mul_left (num y) k))

  normal : (n : ℕ) → 0 < n → n ≤ 256 → prec binary64 ≤ size (num y * 2 ^ low binary64 / (n * den y))
  normal n N h = normal_of_fraction binary64 (num y) (n * den y) (mul-pos N (den_pos y)) (enough (2 ^ 52) n (2 ^ low binary64) h (lit≤ tt))

  quotient_positive : (n : ℕ) → 0 < n → n ≤ 256 → T (positive (round binary64 false (num y) (n * den y)))
  unfolding fraction whole of_int round
  quotient_positive n N h =
      let D = mul-pos N (den_pos y) in
      between (fraction 1 (2 ^ 1000)) (round binary64 false (num y) (n * den y)) (whole 1) tt tt
      (round_mono binary64 1 (2 ^ 1000) (num y) (n * den y) (pow_pos 1000) D (enough 1 n (2 ^ 1000) h (lit≤ tt)))
      (round_mono binary64 (num y) (n * den y) 1 1 D (pow_pos 0)
      (le_by (mul-one (num y)) (le_trans at_most (le-mul_of_pos_right (den y) N)) (mul_comm (den y) n ∙ sym (one-mul (n * den y)))))

  pub halved : (k t : ℕ) → 0 < k → k ≤ 16 → t ≤ 4 → mul binary64 (div binary64 y (whole k)) (fraction 1 (2 ^ t)) ≡ div binary64 y (whole (k * 2 ^ t))
  halved k t K h l =
      let a = num y in
      let n = k * 2 ^ t in
      let N : 0 < n = mul-pos K (pow_pos t) in
      let m : n ≤ 256 = mul-le-mul h (pow_mono l) in
      let q = n * den y in
      let crossed : a * q ≡ a * 2 ^ t * (k * den y) = simp (mul_assoc, mul_comm, mul_left_comm) in
      let same : round binary64 false a (k * den y) ≡ round binary64 false (a * 2 ^ t) q =
      round_same binary64 false a (k * den y) (a * 2 ^ t) q (mul-pos K (den_pos y)) (mul-pos N (den_pos y)) crossed in
      ap (λ (z : Float). mul binary64 z (fraction 1 (2 ^ t))) (quotient y k above_zero K (le_trans h (lit≤ tt)) ∙ same)
      ∙ scaled_back binary64 a q t (fraction 1 (2 ^ t)) (mul-pos N (den_pos y)) (normal n N m)
      (subst (λ (z : Float). T (positive z)) same (quotient_positive k K (le_trans h (lit≤ tt)))) (part_value t l)
      ∙ sym (quotient y n above_zero N (le_trans m (lit≤ tt)))
