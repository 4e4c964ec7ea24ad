-- A quotient by an odd number k below 16 with no division, bit for bit: q, the product by a number a little below 1/k cut to 48 bits, is no more than y/k;
-- q·k and y − q·k are exact; and what is left over, times a number a little above 1/k, makes up the rest so nearly that rounding sees no difference,
-- since a quotient by an odd number is no nearer than 1/(2k) to the middle between two whole numbers. Assumes nothing.
use mathlib.Core.Path.{◌≡◌, refl, sym, ap, ◌∙◌, subst}
use mathlib.Core.Logic.{inl, inr}
use mathlib.Core.Bool.{Bool, true, false, not, ◌&&◌}
use Prim.Native.Nat.{ℕ, suc, ◌+◌, ◌-◌, ◌*◌, ◌/◌, ◌%◌, ◌^◌, ◌≤◌, ◌<◌, zero-le, compare, Ordering}
use native.Mathlib.Nat.{le_trans, le_of_eq, le_of_lt, le_of_suc-le-suc, le_antisymm, lt_of_le_of_lt, lt_of_lt_of_le, lt_irrefl}
use native.Mathlib.Nat.{eq-zero-or-pos, le_of_mul-le-mul_right, lt_of_mul-lt-mul_right, le-div_iff_mul-le}
use native.Mathlib.Nat.{mul-zero, zero-mul, mul-one, one-mul, mul_comm, mul_assoc, mul_left_comm, mul_right_comm, mul-pos, add-mul, suc-mul}
use native.Mathlib.Nat.{mul-le-mul, mul-le-mul_left, mul-le-mul_right, mul-lt-mul_of_pos_left, mul-lt-mul_of_pos_right}
use native.Mathlib.Nat.{add-zero, sub-le, div-le_self, div-div-eq-div-mul, mul-div-mul_right, div-lt_iff_lt-mul}
use native.Mathlib.Omega.{arith}
use lib.Dec.{T, is_le, compare_is_eq, eqb, leb, ltb, eqb→eq, leb→le, le→leb, ltb→lt, nltb→le, lit≤, lit<}
use lib.Arith.{digits_div, digits_mod, mod-mul, lt→nleb}
use lib.Pow.{pow-add, pow_pos, pow_mono}
use lib.Ieee.{Float, nan, inf, fin, Format, binary64, prec, low, hid, size, nearest, units, round, fits, is_nan, nan_bits, to_bits, of_bits}
use lib.Ieee.{add, sub, mul, div, le}
use lib.Ieee.Bits.{nan_bits_is}
use lib.Ieee.Digits.{size-lt, size-le, size_reaches}
use lib.Ieee.Fits.{and_l, and_r, round_is, two}
use lib.Ieee.Exact.{HasValue}
use lib.Ieee.Nearest.{closest, div_mono}
use lib.Ieee.Scale.{round_same}
use lib.Ieee.Positive.{num, den, positive, den_pos, own_value, value→cross, value_pos, first_pos}
use Rattle.num_working.specs.Number.{decimal, whole}
use Rattle.num_laws.specs.Quotient.{normal, divisor, just_below, just_above}
use Rattle.num_laws.proofs.Orders.{positive_nonneg}
use Rattle.num_laws.proofs.Halves as Halves
use Rattle.num_laws.proofs.Halves.{le_by, lt_by, pow_split, div_is}
use Rattle.num_laws.proofs.Units.{Digits, Product, pow_lt_back, size_gt, last_digit, minus_times, bits_are, of_bits_lem, counted}
use Rattle.num_laws.proofs.Units.{digits_of, digits_under, exact, product, mul_of, add_of, sub_of}

-- ---- a fraction N/k of an odd k, moved up by less than 1/(2k), is rounded to the same whole number
less : (a b : ℕ) → a < b → compare a b ≡ Ordering.lt
less a b h = go (compare a b) (le→leb a b (le_of_lt h)) (λ t. lt_irrefl b (subst (λ (x : ℕ). x < b) (eqb→eq a b t) h))
  where
    go : (o : Ordering) → T (is_le o) → (T (compare_is_eq o) → ⊥) → o ≡ Ordering.lt
    go Ordering.lt t n = refl
    go Ordering.eq t n = absurd (n tt)
    go Ordering.gt t n = absurd t

more : (a b : ℕ) → b < a → compare a b ≡ Ordering.gt
more a b h = go (compare a b) (lt→nleb a b h)
  where
    go : (o : Ordering) → T (not (is_le o)) → o ≡ Ordering.gt
    go Ordering.lt t = absurd t
    go Ordering.eq t = absurd t
    go Ordering.gt t = refl

same_side : (k r E u : ℕ) → k % 2 ≡ 1 → 2 * E < u → compare ((r * u + E) * 2) (k * u) ≡ compare (r * 2) k
same_side k r E u odd h = go (ltb (r * 2) k) (ltb→lt (r * 2) k) (nltb→le (r * 2) k)
  where
    twice : (r * u + E) * 2 ≡ r * 2 * u + E * 2
    twice = add-mul (r * u) E 2 ∙ ap (λ (z : ℕ). z + E * 2) (mul_right_comm r u 2)

    go : (b : Bool) → (T b → r * 2 < k) → (T (not b) → k ≤ r * 2) → compare ((r * u + E) * 2) (k * u) ≡ compare (r * 2) k
    go true l n =
        let s : suc (r * 2) * u ≤ k * u = mul-le-mul_right u (l tt) in
        let z = suc-mul (r * 2) u in
        less ((r * u + E) * 2) (k * u) (omega (arith, twice)) ∙ sym (less (r * 2) k (l tt))
    go false l n =
        let m : k < r * 2 = omega (arith, n tt) in
        let s : suc k * u ≤ r * 2 * u = mul-le-mul_right u m in
        let z = suc-mul k u in
        more ((r * u + E) * 2) (k * u) (omega (arith, twice)) ∙ sym (more (r * 2) k m)

unmoved : (k N E u : ℕ) → 0 < k → k % 2 ≡ 1 → 2 * E < u → closest (N * u + E) (k * u) ≡ closest N k
unmoved k N E u K odd h =
    let l : E < u = omega arith in
    let U : 0 < u = omega arith in
    let w : (N * u + E) / (k * u) ≡ N / k =
    ap (λ (z : ℕ). (N * u + E) / z) (mul_comm k u) ∙ sym (div-div-eq-div-mul (N * u + E) u k) ∙ ap (λ (z : ℕ). z / k) (digits_div N l) in
    let r : (N * u + E) % (k * u) ≡ N % k * u + E = mod-mul (N * u + E) K U ∙ (λ i. digits_div N l i % k * u + digits_mod N l i) in
    ap (λ (z : ℕ). nearest z (compare ((N * u + E) % (k * u) * 2) (k * u))) w
    ∙ ap (λ (z : ℕ). nearest (N / k) (compare (z * 2) (k * u))) r
    ∙ ap (nearest (N / k)) (same_side k (N % k) E u odd h)

-- ---- so Y/k units, moved up by less than half of 2ᵈ units, round alike, where Y is a count that the format holds and Y/k is 2ᵈ times hid units at least
settled : (f : Format) (Y E k d : ℕ) (D : Digits f Y) → 0 < k → k % 2 ≡ 1 → 2 * E < 2 ^ d → hid f * 2 ^ d * k ≤ Y
    → round f false (Y + E) (k * 2 ^ low f) ≡ round f false Y (k * 2 ^ low f)
settled f Y E k d D K odd small big =
    let p = prec f in
    let l = 2 ^ low f in
    let L : 0 < l = pow_pos (low f) in
    let W = Y / k in
    let z = size W - p in
    let W' = (Y + E) / k in
    let reach : p - 1 + d < size W =
    size_gt W (p - 1 + d) ((le-div_iff_mul-le K).1 (le_trans (le_of_eq (ap (λ (x : ℕ). x * k) (pow-add 2 (p - 1) d))) big)) in
    let P : p ≤ size W = omega (arith, two f) in
    let dz : d ≤ z = omega (arith, two f) in
    let full : size W ≡ p + z = omega arith in
    let W> = size_reaches W (p - 1 + z) (last_digit (size W) p (two f) P) in
    let W< : W < 2 ^ (p + D.e) = lt_of_le_of_lt (div-le_self Y k) (digits_under f Y D) in
    let ze : z ≤ D.e = omega (arith, two f, pow_lt_back (p - 1 + z) (p + D.e) (lt_of_le_of_lt W> W<)) in
    let N = D.m * 2 ^ (D.e - z) in
    let is : Y ≡ N * 2 ^ z = D.is ∙ pow_split D.m D.e z ze in
    let E< : 2 * E < 2 ^ z = lt_of_lt_of_le small (pow_mono dz) in
    let top : Y < 2 ^ (p + z) * k = (div-lt_iff_lt-mul K).0 (subst (λ (x : ℕ). W < 2 ^ x) full (size-lt W)) in
    let split : 2 ^ (p + z) * k ≡ 2 ^ p * k * 2 ^ z = ap (λ (x : ℕ). x * k) (pow-add 2 p z) ∙ mul_right_comm (2 ^ p) (2 ^ z) k in
    let N< : N < 2 ^ p * k = lt_of_mul-lt-mul_right (2 ^ z) (lt_by (sym is) top split) in
    let next : suc N * 2 ^ z ≤ 2 ^ p * k * 2 ^ z = mul-le-mul_right (2 ^ z) N< in
    let top' : Y + E < 2 ^ (p + z) * k = omega (arith, suc-mul N (2 ^ z)) in
    let same : size W' ≡ size W =
    le_antisymm (size-le W' (size W) (subst (λ (x : ℕ). W' < 2 ^ x) (sym full) ((div-lt_iff_lt-mul K).1 top')))
    (size-le W (size W') (lt_of_le_of_lt (div_mono Y k (Y + E) k K K (mul-le-mul_right k (omega arith))) (size-lt W'))) in
    let u = l * 2 ^ z in
    let Yl : Y * l ≡ N * u = ap (λ (x : ℕ). x * l) is ∙ mul_assoc N (2 ^ z) l ∙ ap (λ (x : ℕ). N * x) (mul_comm (2 ^ z) l) in
    let at : (e : ℕ) → 2 * e < 2 ^ z → closest ((Y + e) * l) (k * l * 2 ^ z) ≡ closest N k =
    λ e h.
    (λ i. closest ((add-mul Y e l ∙ ap (λ (x : ℕ). x + e * l) Yl) i) (mul_assoc k l (2 ^ z) i))
    ∙ unmoved k N (e * l) u K odd (lt_by (sym (mul_assoc 2 e l)) (mul-lt-mul_of_pos_right h L) (mul_comm (2 ^ z) l)) in
    let rounded : ℕ → ℕ → Float = λ X x. units f false (closest (X * l) (k * l * 2 ^ x)) x in
    round_is f false (Y + E) (k * l)
    ∙ ap (rounded (Y + E)) (ap (λ (x : ℕ). size x - p) (mul-div-mul_right (Y + E) k L) ∙ ap (λ (x : ℕ). x - p) same)
    ∙ ap (λ (x : ℕ). units f false x z) (at E E< ∙ sym (at 0 (pow_pos z)) ∙ ap (λ (x : ℕ). closest (x * l) (k * l * 2 ^ z)) (add-zero Y))
    ∙ sym (round_is f false Y (k * l) ∙ ap (rounded Y) (ap (λ (x : ℕ). size x - p) (mul-div-mul_right Y k L)))

-- ---- what is near y·c, with k·c near 1, is near y/k: P and A are the bounds of a rounded product, α and β those that are asked for
module _ (P A Y C c k T α β : ℕ) (pos : 0 < P * c) where
  asked : β * (k * T) * (P * c) ≡ β * k * (P * (T * c))
  asked = simp (mul_assoc, mul_comm, mul_left_comm)

  middle : β * k * (A * (Y * C)) ≡ Y * (β * (A * (k * C)))
  middle = simp (mul_assoc, mul_comm, mul_left_comm)

  given : Y * (α * (P * c)) ≡ α * Y * (P * c)
  given = simp (mul_assoc, mul_comm, mul_left_comm)

  scaled_over : P * (T * c) ≤ A * (Y * C) → β * (A * (k * C)) ≤ α * (P * c) → β * (k * T) ≤ α * Y
  scaled_over h test =
      le_of_mul-le-mul_right (le_by asked (le_trans (mul-le-mul_left (β * k) h) (le_trans (le_of_eq middle) (mul-le-mul_left Y test))) given) pos

  scaled_below : A * (Y * C) ≤ P * (T * c) → α * (P * c) ≤ β * (A * (k * C)) → α * Y ≤ β * (k * T)
  scaled_below h test =
      let back = le_trans (mul-le-mul_left Y test) (le_trans (le_of_eq (sym middle)) (mul-le-mul_left (β * k) h)) in
      le_of_mul-le-mul_right (le_by (sym given) back (sym asked)) pos

-- a product rounded is off by 2⁻⁵² of it at most
just_below_over : (X c : ℕ) → 2 ^ 50 * X ≤ (2 ^ 50 - 1) * c → 1 * ((2 ^ 52 + 1) * X) ≤ 1 * (2 ^ 52 * c)
just_below_over X c h = omega arith

just_below_below : (X c : ℕ) → (2 ^ 46 - 1) * c ≤ 2 ^ 46 * X → (2 ^ 20 - 1) * (2 ^ 52 * c) ≤ 2 ^ 20 * ((2 ^ 52 - 1) * X)
just_below_below X c h = omega arith

just_above_below : (X c : ℕ) → (2 ^ 50 + 1) * c ≤ 2 ^ 50 * X → 1 * (2 ^ 52 * c) ≤ 1 * ((2 ^ 52 - 1) * X)
just_above_below X c h = omega arith

just_above_over : (X c : ℕ) → 2 ^ 46 * X ≤ (2 ^ 46 + 1) * c → 2 ^ 40 * ((2 ^ 52 + 1) * X) ≤ (2 ^ 40 + 1) * (2 ^ 52 * c)
just_above_over X c h = omega arith

-- ---- the bits of the product, cut to 48
abbrev pub cut : Float → Float → ℕ
cut y c = to_bits binary64 (mul binary64 y c) - to_bits binary64 (mul binary64 y c) % 32

cut_bits : (d K : ℕ) → d * 2 ^ 52 + K - (d * 2 ^ 52 + K) % 32 ≡ d * 2 ^ 52 + (K - K % 32)
cut_bits d K = omega arith

cut_full : (K : ℕ) → 2 ^ 52 ≤ K → 2 ^ 52 ≤ K - K % 32
cut_full K h = omega arith

by_32 : (K : ℕ) → K - K % 32 ≡ K / 32 * 32
by_32 K = omega arith

few_digits : (K : ℕ) → K < 2 ^ 53 → K / 32 ≤ 2 ^ 48
few_digits K h = omega arith

regrouped : (a b c k : ℕ) → a * b * c * k ≡ a * k * (b * c)
regrouped a b c k = simp (mul_assoc, mul_comm, mul_left_comm)

-- ---- what is left of y is less than 2³⁹ times 2ᵈ units
little : (Y X G s : ℕ) → (2 ^ 20 - 1) * Y ≤ 2 ^ 20 * X → X ≤ 15 * G → G < 2 ^ 20 * s → Y ≤ X + 30 * s
little Y X G s a b c = omega arith

left_over : (Y X Z v : ℕ) → Y ≤ X + 30 * (2 ^ 33 * v) → X ≤ Z + 465 * v → 0 < v → Y < Z + 2 ^ 39 * v
left_over Y X Z v a b c = omega arith

difference : (a b w : ℕ) → a < b + w → 0 < w → a - b < w
difference a b w h p = omega arith

-- what is added up is more than y/k by less than half of 2ᵈ units, k times
excess : (R X v : ℕ) → R < 2 ^ 39 * v → 2 ^ 40 * X ≤ (2 ^ 40 + 1) * R → 2 * (X - R) < v
excess R X v h k = omega arith

sixteen : (Y X G : ℕ) → (2 ^ 20 - 1) * Y ≤ 2 ^ 20 * X → X ≤ 15 * G → Y ≤ 16 * G
sixteen Y X G a b = omega arith

made_up : (Y Z X : ℕ) → Z ≤ Y → Y - Z ≤ X → Z + X ≡ Y + (X - (Y - Z))
made_up Y Z X h k = omega arith

a_number : (x : Float) (a c : ℕ) → HasValue x false a c → T (not (is_nan x))
unfolding is_nan
a_number nan a c v = absurd v
a_number (inf s) a c v = absurd v
a_number (fin s m e) a c v = tt

-- ---- y of Y units, which at 10⁻²⁵⁰ are 2¹⁷⁴ or more, a divisor k of value n, c below 1/k and h above it
module _ (y k c h : Float) (Y n C c' H h' : ℕ)
    (vy : HasValue y false Y (2 ^ low binary64)) (D : Digits binary64 Y) (lo : 2 ^ 174 ≤ Y) (hi : Y ≤ 2 ^ low binary64)
    (vk : HasValue k false n 1) (odd : n % 2 ≡ 1) (three : 2 < n) (few : n < 16)
    (vc : HasValue c false C c') (c_pos : 0 < c') (c_low : (2 ^ 46 - 1) * c' ≤ 2 ^ 46 * (n * C)) (c_high : 2 ^ 50 * (n * C) ≤ (2 ^ 50 - 1) * c')
    (vh : HasValue h false H h') (h_pos : 0 < h') (h_low : (2 ^ 50 + 1) * h' ≤ 2 ^ 50 * (n * H)) (h_high : 2 ^ 46 * (n * H) ≤ (2 ^ 46 + 1) * h') where
  -- how c and h compare with 1
  c_under : C ≤ c'
  c_under = omega (arith, mul-le-mul_right C three)

  c_near : c' ≤ 32 * C
  c_near = omega (arith, mul-le-mul_right C few)

  h_under : H ≤ h'
  h_under = omega (arith, mul-le-mul_right H three)

  h_near : h' ≤ 16 * H
  h_near = omega (arith, mul-le-mul_right H few)

  -- y·c, of which the units are no more than those of y/k, and few less
  first : Product binary64 Y C c' (mul binary64 y c)
  first =
      product binary64 y c Y C c' vy vc c_pos hi c_under
      (le_trans (le_trans (mul-le-mul_left (2 ^ 52) c_near) (le_of_eq (sym (mul_assoc (2 ^ 52) 32 C)))) (mul-le-mul_right C (le_trans (lit≤ tt) lo)))

  no_more : n * first.g ≤ Y
  no_more =
      let P = mul-pos (pow_pos 52) c_pos in
      omega (arith, scaled_over (2 ^ 52) (2 ^ 52 + 1) Y C c' n first.g 1 1 P (first.over (2 ^ 52 - 1) refl) (just_below_over (n * C) c' c_high))

  not_much_less : (2 ^ 20 - 1) * Y ≤ 2 ^ 20 * (n * first.g)
  not_much_less =
      scaled_below (2 ^ 52) (2 ^ 52 - 1) Y C c' n first.g (2 ^ 20 - 1) (2 ^ 20) (mul-pos (pow_pos 52) c_pos)
      (first.below (2 ^ 52 - 1) refl) (just_below_below (n * C) c' c_low)

  -- q, and its count Q of units
  abbrev d : ℕ
  d = first.digits.e

  abbrev Q : ℕ
  Q = (first.digits.m - first.digits.m % 32) * 2 ^ d

  abbrev q : Float
  q = of_bits binary64 (cut y c)

  Q_digits : Digits binary64 Q
  Q_digits =
      let K = first.digits.m in
      let small = lt_of_le_of_lt (sub-le K (K % 32)) first.digits.small in
      record { m = K - K % 32; e = d; is = refl; full = cut_full K first.digits.full; small = small }

  Q_less : Q ≤ first.g
  Q_less = le_trans (mul-le-mul_right (2 ^ d) (sub-le first.digits.m (first.digits.m % 32))) (le_of_eq (sym first.digits.is))

  q_value : HasValue q false Q (2 ^ low binary64)
  unfolding Q_digits
  q_value =
      let K = first.digits.m in
      let b : to_bits binary64 (mul binary64 y c) ≡ d * 2 ^ 52 + K =
      bits_are binary64 (mul binary64 y c) first.g first.digits first.value in
      subst (λ (x : Float). HasValue x false Q (2 ^ low binary64)) (ap (of_bits binary64) (sym (ap (λ (z : ℕ). z - z % 32) b ∙ cut_bits d K)))
      (of_bits_lem binary64 Q Q_digits (le_trans Q_less first.under))

  -- q·k is exact
  Qn_less : Q * n ≤ Y
  Qn_less = le_trans (mul-le-mul_right n Q_less) (le_trans (le_of_eq (mul_comm first.g n)) no_more)

  qk_value : HasValue (mul binary64 q k) false (Q * n) (2 ^ low binary64)
  qk_value =
      let K = first.digits.m in
      let J = K / 32 in
      let l = 2 ^ low binary64 in
      let is : Q * n ≡ J * n * 2 ^ (5 + d) =
      ap (λ (z : ℕ). z * 2 ^ d * n) (by_32 K) ∙ regrouped J 32 (2 ^ d) n ∙ ap (λ (z : ℕ). J * n * z) (sym (pow-add 2 5 d)) in
      let small : J * n < 2 ^ 53 = lt_of_le_of_lt (mul-le-mul (few_digits K first.digits.small) (le_of_lt few)) (lit< tt) in
      let L = pow_pos (low binary64) in
      subst (λ (x : Float). HasValue x false (Q * n) l)
      (sym (mul_of binary64 q k Q l n 1 L (pow_pos 0) q_value vk ∙ ap (round binary64 false (Q * n)) (mul-one l)))
      (exact binary64 (Q * n) (J * n) (5 + d) is small (le_trans Qn_less hi))

  -- y − q·k is exact: a count of fewer than 2³⁹ times 2ᵈ units
  G_above : 2 ^ 52 * 2 ^ d ≤ first.g
  G_above = le_trans (mul-le-mul_right (2 ^ d) first.digits.full) (le_of_eq (sym first.digits.is))

  G_under : first.g < 2 ^ 53 * 2 ^ d
  G_under = lt_of_le_of_lt (le_of_eq first.digits.is) (mul-lt-mul_of_pos_right first.digits.small (pow_pos d))

  G_less : first.g ≤ Y
  G_less = le_trans (le_trans (le_of_eq (sym (one-mul first.g))) (mul-le-mul_right first.g (le_trans (lit≤ tt) three))) no_more

  d_less : d ≤ D.e
  d_less =
      let G< : first.g < 2 ^ (53 + D.e) = lt_of_le_of_lt G_less (digits_under binary64 Y D) in
      omega (arith, pow_lt_back (52 + d) (53 + D.e) (lt_of_le_of_lt (le_trans (le_of_eq (pow-add 2 52 d)) G_above) G<))

  abbrev R : ℕ
  R = Y - Q * n

  R_under : R < 2 ^ 39 * 2 ^ d
  R_under =
      let G = first.g in
      let K = first.digits.m in
      let v = 2 ^ d in
      let pos : 0 < v = pow_pos d in
      let cut : K ≤ K - K % 32 + 31 = omega arith in
      let near : G ≤ Q + 31 * v = le_by first.digits.is (mul-le-mul_right v cut) (add-mul (K - K % 32) 31 v) in
      let fifteen : n * G ≤ 15 * G = mul-le-mul_right G (le_of_suc-le-suc few) in
      let w : n * v ≤ 15 * v = mul-le-mul_right v (le_of_suc-le-suc few) in
      let scaled : n * G ≤ Q * n + 31 * v * n = le_by (mul_comm n G) (mul-le-mul_right n near) (add-mul Q (31 * v) n) in
      let e : 31 * v * n ≡ 31 * (n * v) = mul_assoc 31 v n ∙ ap (λ (z : ℕ). 31 * z) (mul_comm v n) in
      let X : n * G ≤ Q * n + 465 * v = omega arith in
      let G< : G < 2 ^ 20 * (2 ^ 33 * v) = lt_of_lt_of_le G_under (le_of_eq (mul_assoc (2 ^ 20) (2 ^ 33) v)) in
      let y< : Y ≤ n * G + 30 * (2 ^ 33 * v) = little Y (n * G) G (2 ^ 33 * v) not_much_less fifteen G< in
      difference Y (Q * n) (2 ^ 39 * v) (left_over Y (n * G) (Q * n) v y< X pos) (mul-pos (pow_pos 39) pos)

  abbrev R' : ℕ
  R' = D.m * 2 ^ (D.e - d) - (first.digits.m - first.digits.m % 32) * n

  R_is : R ≡ R' * 2 ^ d
  R_is =
      let A = D.m * 2 ^ (D.e - d) in
      let K = first.digits.m - first.digits.m % 32 in
      let a : Y ≡ A * 2 ^ d = D.is ∙ pow_split D.m D.e d d_less in
      (λ i. a i - mul_right_comm K (2 ^ d) n i) ∙ sym (minus_times A (K * n) (2 ^ d))

  abbrev r : Float
  r = sub binary64 y (mul binary64 q k)

  R_less : R ≤ 2 ^ low binary64
  R_less = le_trans (sub-le Y (Q * n)) hi

  r_value : HasValue r false R (2 ^ low binary64)
  r_value =
      let l = 2 ^ low binary64 in
      let small : R' < 2 ^ 53 = lt_of_lt_of_le (lt_of_mul-lt-mul_right (2 ^ d) (lt_of_le_of_lt (le_of_eq (sym R_is)) R_under)) (lit≤ tt) in
      subst (λ (x : Float). HasValue x false R l)
      (sym (sub_of binary64 y (mul binary64 q k) Y (Q * n) l (pow_pos (low binary64)) vy qk_value Qn_less))
      (exact binary64 R R' d R_is small R_less)

  -- its product by h, which is no less than the rest of y/k, and little more
  d_big : 56 ≤ d
  d_big =
      let G = first.g in
      let below : Y ≤ 16 * G = sixteen Y (n * G) G not_much_less (mul-le-mul_right G (le_of_suc-le-suc few)) in
      let far : 16 * G < 2 ^ (57 + d) =
      lt_of_lt_of_le (mul-lt-mul_of_pos_left G_under (pow_pos 4)) (le_of_eq (sym (mul_assoc 16 (2 ^ 53) (2 ^ d)) ∙ sym (pow-add 2 57 d))) in
      omega (arith, pow_lt_back 174 (57 + d) (lt_of_le_of_lt lo (lt_of_le_of_lt below far)))

  Rest : Type 0
  Rest = (g : ℕ) × HasValue (mul binary64 r h) false g (2 ^ low binary64) × (R ≤ n * g) × (2 ^ 40 * (n * g) ≤ (2 ^ 40 + 1) * R)

  none_left : R ≡ 0 → Rest
  unfolding Rest
  none_left z =
      let l = 2 ^ low binary64 in
      let L = pow_pos (low binary64) in
      let LH = mul-pos L h_pos in
      let none : R * H * l ≡ 0 * (l * h') =
      ap (λ (x : ℕ). x * H * l) z ∙ ap (λ (x : ℕ). x * l) (zero-mul H) ∙ zero-mul l ∙ sym (zero-mul (l * h')) in (
        0,
        subst (λ (x : Float). HasValue x false 0 l)
            (sym (mul_of binary64 r h R l H h' L h_pos r_value vh ∙ round_same binary64 false (R * H) (l * h') 0 l LH L none))
            (exact binary64 0 0 0 refl (pow_pos 53) zero-le),
        le_of_eq (z ∙ sym (mul-zero n)),
        le_trans (le_of_eq (ap (λ (x : ℕ). 2 ^ 40 * x) (mul-zero n))) zero-le,
      )

  some_left : 0 < R → Rest
  unfolding Rest
  some_left p =
      let one : 1 ≤ R' = first_pos R' (2 ^ d) (subst (λ (x : ℕ). 0 < x) R_is p) in
      let big : 2 ^ 56 ≤ R = le_trans (pow_mono d_big) (le_by (sym (one-mul (2 ^ d))) (mul-le-mul_right (2 ^ d) one) (sym R_is)) in
      let s =
      product binary64 r h R H h' r_value vh h_pos R_less h_under
      (le_trans (mul-le-mul_left (2 ^ 52) h_near) (le_trans (le_of_eq (sym (mul_assoc (2 ^ 52) 16 H))) (mul-le-mul_right H big))) in
      let P = mul-pos (pow_pos 52) h_pos in (
        s.g,
        s.value,
        omega (arith, scaled_below (2 ^ 52) (2 ^ 52 - 1) R H h' n s.g 1 1 P (s.below (2 ^ 52 - 1) refl) (just_above_below (n * H) h' h_low)),
        scaled_over (2 ^ 52) (2 ^ 52 + 1) R H h' n s.g (2 ^ 40 + 1) (2 ^ 40) P (s.over (2 ^ 52 - 1) refl) (just_above_over (n * H) h' h_high),
      )

  rest : Rest
  rest = elim (eq-zero-or-pos R) [ inl z ↦ none_left z | inr p ↦ some_left p ]

  -- the sum is y/k but for so little that rounding does not see it
  summed : add binary64 q (mul binary64 r h) ≡ round binary64 false Y (n * 2 ^ low binary64)
  unfolding Rest
  summed =
      let l = 2 ^ low binary64 in
      let L : 0 < l = pow_pos (low binary64) in
      let g = rest.0 in
      let E = n * g - R in
      let pos : 0 < n = le_trans (lit≤ tt) three in
      let is : (Q + g) * n ≡ Y + E = add-mul Q g n ∙ ap (λ (z : ℕ). Q * n + z) (mul_comm g n) ∙ made_up Y (Q * n) (n * g) Qn_less rest.2 in
      let big : 2 ^ 52 * 2 ^ d * n ≤ Y = le_trans (mul-le-mul_right n G_above) (le_trans (le_of_eq (mul_comm first.g n)) no_more) in
      add_of binary64 q (mul binary64 r h) Q g l L q_value rest.1
      ∙ round_same binary64 false (Q + g) l (Y + E) (n * l) L (mul-pos pos L) (sym (mul_assoc (Q + g) n l) ∙ ap (λ (z : ℕ). z * l) is)
      ∙ settled binary64 Y E n d D pos odd (excess R (n * g) (2 ^ d) R_under rest.3) big

  worked : T (not (is_nan (mul binary64 y c))) × T (not (nan_bits binary64 (cut y c)))
      × (add binary64 q (mul binary64 r h) ≡ round binary64 false Y (n * 2 ^ low binary64))
  worked = (
    a_number (mul binary64 y c) first.g (2 ^ low binary64) first.value,
    subst (λ (b : Bool). T (not b)) (sym (nan_bits_is binary64 (cut y c))) (a_number q Q (2 ^ low binary64) q_value),
    summed,
  )

-- ---- the law
counts_apart : (a b Y l u s : ℕ) → a * l ≡ Y * b → b ≤ a * s → 0 < b → 0 < s → u * s ≤ l → u ≤ Y
counts_apart a b Y l u s e h B S k =
    let x : u * s * b ≤ Y * s * b =
    le_trans (mul-le-mul_right b k)
    (le_trans (mul-le-mul_left l h)
    (le_of_eq (mul_left_comm l a s ∙ sym (mul_assoc a l s) ∙ ap (λ (z : ℕ). z * s) e ∙ mul_right_comm Y b s))) in
    le_of_mul-le-mul_right (le_of_mul-le-mul_right x B) S

at_most_one : (a b Y l : ℕ) → a * l ≡ Y * b → a ≤ b → 0 < b → Y ≤ l
at_most_one a b Y l e h B = le_of_mul-le-mul_right (le_by (sym e) (mul-le-mul_right l h) (mul_comm b l)) B

quotient_of : (y k : Float) (Y : ℕ) → T (positive y) → T (positive k) → den k ≡ 1 → HasValue y false Y (2 ^ low binary64)
    → div binary64 y k ≡ round binary64 false Y (num k * 2 ^ low binary64)
quotient_of y k Y p q one v =
    let l = 2 ^ low binary64 in
    let n = num k in
    let N : 0 < n = value_pos k n (den k) q (den_pos k) (own_value k q) in
    div_is binary64 y k (positive_nonneg y p) q
    ∙ round_same binary64 false (num y * den k) (n * den y) Y (n * l) (mul-pos N (den_pos y)) (mul-pos N (pow_pos (low binary64)))
    (ap (λ (z : ℕ). num y * z * (n * l)) one
    ∙ ap (λ (z : ℕ). z * (n * l)) (mul-one (num y))
    ∙ mul_left_comm (num y) n l
    ∙ ap (λ (z : ℕ). n * z) (value→cross y Y l v)
    ∙ mul_left_comm n Y (den y))

pub record Parted (y k c h : Float) : Type 0 where
  pub number : T (not (is_nan (mul binary64 y c)))
  pub pattern : T (not (nan_bits binary64 (cut y c)))
  pub quotient : add binary64 (of_bits binary64 (cut y c)) (mul binary64 (sub binary64 y (mul binary64 (of_bits binary64 (cut y c)) k)) h)
      ≡ div binary64 y k

pub parted : (y k c h : Float) → T (fits binary64 y) → T (normal y) → T (divisor k) → T (just_below k c) → T (just_above k h) → Parted y k c h
unfolding divisor just_below just_above normal
parted y k c h fit ty tk tc th =
    let lo = and_l (le (decimal 1 250) y) (le y (whole 1)) ty in
    let hi = and_r (le (decimal 1 250) y) (le y (whole 1)) ty in
    let p = Halves.above_zero y lo hi in
    let s = counted binary64 y fit p in
    let Y = s.0 * 2 ^ s.1 in
    let v = s.3 in
    let x = value→cross y Y (2 ^ low binary64) v in
    let big : 2 ^ 174 ≤ Y =
    counts_apart (num y) (den y) Y (2 ^ low binary64) (2 ^ 174) (2 ^ 900) x (Halves.at_least y lo hi) (den_pos y) (pow_pos 900) (lit≤ tt) in
    let k1 = positive k in
    let k2 = eqb (den k) 1 in
    let k3 = eqb (num k % 2) 1 in
    let k4 = ltb 2 (num k) in
    let k5 = ltb (num k) 16 in
    let kp = and_l k1 (k2 && (k3 && (k4 && k5))) tk in
    let ka = and_r k1 (k2 && (k3 && (k4 && k5))) tk in
    let kb = and_r k2 (k3 && (k4 && k5)) ka in
    let kc = and_r k3 (k4 && k5) kb in
    let one = eqb→eq (den k) 1 (and_l k2 (k3 && (k4 && k5)) ka) in
    let c1 = positive c in
    let c2 = leb ((2 ^ 46 - 1) * den c) (2 ^ 46 * (num k * num c)) in
    let c3 = leb (2 ^ 50 * (num k * num c)) ((2 ^ 50 - 1) * den c) in
    let ca = and_r c1 (c2 && c3) tc in
    let h1 = positive h in
    let h2 = leb ((2 ^ 50 + 1) * den h) (2 ^ 50 * (num k * num h)) in
    let h3 = leb (2 ^ 46 * (num k * num h)) ((2 ^ 46 + 1) * den h) in
    let ha = and_r h1 (h2 && h3) th in
    let all = worked y k c h Y (num k) (num c) (den c) (num h) (den h)
    v
    (digits_of binary64 s.0 s.1 Y refl s.2 (le_trans (lit≤ tt) big))
    big
    (at_most_one (num y) (den y) Y (2 ^ low binary64) x (Halves.at_most y lo hi) (den_pos y))
    (subst (λ (z : ℕ). HasValue k false (num k) z) one (own_value k kp))
    (eqb→eq (num k % 2) 1 (and_l k3 (k4 && k5) kb))
    (ltb→lt 2 (num k) (and_l k4 k5 kc))
    (ltb→lt (num k) 16 (and_r k4 k5 kc))
    (own_value c (and_l c1 (c2 && c3) tc))
    (den_pos c)
    (leb→le ((2 ^ 46 - 1) * den c) (2 ^ 46 * (num k * num c)) (and_l c2 c3 ca))
    (leb→le (2 ^ 50 * (num k * num c)) ((2 ^ 50 - 1) * den c) (and_r c2 c3 ca))
    (own_value h (and_l h1 (h2 && h3) th))
    (den_pos h)
    (leb→le ((2 ^ 50 + 1) * den h) (2 ^ 50 * (num k * num h)) (and_l h2 h3 ha))
    (leb→le (2 ^ 46 * (num k * num h)) ((2 ^ 46 + 1) * den h) (and_r h2 h3 ha)) in
    record { number = all.0; pattern = all.1; quotient = all.2 ∙ sym (quotient_of y k Y p kp one v) }
