-- Numbers from 0 to 1 counted in the smallest value of their format: what the operations make of such counts, how near rounding comes to a fraction,
-- and which bits a count has. Assumes nothing.
use mathlib.Core.Path.{◌≡◌, refl, sym, ap, ◌∙◌, subst}
use mathlib.Core.Logic.{◌⊎◌, inl, inr}
use mathlib.Core.Bool.{Bool, true, false, ◌&&◌, cond, true≢false}
use Prim.Native.Nat.{ℕ, zero, suc, ◌+◌, ◌-◌, ◌*◌, ◌/◌, ◌%◌, ◌^◌, ◌≤◌, ◌<◌, compare}
use native.Mathlib.Nat.{le_trans, le_of_eq, le_of_suc-le-suc, lt_of_le_of_lt, lt_of_lt_of_le, lt_of_not-le, not-le_of_lt, lt_irrefl}
use native.Mathlib.Nat.{lt-suc_self, eq-or-lt_of_le, le_of_mul-le-mul_right, lt_of_mul-lt-mul_right, le-mul_of_pos_right, lt-div-mul-add}
use native.Mathlib.Nat.{le-div_iff_mul-le}
use native.Mathlib.Nat.{mul-lt-mul_of_pos_right, mul-one, one-mul, mul_comm, mul_assoc, mul_left_comm, mul_right_comm, mul-mul-mul_comm}
use native.Mathlib.Nat.{mul-pos, add-mul, mul-add, suc-mul, mul-sub, mul-le-mul, mul-le-mul_left, mul-le-mul_right, mul-div_cancel}
use native.Mathlib.Nat.{zero-add, add-sub_of_le, div-one, mod-one, div-mul-le_self, div-lt_iff_lt-mul}
use native.Mathlib.Omega.{arith}
use lib.IntN.{ℤ, pos, negsuc}
use lib.Dec.{T, leb, ltb, eqb, leb→le, ltb→lt}
use lib.Pow.{pow-add, pow_pos, pow-lt, pow_mono, shl_lt}
use lib.Ieee.{Float, nan, inf, fin, Format, prec, emax, low, hid, up, down, size, sum, round, fits, to_bits, of_bits, add, sub, mul}
use lib.Ieee.Bits.{of_bits-to_bits}
use lib.Ieee.Digits.{back, size-lt, size-le, size_reaches}
use lib.Ieee.Fits.{and_l, and_r, down_pos, nearest-le, round-fits, two, two-le_pos}
use lib.Ieee.Exact.{HasValue, round_exact}
use lib.Ieee.Nearest.{closest, closest_mono, nearest-ge}
use lib.Ieee.Order.{kept, drop}
use lib.Ieee.Scale.{round_same, grid, overflow, normal_of_fraction, round_val}
use lib.Ieee.Positive.{positive}
use Rattle.num_laws.proofs.Halves.{le_by, lt_by, pow_split, bits_of_value, kept_le}

-- ---- the operations, by fractions that the operands equal
shown : (x : Float) (a c : ℕ) → HasValue x false a c → (m : ℕ) × (e : ℤ) × (x ≡ fin false m e) × (m * up e * c ≡ a * down e)
shown nan a c h = absurd h
shown (inf s) a c h = absurd h
shown (fin true m e) a c h = absurd (true≢false h.0)
shown (fin false m e) a c h = (m, e, refl, h.1)

mul_fin : (f : Format) (m : ℕ) (e : ℤ) (n : ℕ) (d : ℤ) → mul f (fin false m e) (fin false n d) ≡ round f false (m * up e * (n * up d)) (down e * down d)
unfolding mul
mul_fin f m e n d = refl

add_fin : (f : Format) (m : ℕ) (e : ℤ) (n : ℕ) (d : ℤ)
    → add f (fin false m e) (fin false n d) ≡ round f false (m * up e * down d + n * up d * down e) (down e * down d)
unfolding add sum
add_fin f m e n d = refl

no_borrow : (f : Format) (a b c : ℕ) → b ≤ a → sum f false a true b c ≡ round f false (a - b) c
unfolding sum
no_borrow f a b c h = go (ltb a b) (ltb→lt a b)
  where
    go : (t : Bool) → (T t → a < b) → cond t (round f true (b - a) c) (round f false (a - b) c) ≡ round f false (a - b) c
    go true k = absurd (not-le_of_lt (k tt) h)
    go false k = refl

sub_fin : (f : Format) (m : ℕ) (e : ℤ) (n : ℕ) (d : ℤ)
    → sub f (fin false m e) (fin false n d) ≡ sum f false (m * up e * down d) true (n * up d * down e) (down e * down d)
unfolding sub
sub_fin f m e n d = refl

pub mul_of : (f : Format) (x y : Float) (a c b d : ℕ) → 0 < c → 0 < d → HasValue x false a c → HasValue y false b d → mul f x y ≡ round f false (a * b) (c * d)
mul_of f x y a c b d C D h k =
    let s = shown x a c h in
    let t = shown y b d k in
    let X = s.0 * up s.1 in
    let Y = t.0 * up t.1 in
    (λ i. mul f (s.2 i) (t.2 i))
    ∙ mul_fin f s.0 s.1 t.0 t.1
    ∙ round_same f false (X * Y) (down s.1 * down t.1) (a * b) (c * d) (mul-pos (down_pos s.1) (down_pos t.1)) (mul-pos C D)
    (mul-mul-mul_comm X Y c d ∙ (λ i. s.3 i * t.3 i) ∙ mul-mul-mul_comm a (down s.1) b (down t.1))

carried : (x c a d g : ℕ) → x * c ≡ a * d → x * g * c ≡ a * (d * g)
carried x c a d g h = mul_right_comm x g c ∙ ap (λ (z : ℕ). z * g) h ∙ mul_assoc a d g

swapped : (x c a d g : ℕ) → x * c ≡ a * d → x * g * c ≡ a * (g * d)
swapped x c a d g h = carried x c a d g h ∙ ap (λ (z : ℕ). a * z) (mul_comm d g)

pub minus_times : (x y c : ℕ) → (x - y) * c ≡ x * c - y * c
minus_times x y c = mul_comm (x - y) c ∙ mul-sub c x y ∙ (λ i. mul_comm c x i - mul_comm c y i)

module _ (f : Format) (x y : Float) (a b c : ℕ) (C : 0 < c) (h : HasValue x false a c) (k : HasValue y false b c) where
  pub add_of : add f x y ≡ round f false (a + b) c
  add_of =
      let s = shown x a c h in
      let t = shown y b c k in
      let v = down s.1 in
      let w = down t.1 in
      let X = s.0 * up s.1 in
      let Y = t.0 * up t.1 in
      (λ i. add f (s.2 i) (t.2 i))
      ∙ add_fin f s.0 s.1 t.0 t.1
      ∙ round_same f false (X * w + Y * v) (v * w) (a + b) c (mul-pos (down_pos s.1) (down_pos t.1)) C
      (add-mul (X * w) (Y * v) c ∙ (λ i. carried X c a v w s.3 i + swapped Y c b w v t.3 i) ∙ sym (add-mul a b (v * w)))

  pub sub_of : b ≤ a → sub f x y ≡ round f false (a - b) c
  sub_of l =
      let s = shown x a c h in
      let t = shown y b c k in
      let v = down s.1 in
      let w = down t.1 in
      let X = s.0 * up s.1 in
      let Y = t.0 * up t.1 in
      let p = carried X c a v w s.3 in
      let q = swapped Y c b w v t.3 in
      let m : Y * v ≤ X * w = le_of_mul-le-mul_right (le_trans (le_of_eq q) (le_trans (mul-le-mul_right (v * w) l) (le_of_eq (sym p)))) C in
      (λ i. sub f (s.2 i) (t.2 i))
      ∙ sub_fin f s.0 s.1 t.0 t.1
      ∙ no_borrow f (X * w) (Y * v) (v * w) m
      ∙ round_same f false (X * w - Y * v) (v * w) (a - b) c (mul-pos (down_pos s.1) (down_pos t.1)) C
      (minus_times (X * w) (Y * v) c ∙ (λ i. p i - q i) ∙ sym (minus_times a b (v * w)))

-- ---- the digits of a count that a format holds in its normal range
pub record Digits (f : Format) (g : ℕ) : Type 0 where
  pub m : ℕ
  pub e : ℕ
  pub is : g ≡ m * 2 ^ e
  pub full : hid f ≤ m
  pub small : m < 2 ^ prec f

pub pow_lt_back : (i j : ℕ) → 2 ^ i < 2 ^ j → i < j
pow_lt_back i j h = lt_of_not-le (λ (g : j ≤ i). lt_irrefl (2 ^ i) (lt_of_lt_of_le h (pow_mono g)))

-- a count of so many digits
pub digits_under : (f : Format) (g : ℕ) (D : Digits f g) → g < 2 ^ (prec f + D.e)
digits_under f g D = lt_by D.is (mul-lt-mul_of_pos_right D.small (pow_pos D.e)) (sym (pow-add 2 (prec f) D.e))

pub size_gt : (n j : ℕ) → 2 ^ j ≤ n → j < size n
size_gt n j h = pow_lt_back j (size n) (lt_of_le_of_lt h (size-lt n))

pub last_digit : (z p : ℕ) → 2 ≤ p → p ≤ z → p - 1 + (z - p) < z
last_digit z p h k = omega arith

dropped : (z p j : ℕ) → z ≤ p + j → z - p ≤ j
dropped z p j h = omega arith

pub digits_of : (f : Format) (m j g : ℕ) → g ≡ m * 2 ^ j → m < 2 ^ prec f → hid f ≤ g → Digits f g
digits_of f m j g is l h =
    let p = prec f in
    let e = size g - p in
    let P : p ≤ size g = omega (arith, two f, size_gt g (p - 1) h) in
    let E : e ≤ j = dropped (size g) p j (size-le g (p + j) (subst (λ (z : ℕ). z < 2 ^ (p + j)) (sym is) (shl_lt p j l))) in
    let same : g ≡ m * 2 ^ (j - e) * 2 ^ e = is ∙ pow_split m j e E in
    let all : 2 ^ size g ≡ 2 ^ p * 2 ^ e = ap (λ (z : ℕ). 2 ^ z) (sym (add-sub_of_le P)) ∙ pow-add 2 p e in
    let reached = size_reaches g (p - 1 + e) (last_digit (size g) p (two f) P) in
    record {
      m = m * 2 ^ (j - e);
      e = e;
      is = same;
      full = le_of_mul-le-mul_right (le_by (sym (pow-add 2 (p - 1) e)) reached same) (pow_pos e);
      small = lt_of_mul-lt-mul_right (2 ^ e) (lt_by (sym same) (size-lt g) all);
    }

-- ---- in the normal range rounding moves a fraction by 2 ^ -(prec - 1) of it at most
spread : (A n u g : ℕ) → n ≤ g + u → g ≤ n + u → suc A * u ≤ n → (suc A * g ≤ suc (suc A) * n) × (A * n ≤ suc A * g)
spread A n u g h k l =
    let p : suc A * g ≤ suc A * n + suc A * u = le_trans (mul-le-mul_left (suc A) k) (le_of_eq (mul-add (suc A) n u)) in
    let q : suc A * n ≤ suc A * g + suc A * u = le_trans (mul-le-mul_left (suc A) h) (le_of_eq (mul-add (suc A) g u)) in
    let r = suc-mul (suc A) n in
    let s = suc-mul A n in
    (omega arith, omega arith)

module _ (f : Format) (a c : ℕ) (C : 0 < c) (N : prec f ≤ size (a * 2 ^ low f / c)) where
  -- what one unit in the last place is: the whole part has all the digits that the format keeps
  all_kept : hid f * (c * 2 ^ drop (prec f) (a * 2 ^ low f) c) ≤ a * 2 ^ low f
  all_kept =
      let p = prec f in
      let w = a * 2 ^ low f / c in
      let k = size w - p in
      let is : hid f * (c * 2 ^ k) ≡ 2 ^ (p - 1 + k) * c =
      ap (λ (z : ℕ). hid f * z) (mul_comm c (2 ^ k)) ∙ sym (mul_assoc (hid f) (2 ^ k) c) ∙ ap (λ (z : ℕ). z * c) (sym (pow-add 2 (p - 1) k)) in
      le_trans (le_of_eq is)
      ((le-div_iff_mul-le C).0 (size_reaches w (p - 1 + k) (last_digit (size w) p (two f) N)))

  unit_pos : 0 < c * 2 ^ drop (prec f) (a * 2 ^ low f) c
  unit_pos = mul-pos C (pow_pos (drop (prec f) (a * 2 ^ low f) c))

  kept_full : hid f ≤ kept (prec f) (a * 2 ^ low f) c
  kept_full =
      let n = a * 2 ^ low f in
      let u = c * 2 ^ drop (prec f) n c in
      le_trans ((le-div_iff_mul-le unit_pos).1 all_kept) (nearest-ge (n / u) (compare (n % u * 2) u))

  pub near : (A : ℕ) → suc A ≡ hid f
      → (suc A * (grid f a c * c) ≤ suc (suc A) * (a * 2 ^ low f)) × (A * (a * 2 ^ low f) ≤ suc A * (grid f a c * c))
  near A e =
      let n = a * 2 ^ low f in
      let k = drop (prec f) n c in
      let u = c * 2 ^ k in
      let g = kept (prec f) n c in
      let is : grid f a c * c ≡ g * u = mul_assoc g (2 ^ k) c ∙ ap (λ (z : ℕ). g * z) (mul_comm (2 ^ k) c) in
      let lo : n / u * u ≤ g * u = mul-le-mul_right u (nearest-ge (n / u) (compare (n % u * 2) u)) in
      let hi : g * u ≤ suc (n / u) * u = mul-le-mul_right u (nearest-le (n / u) (compare (n % u * 2) u)) in
      let below : n < n / u * u + u = lt-div-mul-add unit_pos in
      let cut : n / u * u ≤ n = div-mul-le_self n u in
      let s = suc-mul (n / u) u in
      spread A n u (grid f a c * c) (omega arith) (omega arith) (subst (λ (z : ℕ). z * u ≤ n) (sym e) all_kept)

  grid_full : hid f ≤ grid f a c
  grid_full =
      let n = a * 2 ^ low f in
      le_trans kept_full (le-mul_of_pos_right (kept (prec f) n c) (pow_pos (drop (prec f) n c)))

  pub grid_digits : Digits f (grid f a c)
  grid_digits = go (eq-or-lt_of_le (kept_le (prec f) (a * 2 ^ low f) c))
    where
      go : (kept (prec f) (a * 2 ^ low f) c ≡ 2 ^ prec f) ⊎ (kept (prec f) (a * 2 ^ low f) c < 2 ^ prec f) → Digits f (grid f a c)
      go (inl e) =
          let p = prec f in
          let k = drop p (a * 2 ^ low f) c in
          let is : grid f a c ≡ 1 * 2 ^ (p + k) = ap (λ (z : ℕ). z * 2 ^ k) e ∙ sym (pow-add 2 p k) ∙ sym (one-mul (2 ^ (p + k))) in
          digits_of f 1 (p + k) (grid f a c) is (pow-lt (two-le_pos p (two f))) grid_full
      go (inr l) =
          let n = a * 2 ^ low f in
          digits_of f (kept (prec f) n c) (drop (prec f) n c) (grid f a c) refl l grid_full

-- ---- what is no more than 1 is rounded to no more than 1
closest_whole : (n : ℕ) → closest n 1 ≡ n
closest_whole n = rw (div-one, mod-one)

fewer : (z l p : ℕ) → z ≤ suc l → 2 ≤ p → z - p ≤ l
fewer z l p h k = omega arith

pub grid_unit : (f : Format) (a c : ℕ) → 0 < c → a ≤ c → grid f a c ≤ 2 ^ low f
grid_unit f a c C h =
    let l = low f in
    let n = a * 2 ^ l in
    let k = drop (prec f) n c in
    let twice : 2 ^ l * c < 2 ^ suc l * c = mul-lt-mul_of_pos_right (pow-lt (lt-suc_self l)) C in
    let under : n / c < 2 ^ suc l =
    (div-lt_iff_lt-mul C).1 (lt_of_le_of_lt (le_trans (mul-le-mul_right (2 ^ l) h) (le_of_eq (mul_comm c (2 ^ l)))) twice) in
    let K : k ≤ l = fewer (size (n / c)) l (prec f) (size-le (n / c) (suc l) under) (two f) in
    let whole : 2 ^ (l - k) * 2 ^ k ≡ 2 ^ l = sym (pow-add 2 (l - k) k) ∙ ap (λ (z : ℕ). 2 ^ z) (back l k K) in
    let cross : n * 1 ≤ 2 ^ (l - k) * (c * 2 ^ k) =
    le_by (mul-one n) (mul-le-mul_right (2 ^ l) h) (ap (λ (z : ℕ). c * z) (sym whole) ∙ mul_left_comm c (2 ^ (l - k)) (2 ^ k)) in
    let most = closest_mono n (c * 2 ^ k) (2 ^ (l - k)) 1 (mul-pos C (pow_pos k)) (pow_pos 0) cross in
    le_trans (mul-le-mul_right (2 ^ k) (le_trans most (le_of_eq (closest_whole (2 ^ (l - k)))))) (le_of_eq whole)

one_under : (f : Format) (g : ℕ) → g ≤ 2 ^ low f → g < overflow f
one_under f g h = lt_of_le_of_lt h (pow-lt (room (low f) (emax f)))
  where
    room : (l e : ℕ) → l < l + suc e
    room l e = omega arith

-- a count of what rounding makes, and that it is no more than 1
pub count : (f : Format) (a c : ℕ) → 0 < c → a ≤ c → HasValue (round f false a c) false (grid f a c) (2 ^ low f)
count f a c C h = round_val f a c (one_under f (grid f a c) (grid_unit f a c C h))

-- a count that the format holds is not rounded
pub exact : (f : Format) (g m j : ℕ) → g ≡ m * 2 ^ j → m < 2 ^ prec f → g ≤ 2 ^ low f → HasValue (round f false g (2 ^ low f)) false g (2 ^ low f)
exact f g m j is l h =
    round_exact f false g (2 ^ low f) m j (pow_pos (low f)) l
    (subst (λ (z : ℕ). z < overflow f) is (one_under f g h)) (ap (λ (z : ℕ). z * 2 ^ low f) is)

-- ---- the bits of a count: the digits, and above them the exponent
size_digits : (f : Format) (g : ℕ) (D : Digits f g) → size g - prec f ≡ D.e
size_digits f g D =
    let p = prec f in
    let e = D.e in
    let hi : size g ≤ p + e = size-le g (p + e) (subst (λ (z : ℕ). z < 2 ^ (p + e)) (sym D.is) (shl_lt p e D.small)) in
    let lo : p - 1 + e < size g = size_gt g (p - 1 + e) (le_by (pow-add 2 (p - 1) e) (mul-le-mul_right (2 ^ e) D.full) (sym D.is)) in
    omega (arith, two f)

pub bits_are : (f : Format) (x : Float) (g : ℕ) (D : Digits f g) → HasValue x false g (2 ^ low f) → to_bits f x ≡ D.e * hid f + D.m
bits_are f x g D h =
    bits_of_value f x g h
    ∙ ap (λ (k : ℕ). 0 + k * hid f + g / 2 ^ k) (size_digits f g D)
    ∙ ap (λ (z : ℕ). 0 + D.e * hid f + z) (ap (λ (z : ℕ). z / 2 ^ D.e) D.is ∙ mul-div_cancel D.m (pow_pos D.e))
    ∙ ap (λ (z : ℕ). z + D.m) (zero-add (D.e * hid f))

pub of_bits_lem : (f : Format) (g : ℕ) (D : Digits f g) → g ≤ 2 ^ low f → HasValue (of_bits f (D.e * hid f + D.m)) false g (2 ^ low f)
of_bits_lem f g D h =
    let v = exact f g D.m D.e D.is D.small h in
    let x = round f false g (2 ^ low f) in
    subst (λ (z : Float). HasValue z false g (2 ^ low f))
    (sym (of_bits-to_bits f x (round-fits f false g (2 ^ low f))) ∙ ap (of_bits f) (bits_are f x g D v)) v

-- ---- a value that its format holds has a count
held : (f : Format) (m : ℕ) (e : ℤ) → down e ≤ 2 ^ low f → (j : ℕ) × (m * up e * 2 ^ low f ≡ m * 2 ^ j * down e)
held f m (pos a) h =
    let l = low f in
    (a + l, mul_assoc m (2 ^ a) (2 ^ l) ∙ ap (λ (z : ℕ). m * z) (sym (pow-add 2 a l)) ∙ sym (mul-one (m * 2 ^ (a + l))))
held f m (negsuc a) h =
    let l = low f in
    let i = suc a in
    let le : i ≤ l = le_of_suc-le-suc (pow_lt_back i (suc l) (lt_of_le_of_lt h (pow-lt (lt-suc_self l)))) in (
      l - i,
      ap (λ (z : ℕ). z * 2 ^ l) (mul-one m)
          ∙ ap (λ (z : ℕ). m * z) (ap (λ (z : ℕ). 2 ^ z) (sym (back l i le)) ∙ pow-add 2 (l - i) i)
          ∙ sym (mul_assoc m (2 ^ (l - i)) (2 ^ i)),
    )

pub counted : (f : Format) (x : Float) → T (fits f x) → T (positive x) → (m : ℕ) × (j : ℕ) × (m < 2 ^ prec f) × HasValue x false (m * 2 ^ j) (2 ^ low f)
unfolding fits
counted f nan t p = absurd p
counted f (inf s) t p = absurd p
counted f (fin true m e) t p = absurd p
counted f (fin false zero e) t p = absurd p
counted f (fin false (suc m) e) t p =
    let a = eqb (suc m % 2) 1 in
    let b = ltb (suc m) (2 ^ prec f) in
    let c = leb (down e) (2 ^ low f) in
    let d = ltb (suc m * up e) (2 ^ suc (emax f) * down e) in
    let s = and_l (a && b && c) d t in
    let v = held f (suc m) e (leb→le (down e) (2 ^ low f) (and_r (a && b) c s)) in
    (suc m, v.0, ltb→lt (suc m) (2 ^ prec f) (and_r a b (and_l (a && b) c s)), (refl, v.1))

-- ---- a product x·y of an x of so many units and a fraction y, neither of them above 1, that is in the normal range
pub record Product (f : Format) (X a c : ℕ) (p : Float) : Type 0 where
  pub g : ℕ
  pub value : HasValue p false g (2 ^ low f)
  pub under : g ≤ 2 ^ low f
  pub digits : Digits f g
  pub over : (A : ℕ) → suc A ≡ hid f → suc A * (g * c) ≤ suc (suc A) * (X * a)
  pub below : (A : ℕ) → suc A ≡ hid f → A * (X * a) ≤ suc A * (g * c)

regroup : (p g l c : ℕ) → p * (g * (l * c)) ≡ p * (g * c) * l
regroup p g l c = simp (mul_assoc, mul_comm)

pub product : (f : Format) (x y : Float) (X a c : ℕ) → HasValue x false X (2 ^ low f) → HasValue y false a c
    → 0 < c → X ≤ 2 ^ low f → a ≤ c → hid f * c ≤ X * a → Product f X a c (mul f x y)
product f x y X a c v w C h k n =
    let l = 2 ^ low f in
    let L : 0 < l = pow_pos (low f) in
    let LC : 0 < l * c = mul-pos L C in
    let small : X * a ≤ l * c = mul-le-mul h k in
    let N : prec f ≤ size (X * a * l / (l * c)) =
    normal_of_fraction f (X * a) (l * c) LC
    (le_trans (le_of_eq (ap (λ (z : ℕ). hid f * z) (mul_comm l c) ∙ sym (mul_assoc (hid f) c l))) (mul-le-mul_right l n)) in
    let g = grid f (X * a) (l * c) in
    let r = near f (X * a) (l * c) LC N in
    record {
      g = g;
      value = subst (λ (z : Float). HasValue z false g l) (sym (mul_of f x y X l a c L C v w)) (count f (X * a) (l * c) LC small);
      under = grid_unit f (X * a) (l * c) LC small;
      digits = grid_digits f (X * a) (l * c) LC N;
      over = λ A e. le_of_mul-le-mul_right (le_by (sym (regroup (suc A) g l c)) (r A e).0 (sym (mul_assoc (suc (suc A)) (X * a) l))) L;
      below = λ A e. le_of_mul-le-mul_right (le_by (mul_assoc A (X * a) l) (r A e).1 (regroup (suc A) g l c)) L;
    }
