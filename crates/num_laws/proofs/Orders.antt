-- Floats with no minus sign: their order is that of their bits, and a product and a whole power keep it. Assumes nothing.
use mathlib.Core.Path.{◌≡◌, refl, sym, ap, ◌∙◌, subst}
use mathlib.Core.Logic.{inl, inr}
use Prim.Native.Nat.{ℕ, zero, suc, ◌+◌, ◌*◌, ◌/◌, ◌%◌, ◌^◌, ◌≤◌, ◌<◌}
use native.Mathlib.Nat.{le_trans, le_of_eq, le_of_lt, le_of_suc-le-suc, not-le_of_lt, eq-or-lt_of_le, mod-eq_of_lt, pow-succ'}
use native.Mathlib.Nat.{mul-le-mul, mul-le-mul_right, mul-le-mul_left, mul-mul-mul_comm, mul-pos, mul_assoc, mul-one}
use native.Mathlib.Omega.{arith}
use mathlib.Core.Bool.{Bool, true, false, not, ◌&&◌, ◌||◌, cond, true≢false, beq}
use lib.Dec.{T, ltb, eqb, eqb→eq, ltb→lt}
use lib.Pow.{pow_pos, pow_mono}
use borrow.Author.Tests.{lt-leb, le-ltb, ne_eqb, ltb-true, ltb-false}
use lib.Ieee.{Float, nan, inf, fin, Format, binary64, prec, emax, low, up, down, odd, units, round, of_fields, of_bits, of_int, mul, le, lt}
use lib.Ieee.Fits.{round_is}
use lib.Ieee.Exact.{HasValue, odd_sign}
use lib.Ieee.Order.{le_of_values, round_mono}
use lib.Ieee.Positive.{num, den, positive, den_pos, through}
use lib.Ieee.Scale.{finite}
use Rattle.num_working.specs.Number.{whole, nonneg}
use Rattle.num_powers.specs.Power.{power}
use Rattle.num_working.proofs.Numbers.{infinity}

-- not negative, the infinity included
abbrev pub unsigned : Float → Bool
unsigned nan = false
unsigned (inf s) = not s
unsigned (fin s m e) = not s

pub positive_nonneg : (x : Float) → T (positive x) → T (nonneg x)
positive_nonneg nan p = p
positive_nonneg (inf s) p = p
positive_nonneg (fin true m e) p = p
positive_nonneg (fin false m e) p = tt

pub unsigned_finite : (x : Float) → T (unsigned x) → T (finite x) → T (nonneg x)
unsigned_finite nan p f = absurd p
unsigned_finite (inf s) p f = absurd f
unsigned_finite (fin s m e) p f = p

pub own : (x : Float) → T (nonneg x) → HasValue x false (num x) (den x)
own nan p = absurd p
own (inf s) p = absurd p
own (fin true m e) p = absurd p
own (fin false m e) p = (refl, refl)

-- ---- the order as one of fractions
lt_or_eq : (a b : ℕ) → T (ltb a b || (eqb a b && true)) → a ≤ b
lt_or_eq a b t = go (ltb a b) (eqb a b) (ltb→lt a b) (eqb→eq a b) t
  where
    go : (x y : Bool) → (T x → a < b) → (T y → a ≡ b) → T (x || (y && true)) → a ≤ b
    go true y f g h = le_of_lt (f tt)
    go false true f g h = le_of_eq (g tt)
    go false false f g h = absurd h

pub cross : (x y : Float) → T (nonneg x) → T (nonneg y) → T (le x y) → num x * den y ≤ num y * den x
unfolding le
cross nan y p q h = absurd p
cross (inf s) y p q h = absurd p
cross (fin true m e) y p q h = absurd p
cross (fin false m e) nan p q h = absurd q
cross (fin false m e) (inf t) p q h = absurd q
cross (fin false m e) (fin true n d) p q h = absurd q
cross (fin false m e) (fin false n d) p q h = lt_or_eq (m * up e * down d) (n * up d * down e) h

-- what is at most a finite number is finite
pub under : (x y : Float) → T (unsigned x) → T (nonneg y) → T (le x y) → T (nonneg x)
unfolding le
under nan y p q h = absurd p
under (inf true) y p q h = absurd p
under (inf false) nan p q h = absurd q
under (inf false) (inf t) p q h = absurd q
under (inf false) (fin t n d) p q h = absurd h
under (fin s m e) y p q h = p

-- ---- rounding
odd_unsigned : (d q k l : ℕ) → T (unsigned (odd d false q k l))
unfolding odd
odd_unsigned d zero k l = tt
odd_unsigned d (suc q) k l = tt

odd_nonneg : (d q k l : ℕ) → T (nonneg (odd d false q k l))
unfolding odd
odd_nonneg d zero k l = tt
odd_nonneg d (suc q) k l = tt

units_unsigned : (f : Format) (q k : ℕ) → T (unsigned (units f false q k))
unfolding units
units_unsigned f q k = go (ltb (q * 2 ^ k) (2 ^ (low f + suc (emax f))))
  where
    go : (b : Bool) → T (unsigned (cond b (odd (suc (prec f)) false q k (low f)) (inf false)))
    go true = odd_unsigned (suc (prec f)) q k (low f)
    go false = tt

pub round_unsigned : (f : Format) (a b : ℕ) → T (unsigned (round f false a b))
round_unsigned f a b = subst (λ (z : Float). T (unsigned z)) (sym (round_is f false a b)) (units_unsigned f _ _)

-- ---- the product
mul_is : (f : Format) (x y : Float) → T (nonneg x) → T (nonneg y) → mul f x y ≡ round f false (num x * num y) (den x * den y)
unfolding mul
mul_is f nan y p q = absurd p
mul_is f (inf s) y p q = absurd p
mul_is f (fin true m e) y p q = absurd p
mul_is f (fin false m e) nan p q = absurd q
mul_is f (fin false m e) (inf t) p q = absurd q
mul_is f (fin false m e) (fin true n d) p q = absurd q
mul_is f (fin false m e) (fin false n d) p q = refl

pub mul_unsigned : (f : Format) (x y : Float) → T (nonneg x) → T (nonneg y) → T (unsigned (mul f x y))
mul_unsigned f x y p q = subst (λ (z : Float). T (unsigned z)) (sym (mul_is f x y p q)) (round_unsigned f _ _)

pub mul_mono : (f : Format) (x x' y y' : Float) → T (nonneg x) → T (nonneg x') → T (nonneg y) → T (nonneg y')
    → T (le x x') → T (le y y') → T (le (mul f x y) (mul f x' y'))
mul_mono f x x' y y' p p' q q' h k =
    subst (λ (z : Float). T (le z (mul f x' y'))) (sym (mul_is f x y p q))
    (subst (λ (z : Float). T (le (round f false (num x * num y) (den x * den y)) z)) (sym (mul_is f x' y' p' q'))
    (round_mono f (num x * num y) (den x * den y) (num x' * num y') (den x' * den y') (mul-pos (den_pos x) (den_pos y)) (mul-pos (den_pos x') (den_pos y'))
    (le_trans (le_of_eq (mul-mul-mul_comm (num x) (num y) (den x') (den y')))
    (le_trans (mul-le-mul (cross x x' p p' h) (cross y y' q q' k)) (le_of_eq (mul-mul-mul_comm (num x') (den x) (num y') (den y)))))))

finite_left : (x y : Float) → T (finite (mul binary64 x y)) → T (finite x)
unfolding mul
finite_left nan y h = h
finite_left (inf s) nan h = h
finite_left (inf s) (inf t) h = h
finite_left (inf s) (fin t n d) h = go (eqb n 0) (not (beq s t)) h
  where
    go : (b c : Bool) → T (finite (cond b nan (inf c))) → ⊥
    go true c k = k
    go false c k = k
finite_left (fin s m e) y h = tt

pub le_self : (x : Float) → T (nonneg x) → T (le x x)
le_self x p = le_of_values x x (num x) (den x) (num x) (den x) (den_pos x) (den_pos x) (own x p) (own x p) (le_of_eq refl)

-- ---- whole powers
pub record Ordered (x y : Float) : Type 0 where
  pub first : T (nonneg x)
  pub second : T (nonneg y)
  pub order : T (le x y)

pub power_mono : (x y : Float) (k : ℕ) → Ordered x y → T (finite (power y k)) → Ordered (power x k) (power y k)
unfolding power whole of_int le
power_mono x y zero o f = record { first = tt; second = tt; order = tt }
power_mono x y (suc zero) o f = o
power_mono x y (suc (suc k)) o f =
    let i = power_mono x y (suc k) o (finite_left (power y (suc k)) y f) in
    let p = unsigned_finite (mul binary64 (power y (suc k)) y) (mul_unsigned binary64 (power y (suc k)) y i.second o.second) f in
    let l = mul_mono binary64 (power x (suc k)) (power y (suc k)) x y i.first i.second o.first o.second i.order o.order in
    let u = mul_unsigned binary64 (power x (suc k)) x i.first o.first in
    record { first = under (mul binary64 (power x (suc k)) x) (mul binary64 (power y (suc k)) y) u p l; second = p; order = l }

-- ---- the order of the bits, up to the infinity's
-- the number that a field q and the digits t stand for, in units of 2 ^ -1074
unfoldable val : ℕ → ℕ → ℕ
val zero t = t
val (suc x) t = (4503599627370496 + t) * 2 ^ x

fields_is : (q t : ℕ) → q < 2047 → HasValue (of_fields binary64 false q t) false (val q t) (2 ^ 1074)
unfolding val of_fields
fields_is zero t h = subst (λ (n : ℕ). HasValue (odd 53 false t 0 1074) false n (2 ^ 1074)) (mul-one t) (odd_sign 53 false t 0 1074)
fields_is (suc x) t h = rw (ne_eqb (suc x) 2047 (omega arith)) (odd_sign 53 false (4503599627370496 + t) x 1074)

twice : (t : ℕ) → t < 4503599627370496 → 4503599627370496 + t ≤ 4503599627370496 * 2
twice t h = omega arith

le_add : (u : ℕ) → 4503599627370496 ≤ 4503599627370496 + u
le_add u = omega arith

val_mono : (q t r u : ℕ) → t < 4503599627370496 → q ≤ r → (q ≡ r → t ≤ u) → val q t ≤ val r u
unfolding val
val_mono zero t zero u h l d = d refl
val_mono zero t (suc y) u h l d = le_trans (omega arith) (mul-le-mul_left (4503599627370496 + u) (pow_pos y))
val_mono (suc x) t zero u h l d = absurd (omega arith)
val_mono (suc x) t (suc y) u h l d = elim (eq-or-lt_of_le l) [
  | inl e ↦ let s : x ≡ y = omega arith in let w = d e in mul-le-mul (omega arith) (le_of_eq (ap (λ (n : ℕ). 2 ^ n) s))
  | inr g ↦
      le_trans (mul-le-mul_right (2 ^ x) (twice t h))
      (le_trans (le_of_eq (mul_assoc 4503599627370496 2 (2 ^ x) ∙ ap (λ (n : ℕ). 4503599627370496 * n) (sym (pow-succ' 2 x))))
      (mul-le-mul (le_add u) (pow_mono (le_of_suc-le-suc g))))
]

-- the bits b, below the infinity's, as a float
bits_are : (b : ℕ) → b < infinity → of_bits binary64 b ≡ of_fields binary64 false (b / 4503599627370496) (b % 4503599627370496)
unfolding of_bits
bits_are b h =
    let m : b % 9223372036854775808 ≡ b = mod-eq_of_lt (omega arith) in
    rw (lt-leb 9223372036854775808 b (omega arith), m) refl

value : ℕ → ℕ
value b = val (b / 4503599627370496) (b % 4503599627370496)

bits_value : (b : ℕ) → b < infinity → HasValue (of_bits binary64 b) false (value b) (2 ^ 1074)
unfolding value
bits_value b h = rw (bits_are b h) (fields_is (b / 4503599627370496) (b % 4503599627370496) (omega arith))

nonneg_of : (x : Float) (a c : ℕ) → HasValue x false a c → T (nonneg x)
nonneg_of nan a c h = absurd h
nonneg_of (inf s) a c h = absurd h
nonneg_of (fin true m e) a c h = absurd (true≢false h.0)
nonneg_of (fin false m e) a c h = tt

pub bits_mono : (b c : ℕ) → b ≤ c → c < infinity → Ordered (of_bits binary64 b) (of_bits binary64 c)
unfolding value
bits_mono b c l h =
    let x = bits_value b (omega arith) in
    let y = bits_value c h in
    let field : ℕ = 4503599627370496 in
    let v = val_mono (b / field) (b % field) (c / field) (c % field) (omega arith) (omega arith) (λ e. omega arith) in
    record {
      first = nonneg_of (of_bits binary64 b) (value b) (2 ^ 1074) x;
      second = nonneg_of (of_bits binary64 c) (value c) (2 ^ 1074) y;
      order = le_of_values (of_bits binary64 b) (of_bits binary64 c) (value b) (2 ^ 1074) (value c) (2 ^ 1074) (pow_pos 1074) (pow_pos 1074) x y
          (mul-le-mul_right (2 ^ 1074) v);
    }

pub nonneg_finite : (x : Float) → T (nonneg x) → T (finite x)
nonneg_finite nan p = p
nonneg_finite (inf s) p = p
nonneg_finite (fin s m e) p = tt

pub bits_finite : (b : ℕ) → b < infinity → T (finite (of_bits binary64 b))
bits_finite b h = nonneg_finite (of_bits binary64 b) (bits_mono b b (le_of_eq refl) h).first

-- ---- a number against an order
lt_cross : (t x : Float) → T (nonneg t) → T (nonneg x) → lt t x ≡ true → num t * den x < num x * den t
unfolding lt
lt_cross nan x p q h = absurd p
lt_cross (inf s) x p q h = absurd p
lt_cross (fin true m e) x p q h = absurd p
lt_cross (fin false m e) nan p q h = absurd q
lt_cross (fin false m e) (inf s) p q h = absurd q
lt_cross (fin false m e) (fin true n d) p q h = absurd q
lt_cross (fin false m e) (fin false n d) p q h = ltb-true _ _ h

pub not_lt_cross : (t x : Float) → T (nonneg t) → T (nonneg x) → lt t x ≡ false → num x * den t ≤ num t * den x
unfolding lt
not_lt_cross nan x p q h = absurd p
not_lt_cross (inf s) x p q h = absurd p
not_lt_cross (fin true m e) x p q h = absurd p
not_lt_cross (fin false m e) nan p q h = absurd q
not_lt_cross (fin false m e) (inf s) p q h = absurd q
not_lt_cross (fin false m e) (fin true n d) p q h = absurd q
not_lt_cross (fin false m e) (fin false n d) p q h = ltb-false _ _ h

-- what is at most t is not above it
pub le_not_lt : (x t : Float) → T (nonneg t) → le x t ≡ true → lt t x ≡ false
unfolding le lt
le_not_lt x nan p h = absurd p
le_not_lt x (inf s) p h = absurd p
le_not_lt x (fin true n d) p h = absurd p
le_not_lt nan (fin false n d) p h = refl
le_not_lt (inf true) (fin false n d) p h = refl
le_not_lt (inf false) (fin false n d) p h = sym h
le_not_lt (fin true m e) (fin false n d) p h = refl
le_not_lt (fin false m e) (fin false n d) p h = le-ltb _ _ (lt_or_eq (m * up e * down d) (n * up d * down e) (rw h tt))

-- what is below x is below all that x is not above
pub never_falls : (t x y : Float) → T (nonneg t) → Ordered x y → lt t x ≡ true → lt t y ≡ false → ⊥
never_falls t x y p o h k =
    not-le_of_lt (lt_cross t x p o.first h)
    (through (num x) (num y) (num t) (den x) (den y) (den t) (den_pos y) (cross x y o.first o.second o.order) (not_lt_cross t y p o.second k))

-- ---- whole powers of a number with no minus sign have none
pub power_unsigned : (x : Float) (k : ℕ) → T (nonneg x) → T (finite (power x k)) → T (nonneg (power x k))
power_unsigned x k p f = (power_mono x x k (record { first = p; second = p; order = le_self x p }) f).second

-- ---- a whole power of what has no minus sign has none either, and is a number where anything lies above it
abbrev plus : Float → Bool
plus nan = true
plus (inf s) = not s
plus (fin s m e) = not s

unsigned_plus : (x : Float) → T (unsigned x) → T (plus x)
unsigned_plus nan h = absurd h
unsigned_plus (inf true) h = absurd h
unsigned_plus (inf false) h = tt
unsigned_plus (fin true m e) h = absurd h
unsigned_plus (fin false m e) h = tt

mul_plus : (p x : Float) → T (plus p) → T (nonneg x) → T (plus (mul binary64 p x))
unfolding mul
mul_plus nan x h q = tt
mul_plus (inf true) x h q = absurd h
mul_plus (inf false) nan h q = absurd q
mul_plus (inf false) (inf t) h q = absurd q
mul_plus (inf false) (fin true n d) h q = absurd q
mul_plus (inf false) (fin false n d) h q = go (eqb n 0)
  where
    go : (b : Bool) → T (plus (cond b nan (inf false)))
    go true = tt
    go false = tt
mul_plus (fin true m e) x h q = absurd h
mul_plus (fin false m e) x h q = unsigned_plus (mul binary64 (fin false m e) x) (mul_unsigned binary64 (fin false m e) x tt q)

nonneg_plus : (x : Float) → T (nonneg x) → T (plus x)
nonneg_plus nan p = absurd p
nonneg_plus (inf s) p = absurd p
nonneg_plus (fin true m e) p = absurd p
nonneg_plus (fin false m e) p = tt

power_plus : (x : Float) (k : ℕ) → T (nonneg x) → T (plus (power x k))
unfolding power whole of_int
power_plus x zero p = tt
power_plus x (suc zero) p = nonneg_plus x p
power_plus x (suc (suc k)) p = mul_plus (power x (suc k)) x (power_plus x (suc k) p) p

less_nonneg : (t y : Float) → T (plus t) → lt t y ≡ true → T (nonneg t)
unfolding lt
less_nonneg nan y p h = absurd (true≢false (sym h))
less_nonneg (inf true) y p h = absurd p
less_nonneg (inf false) nan p h = absurd (true≢false (sym h))
less_nonneg (inf false) (inf s) p h = absurd (true≢false (sym h))
less_nonneg (inf false) (fin s m e) p h = absurd (true≢false (sym h))
less_nonneg (fin true m e) y p h = absurd p
less_nonneg (fin false m e) y p h = tt

pub power_under : (x y : Float) (k : ℕ) → T (nonneg x) → lt (power x k) y ≡ true → T (nonneg (power x k))
power_under x y k p h = less_nonneg (power x k) y (power_plus x k p) h
