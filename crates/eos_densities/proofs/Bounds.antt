-- The exponential of a number with a minus sign lies from 0 to 1, since each turn of its series and each square does. Assumes nothing.
use Rattle.std.specs.Prelude.{Some, None}
use Prim.Native.Nat.{ℕ, zero, suc, ◌+◌, ◌-◌, ◌*◌, ◌≤◌, ◌<◌}
use mathlib.Core.Path.{◌≡◌, refl, sym, subst}
use mathlib.Core.Bool.{Bool, true, false, ◌&&◌, ◌||◌}
use native.Mathlib.Nat.{mul-one, one-mul, mul-pos}
use native.Mathlib.Omega.{arith}
use borrow.Author.Tests.{lt-ltb}
use lib.Dec.{T, ltb, eqb}
use lib.IntN.{ℤ}
use lib.Ieee.{Float, nan, inf, fin, binary64, up, down, round, of_int, neg, sub, mul, div, lt, le}
use lib.Ieee.Exact.{HasValue}
use lib.Ieee.Fits.{and_l, and_r}
use lib.Ieee.Order.{round_mono}
use lib.Ieee.Positive.{num, den, positive, den_pos, own_value, value_pos}
use lib.Ieee.Scale.{finite}
use Rattle.num_working.specs.Number.{whole, nonneg}
use Rattle.num_working.specs.Working.{checked, ◌-ᵂ◌, ◌*ᵂ◌, ◌/ᵂ◌, Worked}
use Rattle.num_working.proofs.Cases.{by_test}
use Rattle.num_laws.proofs.Halves.{le_by, div_is}
use Rattle.num_laws.proofs.Units.{sub_of}
use Rattle.num_laws.proofs.Orders.{own, cross, round_unsigned, Ordered}
use Rattle.num_laws.proofs.Sums.{Ranked, ordered, not_below, onward, mul_keeps}
use Rattle.num_exponential.specs.Exponential.{steps, falling, series, squared}
use Rattle.num_exponential.proofs.Tables.{at}

-- where w is a number, it lies from 0 to c
abbrev pub UpTo : Float → Worked → Type 0
UpTo c None = Unit {0}
UpTo c (Some x) = Ordered x c

-- two numbers that antt compares: `in_order tt`
pub in_order : {x y : Float} → T (nonneg x && (nonneg y && le x y)) → Ordered x y
in_order {x} {y} h =
    let k = and_r (nonneg x) (nonneg y && le x y) h in
    record { first = and_l (nonneg x) (nonneg y && le x y) h; second = and_l (nonneg y) (le x y) k; order = and_r (nonneg y) (le x y) k }

pub further : (c d : Float) (w : Worked) → Ordered c d → UpTo c w → UpTo d w
further c d None o u = tt
further c d (Some x) o u = onward u o

pub number_up_to : (x c : Float) → Ordered x c → UpTo c (checked x)
number_up_to nan c o = tt
number_up_to (inf s) c o = tt
number_up_to (fin s m e) c o = o

tested : (x c : Float) → T (finite c) → Ranked x c → UpTo c (checked x)
tested nan c f r = tt
tested (inf s) c f r = tt
tested (fin s m e) c f r = ordered r f

-- ---- a product
pub product_up_to : (a b : Float) (v w : Worked) → T (finite (mul binary64 a b)) → UpTo a v → UpTo b w → UpTo (mul binary64 a b) (v *ᵂ w)
unfolding ◌*ᵂ◌
product_up_to a b None w f p q = tt
product_up_to a b (Some x) None f p q = tt
product_up_to a b (Some x) (Some y) f p q = tested (mul binary64 x y) (mul binary64 a b) f (mul_keeps binary64 x a y b p q)

times_1 : mul binary64 (whole 1) (whole 1) ≡ whole 1
unfolding mul whole of_int round
times_1 = refl

product_up_to_1 : (v w : Worked) → UpTo (whole 1) v → UpTo (whole 1) w → UpTo (whole 1) (v *ᵂ w)
unfolding mul whole of_int round
product_up_to_1 v w p q = subst (λ (c : Float). UpTo c (v *ᵂ w)) times_1 (product_up_to (whole 1) (whole 1) v w tt p q)

-- ---- a quotient by what is no less
share : (x y : Float) → Ordered x y → T (positive y) → Ranked (div binary64 x y) (whole 1)
unfolding whole of_int
share x y o q =
    let D = mul-pos (value_pos y (num y) (den y) q (den_pos y) (own_value y q)) (den_pos x) in
    let h = le_by (mul-one (num x * den y)) (cross x y o.first o.second o.order) (sym (one-mul (num y * den x))) in
    rw (div_is binary64 x y o.first q) (record {
      first = round_unsigned binary64 (num x * den y) (num y * den x);
      second = round_unsigned binary64 1 1;
      order = round_mono binary64 (num x * den y) (num y * den x) 1 1 D (omega arith) h;
    })

pub quotient_up_to_1 : (w : Worked) (d : Float) → UpTo d w → T (positive d) → UpTo (whole 1) (w /ᵂ checked d)
unfolding ◌/ᵂ◌ whole of_int round
quotient_up_to_1 None d p q = tt
quotient_up_to_1 (Some x) nan p q = tt
quotient_up_to_1 (Some x) (inf s) p q = tt
quotient_up_to_1 (Some x) (fin s m e) p q = tested (div binary64 x (fin s m e)) (whole 1) tt (share x (fin s m e) p q)

-- ---- what is left of 1
all_of_1 : (c : ℕ) → HasValue (whole 1) false c c
unfolding whole of_int round
all_of_1 c = (refl, omega arith)

part_of_1 : (x : Float) → Ordered x (whole 1) → num x ≤ den x
unfolding whole of_int round
part_of_1 x o = omega (arith, cross x (whole 1) o.first o.second o.order)

rest : (x : Float) → Ordered x (whole 1) → Ranked (sub binary64 (whole 1) x) (whole 1)
unfolding whole of_int
rest x o =
    let C = den_pos x in
    rw (sub_of binary64 (whole 1) x (den x) (num x) (den x) C (all_of_1 (den x)) (own x o.first) (part_of_1 x o)) (record {
      first = round_unsigned binary64 (den x - num x) (den x);
      second = round_unsigned binary64 1 1;
      order = round_mono binary64 (den x - num x) (den x) 1 1 C (omega arith) (omega arith);
    })

pub rest_up_to_1 : (w : Worked) → UpTo (whole 1) w → UpTo (whole 1) (checked (whole 1) -ᵂ w)
unfolding ◌-ᵂ◌ whole of_int round
rest_up_to_1 None p = tt
rest_up_to_1 (Some x) p = tested (sub binary64 (whole 1) x) (whole 1) tt (rest x p)

-- ---- step 4: the series and the squarings
divisor : (k : ℕ) → k < 14 → T (positive (whole (suc k)) && (nonneg (whole 1) && (nonneg (whole (suc k)) && le (whole 1) (whole (suc k)))))
unfolding le whole of_int round
divisor k h = at 14 (λ n. positive (whole (suc n)) && (nonneg (whole 1) && (nonneg (whole (suc n)) && le (whole 1) (whole (suc n))))) tt k h

part_up_to_1 : (y : Worked) (k : ℕ) → k < 14 → UpTo (whole 1) y → UpTo (whole 1) (y /ᵂ checked (whole (suc k)))
part_up_to_1 y k h p =
    let d = whole (suc k) in
    let t = nonneg (whole 1) && (nonneg d && le (whole 1) d) in
    quotient_up_to_1 y d (further (whole 1) d y (in_order (and_r (positive d) t (divisor k h))) p) (and_l (positive d) t (divisor k h))

series_up_to_1 : (y s : Worked) (k : ℕ) → k ≤ 14 → UpTo (whole 1) y → UpTo (whole 1) s → UpTo (whole 1) (series y k s)
unfolding series
series_up_to_1 y s zero h p q = q
series_up_to_1 y s (suc k) h p q =
    let b = y /ᵂ checked (whole (suc k)) in
    series_up_to_1 y (checked (whole 1) -ᵂ b *ᵂ s) k (omega arith) p
    (rest_up_to_1 (b *ᵂ s) (product_up_to_1 b s (part_up_to_1 y k (omega arith) p) q))

squared_up_to_1 : (n : ℕ) (s : Worked) → UpTo (whole 1) s → UpTo (whole 1) (squared n s)
unfolding squared
squared_up_to_1 zero s p = p
squared_up_to_1 (suc n) s p = squared_up_to_1 n (s *ᵂ s) (product_up_to_1 s s p p)

falling_up_to_1 : (x : Float) → Ordered (neg x) (whole 700) → UpTo (whole 1) (falling x)
unfolding falling le whole of_int round
falling_up_to_1 x o =
    let y = checked (neg x) /ᵂ checked (whole 1024) in
    squared_up_to_1 10 (series y 14 (checked (whole 1)))
    (series_up_to_1 y (checked (whole 1)) 14 (omega arith)
    (quotient_up_to_1 (checked (neg x)) (whole 1024) (number_up_to (neg x) (whole 1024) (onward o (in_order {y = whole 1024} tt))) tt) (in_order tt))

-- ---- the five steps, of which 2 and 4 answer for a number with a minus sign
abbrev pub minus : Float → Bool
minus nan = false
minus (inf s) = false
minus (fin s m e) = s

not_above_0 : (a b : ℕ) → b ≡ 0 → T (ltb 0 (a + b) || (eqb a b && (false || eqb a 0)))
not_above_0 zero b e = rw e tt
not_above_0 (suc a) b e = rw (lt-ltb 0 (suc a + b) (omega arith)) tt

up_to_0 : (m : ℕ) (e : ℤ) → T (le (fin true m e) (whole 0))
unfolding le whole of_int round
up_to_0 m e = not_above_0 (m * up e * 1) (0 * down e) (omega arith)

from_700 : (m : ℕ) (e : ℤ) → lt (fin true m e) (neg (whole 700)) ≡ false → Ordered (neg (fin true m e)) (whole 700)
unfolding lt neg whole of_int round
from_700 m e h = not_below (fin false m e) (whole 700) tt tt h

zero_up_to_1 : UpTo (whole 1) (Some (whole 0))
unfolding le whole of_int round
zero_up_to_1 = in_order tt

pub steps_up_to_1 : (x : Float) → T (minus x) → UpTo (whole 1) (steps x)
unfolding steps
steps_up_to_1 nan h = absurd h
steps_up_to_1 (inf s) h = absurd h
steps_up_to_1 (fin false m e) h = absurd h
steps_up_to_1 (fin true m e) h =
    let x = fin true m e in
    let P = UpTo (whole 1) in
    by_test P (lt x (neg (whole 700))) (Some (whole 0)) _ (λ _. zero_up_to_1)
    (λ l. by_test P (lt (whole 700) x) None _ (λ _. tt)
    (λ _. by_test P (le x (whole 0)) (falling x) _ (λ _. falling_up_to_1 x (from_700 m e l)) (λ n. absurd (subst T n (up_to_0 m e)))))
