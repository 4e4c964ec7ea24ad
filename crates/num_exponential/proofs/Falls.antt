-- Below −36 the exponential of a finite number is answered, so that what it says hangs on its argument alone. Assumes nothing.
use Rattle.std.specs.Prelude.{Some}
use mathlib.Core.Path.{◌≡◌, refl, sym, subst, ◌∙◌}
use mathlib.Core.Bool.{Bool, true, false, true≢false}
use Prim.Native.Nat.{ℕ, zero, suc, ◌*◌, ◌≤◌, ◌<◌}
use native.Mathlib.Nat.{le_trans, le_of_eq, mul_comm, mul-le-mul, zero-lt-suc}
use native.Mathlib.Omega.{arith}
use borrow.Author.Tests.{ltb-true, ltb-false, lt-ltb}
use lib.Dec.{T, ltb, lit≤}
use lib.IntN.{ℤ}
use lib.Ieee.{Float, nan, inf, fin, up, down, round, of_int, neg, lt, le}
use lib.Ieee.Scale.{finite}
use lib.Ieee.Fits.{and_i}
use lib.Ieee.Positive.{num, den, positive, cross→le}
use Rattle.num_working.specs.Number.{decimal, fraction, whole}
use Rattle.num_exponential.specs.Exponential.{exponential, fell, steps}
use Rattle.num_exponential.specs.Decay.{in_series}
use Rattle.num_exponential.proofs.Sayings.{silent, spoken, refused}
use Rattle.num_exponential.proofs.Lanes.{steps_worked}

factor : (a b : ℕ) → 0 < a * b → 0 < a
factor zero b h = absurd (omega arith)
factor (suc a) b h = zero-lt-suc a

-- ---- x is above 36
module _ (m : ℕ) (e : ℤ) (q : lt (fin true m e) (neg (whole 36)) ≡ true) where
  past : 36 * down e < m * up e
  unfolding lt neg whole of_int round
  past = omega (arith, ltb-true (36 * down e) (m * up e * 1) q)

  above_zero : T (positive (fin false m e))
  above_zero = subst T (sym (lt-ltb 0 m (factor m (up e) (omega (arith, past))))) tt

  not_small : T (le (decimal 1 200) (fin false m e))
  unfolding decimal fraction round
  not_small =
      let lo = decimal 1 200 in
      cross→le lo (fin false m e) tt above_zero
      (le_trans (mul-le-mul (lit≤ {m = num lo} {n = den lo} tt) (omega (arith, past))) (le_of_eq (mul_comm (den lo) (m * up e))))

  -- at most 700, or above it
  in_series_lem : m * up e ≤ 700 * down e → T (in_series (fin false m e))
  unfolding in_series whole of_int round
  in_series_lem h =
      let x = fin false m e in
      and_i (le (decimal 1 200) x) (le x (whole 700)) not_small (cross→le x (whole 700) above_zero tt (omega (arith, h)))

  by_700 : (b : Bool) → ltb (700 * down e) (m * up e * 1) ≡ b → (v : Float) × (steps (fin true m e) ≡ Some v)
  unfolding steps lt neg whole of_int round
  by_700 true r = (whole 0, rw r refl)
  by_700 false r = (_, steps_worked (fin false m e) (in_series_lem (omega (arith, ltb-false (700 * down e) (m * up e * 1) r))))

  pub answered : (v : Float) × (steps (fin true m e) ≡ Some v)
  answered = by_700 (ltb (700 * down e) (m * up e * 1)) refl

-- ---- so it says by its argument
not_below : (m : ℕ) (e : ℤ) → lt (fin false m e) (neg (whole 36)) ≡ false
unfolding lt neg whole of_int round
not_below m e = refl

by_argument : (x : Float) (b : Bool) → finite x ≡ true → lt (neg x) (neg (whole 36)) ≡ b → fell (exponential (neg x)) ≡ lt (neg x) (neg (whole 36))
unfolding neg
by_argument nan b h q = absurd (true≢false (sym h))
by_argument (inf s) b h q = absurd (true≢false (sym h))
by_argument (fin true m e) b h q = silent (fin false m e) (not_below m e) ∙ sym (not_below m e)
by_argument (fin false m e) false h q = silent (fin true m e) q ∙ sym q
by_argument (fin false m e) true h q = let a = answered m e q in spoken (fin true m e) a.0 a.1

pub says : (x : Float) → finite x ≡ true → fell (exponential (neg x)) ≡ lt (neg x) (neg (whole 36))
says x h = by_argument x (lt (neg x) (neg (whole 36))) h refl

finite_neg : (x : Float) → finite x ≡ false → finite (neg x) ≡ false
unfolding neg
finite_neg nan h = refl
finite_neg (inf s) h = refl
finite_neg (fin s m e) h = absurd (true≢false h)

pub says_nothing : (x : Float) → finite x ≡ false → fell (exponential (neg x)) ≡ false
says_nothing x h = refused (neg x) (finite_neg x h)
