-- For an x from 10⁻²⁰⁰ to 700 the exponential of −x is worked by step 4 of RULES 4.4, and y = x/1024 lies from 10⁻²⁵⁰ to 1. Assumes nothing.
use mathlib.Core.Path.{◌≡◌, refl, ap, ◌∙◌}
use mathlib.Core.Bool.{Bool, true, false, ◌||◌}
use Prim.Native.Nat.{ℕ, zero, suc, ◌+◌, ◌*◌, ◌^◌, ◌≤◌, ◌<◌}
use native.Mathlib.Nat.{le_trans, le_of_eq, mul-pos, mul_left_comm, mul-le-mul_left, one-mul}
use native.Mathlib.Omega.{arith}
use borrow.Author.Tests.{le-ltb, lt-ltb}
use mathlib.Core.List.{List, [], ◌∷◌}
use lib.ListN.{length, get_or}
use lib.IntN.{ℤ}
use lib.Dec.{T, ltb, ltb→lt, lit≤, lit<}
use lib.Pow.{pow_pos}
use lib.Ieee.{Float, nan, inf, fin, binary64, up, down, round, of_int, neg, div, le, eq}
use lib.Ieee.Fits.{and_l, and_r, up_pos}
use lib.Ieee.Order.{round_mono}
use lib.Ieee.Positive.{num, den, positive, den_pos, le→cross, between}
use Rattle.num_working.specs.Number.{decimal, fraction, whole}
use Rattle.num_working.specs.Working.{checked}
use Rattle.num_exponential.specs.Exponential.{steps, falling, series, squared}
use Rattle.num_exponential.specs.Decay.{every, in_series}
use Rattle.num_exponential.proofs.Exponentials.{falling_is}
use Rattle.num_laws.proofs.Halves.{quotient, no_less}

stretched : (a c u v : ℕ) → c ≤ a * u → 1024 * u ≤ v → 1 * (1024 * c) ≤ a * v
stretched a c u v h k =
    let m : 1024 * c ≤ a * (1024 * u) = le_trans (mul-le-mul_left 1024 h) (le_of_eq (mul_left_comm 1024 a u)) in
    le_trans (le_of_eq (one-mul (1024 * c))) (le_trans m (mul-le-mul_left a k))

module _ (x : Float) (h : T (in_series x)) where
  lower : T (le (decimal 1 200) x)
  unfolding in_series
  lower = and_l (le (decimal 1 200) x) (le x (whole 700)) h

  upper : T (le x (whole 700))
  unfolding in_series
  upper = and_r (le (decimal 1 200) x) (le x (whole 700)) h

  above_zero : T (positive x)
  unfolding decimal fraction whole of_int round
  above_zero = between (decimal 1 200) x (whole 700) tt tt lower upper

  at_least : den x ≤ num x * 2 ^ 800
  unfolding decimal fraction round
  at_least = no_less (decimal 1 200) x (2 ^ 800) tt above_zero (lit≤ tt) lower

  at_most : num x ≤ 700 * den x
  unfolding whole of_int round
  at_most = omega (arith, le→cross x (whole 700) above_zero tt upper)

  pub range : T (le (decimal 1 250) (div binary64 x (whole 1024))) × T (le (div binary64 x (whole 1024)) (whole 1))
  unfolding decimal fraction whole of_int
  range =
      let q = quotient x 1024 above_zero (omega arith) (omega arith) in
      let D : 0 < 1024 * den x = mul-pos (pow_pos 10) (den_pos x) in
      let s = stretched (num x) (den x) (2 ^ 800) (10 ^ 250) at_least (lit≤ tt) in
      rw q (
        round_mono binary64 1 (10 ^ 250) (num x) (1024 * den x) (lit< tt) D s,
        round_mono binary64 (num x) (1024 * den x) 1 1 D (pow_pos 0) (omega (arith, at_most)),
      )

below_zero : (m : ℕ) (e : ℤ) → T (ltb 0 m) → le (fin true m e) (whole 0) ≡ true
unfolding le whole of_int round
below_zero m e p =
    let z : 0 < m * up e = mul-pos (ltb→lt 0 m p) (up_pos e) in
    ap (λ (b : Bool). b || eq (fin true m e) (whole 0)) (lt-ltb 0 (m * up e * 1 + 0 * 1 * down e) (omega arith))

by_step_4 : (x : Float) → T (positive x) → num x ≤ 700 * den x → steps (neg x) ≡ falling (neg x)
unfolding steps neg le whole of_int round
by_step_4 nan p l = absurd p
by_step_4 (inf s) p l = absurd p
by_step_4 (fin true m e) p l = absurd p
by_step_4 (fin false m e) p l = rw (le-ltb (700 * down e) (m * up e * 1) (omega arith), below_zero m e p) refl

neg_neg : (x : Float) → neg (neg x) ≡ x
unfolding neg
neg_neg nan = refl
neg_neg (inf true) = refl
neg_neg (inf false) = refl
neg_neg (fin true m e) = refl
neg_neg (fin false m e) = refl

pub steps_are : (x : Float) → T (in_series x) → steps (neg x) ≡ squared 10 (series (checked (div binary64 x (whole 1024))) 14 (checked (whole 1)))
steps_are x h =
    by_step_4 x (above_zero x h) (at_most x h)
    ∙ falling_is (neg x)
    ∙ ap (λ (z : Float). squared 10 (series (checked (div binary64 z (whole 1024))) 14 (checked (whole 1)))) (neg_neg x)

pub each_of : (p : Float → Bool) (l : List Float) (k : ℕ) → T (every p l) → k < length l → T (p (get_or l k nan))
unfolding every
each_of p [] k h n = absurd (omega arith)
each_of p (x ∷ l) zero h n = and_l (p x) (every p l) h
each_of p (x ∷ l) (suc k) h n = each_of p l k (and_r (p x) (every p l) h) (omega arith)
