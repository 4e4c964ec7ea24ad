-- From 216.592 K to 523 K the melting pressure never falls and never fails: each step is of numbers with no minus sign and keeps their order, so that
-- it is no more than at 523 K, where it is finite. Assumes nothing.
use Rattle.std.specs.Prelude.{Some}
use mathlib.Core.Path.{◌≡◌, sym, ◌∙◌}
use mathlib.Core.Bool.{true, false, true≢false}
use native.Mathlib.Omega.{arith}
use borrow.Author.Tests.{ltb-false}
use lib.Dec.{T}
use lib.Ieee.{Float, nan, inf, fin, binary64, round, of_int, add, sub, mul, div, le, lt}
use lib.Ieee.Bits.{is_true}
use lib.Ieee.Fits.{down_pos}
use lib.Ieee.Scale.{finite}
use Rattle.num_working.specs.Number.{fraction, decimal, whole, nonneg}
use Rattle.num_working.specs.Working.{checked, plain}
use Rattle.num_working.proofs.Workings.{checked_finite}
use Rattle.num_powers.specs.Power.{power}
use Rattle.num_laws.proofs.Orders.{Ordered, le_self, nonneg_finite}
use Rattle.num_laws.proofs.Sums.{Ranked, ordered, onward, not_below, add_keeps, sub_keeps, mul_keeps, div_keeps}
use Rattle.num_formulas.specs.Formula.{Formula, num, ◌⊕◌, ◌⊗◌, ◌⊘◌, ◌^^◌, value}
use Rattle.num_formulas.proofs.Formulas.{once}
use Rattle.eos_melting.specs.Melting.{past_triple, melting, melting_pressure}

-- ---- temperatures of the range
abbrev low : Float
low = decimal 216592 3

abbrev high : Float
high = whole 523

record Inside (t u : Float) : Type 0 where
  from : Ordered low t
  order : Ordered t u
  to : Ordered u high

low_nonneg : T (nonneg low)
unfolding decimal fraction round
low_nonneg = tt

high_nonneg : T (nonneg high)
unfolding whole of_int round
high_nonneg = tt

same : {x : Float} → T (nonneg x) → Ordered x x
same {x} p = record { first = p; second = p; order = le_self x p }

-- ---- a formula of a temperature that rises with it, or stays
record Rises (a : Float → Formula) : Type 0 where
  rise : {t u : Float} → Inside t u → Ordered (value (a t)) (value (a u))

by_the_last : {a : Float → Formula} → T (finite (value (a high))) → ((t u : Float) → Inside t u → Ranked (value (a t)) (value (a u))) → Rises a
by_the_last {a} f keeps = record {
  rise = λ {t} {u} i.
      let last = ordered (keeps u high (record { from = onward i.from i.order; order = i.to; to = same high_nonneg })) f in
      ordered (keeps t u i) (nonneg_finite (value (a u)) last.first);
}

constant : (x : Float) → T (nonneg x) → Rises (λ _. num x)
unfolding value
constant x p = record { rise = λ i. same p }

module _ {a b : Float → Formula} (r : Rises a) (s : Rises b) where
  sum : T (finite (value (a high ⊕ b high))) → Rises (λ t. a t ⊕ b t)
  unfolding value
  sum f = by_the_last f (λ t u i. add_keeps binary64 _ _ _ _ (r.rise i) (s.rise i))

  product : T (finite (value (a high ⊗ b high))) → Rises (λ t. a t ⊗ b t)
  unfolding value
  product f = by_the_last f (λ t u i. mul_keeps binary64 _ _ _ _ (r.rise i) (s.rise i))

-- ---- the steps
quotient : Rises (λ t. num t ⊘ num low)
unfolding value decimal fraction whole of_int round div
quotient = by_the_last tt (λ t u i. div_keeps binary64 t u (plain (checked low)) i.order tt)

begins_at_one : Ordered (whole 1) (value (num low ⊘ num low))
unfolding value decimal fraction whole of_int round div le
begins_at_one = record { first = tt; second = tt; order = tt }

past_triple_lem : Rises past_triple
unfolding value decimal fraction whole of_int round div sub
past_triple_lem = by_the_last tt (λ t u i.
    let first = quotient.rise (record { from = same low_nonneg; order = i.from; to = onward i.order i.to }) in
    sub_keeps binary64 _ _ (whole 1) (onward begins_at_one first) (quotient.rise i))

square : Rises (λ t. past_triple t ^^ 2)
unfolding value power decimal fraction whole of_int round div sub mul
square = by_the_last tt (λ t u i. mul_keeps binary64 _ _ _ _ (past_triple_lem.rise i) (past_triple_lem.rise i))

rises : Rises (λ t. melting (past_triple t))
unfolding value melting power decimal fraction whole of_int round div sub mul add
rises =
    product (constant (whole 517950) tt)
    (sum (sum (constant (whole 1) tt) (product (constant (decimal 19555390 4) tt) past_triple_lem tt) tt)
    (product (constant (decimal 20554593 4) tt) square tt) tt)
    tt

pub never_falls : (t u : Float) → T (nonneg t) → T (nonneg u) → T (le (decimal 216592 3) t) → T (le t u) → T (le u (whole 523))
    → Ordered (value (melting (past_triple t))) (value (melting (past_triple u)))
never_falls t u p q h k l = rises.rise (record {
  from = record { first = low_nonneg; second = p; order = h };
  order = record { first = p; second = q; order = k };
  to = record { first = q; second = high_nonneg; order = l };
})

-- ---- as the limits are tested
not_negative : (t : Float) → lt t (decimal 216592 3) ≡ false → finite t ≡ true → T (nonneg t)
unfolding lt decimal fraction round
not_negative nan h f = absurd (true≢false (sym f))
not_negative (inf s) h f = absurd (true≢false (sym f))
not_negative (fin false m e) h f = tt
not_negative (fin true m e) h f = absurd (omega (arith, ltb-false, down_pos e))

pub record Melts (t : Float) : Type 0 where
  pub pressure : Float
  pub worked : melting_pressure t ≡ Some pressure

pub never_fails : (t : Float) → lt t (decimal 216592 3) ≡ false → lt (whole 523) t ≡ false → finite t ≡ true → Melts t
unfolding melting_pressure
never_fails t h k f =
    let p = not_negative t h f in
    let o = rises.rise (record { from = not_below low t low_nonneg p h; order = same p; to = not_below t high p high_nonneg k }) in
    let m = melting (past_triple t) in
    record { pressure = value m; worked = sym (checked_finite (value m) (is_true (finite (value m)) (nonneg_finite (value m) o.first)) ∙ once m) }
