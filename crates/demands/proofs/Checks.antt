-- The checks on the inputs and that of the melting line, by what they find. Assumes nothing.
use Rattle.refusal.specs.Refused.{refused}
use Rattle.refusal.specs.declared.Refusal.{Refusal}
use Rattle.std.specs.Prelude.{Some, None, Ok, Err, Result}
use Prim.Native.Nat.{ℕ}
use mathlib.Core.Path.{◌≡◌, refl, sym, ap}
use mathlib.Core.Bool.{Bool, true, false, ◌&&◌, not, true≢false}
use borrow.Author.Tests.{not-true, not-false}
use lib.Ieee.{Float, lt}
use lib.Ieee.Scale.{finite}
use Rattle.num_working.proofs.Cases.{by_test, by_working}
use Rattle.equation.specs.Equation.{Equation}
use Rattle.door_limits.specs.Limits.{outside}
use Rattle.door_limits.specs.declared.Range.{Range}
use Rattle.door_checks.specs.Check.{ranged, solid, Check}
use Rattle.door_answers.specs.Answer.{passed, Answer}
use Rattle.demands.specs.Demands.{OutOfRange, no_number, no_temperature, no_value, InRange, Fluid}

-- ---- two refusals that are the same have one number
abbrev number_in : {A : Type 0} → Result A Refusal → ℕ
number_in (Ok x) = 0
number_in (Err n) = n.0

pub same_number : {A : Type 0} {m n : ℕ} → refused {A = A} m ≡ refused n → m ≡ n
same_number e = ap number_in e

-- ---- both are numbers
pub first : (a b : Bool) → (a && b) ≡ true → a ≡ true
first true b h = refl
first false b h = h

pub second : (a b : Bool) → (a && b) ≡ true → b ≡ true
second true b h = h
second false b h = absurd (true≢false (sym h))

-- ---- 3, 4 and 5
module _ (temperature value : Range) (t x : Float) where
  pub data Finds (c : Check) : Type 0 where
    stops : (n : ℕ) → c ≡ refused n → OutOfRange temperature value t x n → Finds c
    passes : c ≡ Ok tt → InRange temperature value t x → Finds c

  pub finds : Finds (ranged temperature value t x)
  unfolding ranged
  finds =
      by_test Finds (not (finite t && finite x)) _ _ (λ e. stops 3 refl (no_number (not-true _ e)))
      (λ e. by_test Finds (outside temperature t) _ _ (λ f. stops 4 refl (no_temperature (not-false _ e) f))
      (λ f. by_test Finds (outside value x) _ _ (λ g. stops 5 refl (no_value (not-false _ e) f g))
      (λ g. passes refl (record { numbers = not-false _ e; temperature = f; value = g }))))

  pub stops_back : {n : ℕ} → OutOfRange temperature value t x n → ranged temperature value t x ≡ refused n
  unfolding ranged
  stops_back (no_number e) = rw e refl
  stops_back (no_temperature e f) = rw (e, f) refl
  stops_back (no_value e f g) = rw (e, f, g) refl

  pub passes_back : InRange temperature value t x → ranged temperature value t x ≡ Ok tt
  unfolding ranged
  passes_back p = rw (p.numbers, p.temperature, p.value) refl

-- ---- 19
module _ (E : Equation) (t p : Float) where
  -- what holds of 7, of 19 and of the answer a where p is fluid, holds of what comes of the check
  pub melts : (P : Answer → Type 0) (a : Answer) → (E.melting_pressure t ≡ None → P (refused 7))
      → ((m : Float) → E.melting_pressure t ≡ Some m → lt m p ≡ true → P (refused 19)) → (Fluid E t p → P a)
      → P (passed (solid (E.melting_pressure t) p) a)
  unfolding solid
  melts P a f s h =
      by_working (λ (c : Check). P (passed c a)) (E.melting_pressure t) _ _ f
      (λ m e. by_test (λ (c : Check). P (passed c a)) (lt m p) _ _ (s m e) (λ q. h (record { melting = m; worked = e; not_above = q })))

  pub thawed_back : Fluid E t p → solid (E.melting_pressure t) p ≡ Ok tt
  unfolding solid
  thawed_back f = rw (f.worked, f.not_above) refl
