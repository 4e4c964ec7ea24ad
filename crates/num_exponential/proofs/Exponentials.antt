-- The exponential worked in plain f64 and tested at the end: a turn of each loop, and the whole series as one chain. Assumes nothing.
use mathlib.Core.Path.{◌≡◌, refl, sym, ap, ◌∙◌}
use Prim.Native.Nat.{ℕ, zero, suc, ◌-◌, ◌<◌, ◌≤◌}
use native.Mathlib.Numerals.{sub-one}
use native.Mathlib.Omega.{arith}
use lib.Dec.{T}
use lib.Ieee.{Float, binary64, neg, mul, sub, div, of_int}
use lib.Ieee.Scale.{finite}
use Rattle.num_working.specs.Working.{Worked, checked, ◌-ᵂ◌, ◌*ᵂ◌, ◌/ᵂ◌}
use Rattle.num_working.specs.Number.{whole}
use Rattle.num_exponential.specs.Exponential.{falling, series, squared}
use Rattle.num_exponential.specs.Lockstep.{chain, squarings}
use Rattle.num_exponential.proofs.Tables.{at}
use Rattle.num_working.proofs.Workings.{checked_sub, checked_mul, checked_div}

divisor_finite : (k : ℕ) → k ≤ 14 → T (finite (whole k))
unfolding whole of_int
divisor_finite k h = at 15 (λ n. finite (whole n)) tt k (omega arith)

turned : (y : Float) (k : ℕ) (s : Float) → k ≤ 14
    → checked (sub binary64 (whole 1) (mul binary64 (div binary64 y (whole k)) s)) ≡ checked (whole 1) -ᵂ (checked y /ᵂ checked (whole k)) *ᵂ checked s
turned y k s h =
    checked_sub (whole 1) _
    ∙ ap (λ (w : Worked). checked (whole 1) -ᵂ w) (checked_mul _ s ∙ ap (λ (w : Worked). w *ᵂ checked s) (checked_div y (whole k) (divisor_finite k h)))

pub series_turn : (y : Float) (k : ℕ) (s : Float) → 0 < k → k ≤ 14
    → series (checked y) k (checked s) ≡ series (checked y) (k - 1) (checked (sub binary64 (whole 1) (mul binary64 (div binary64 y (whole k)) s)))
unfolding series
series_turn y zero s h l = absurd (omega arith)
series_turn y (suc k) s h l = rw sub-one (ap (series (checked y) k) (sym (turned y (suc k) s l)))

pub squared_turn : (n : ℕ) (s : Float) → 0 < n → squared n (checked s) ≡ squared (n - 1) (checked (mul binary64 s s))
unfolding squared
squared_turn zero s h = absurd (omega arith)
squared_turn (suc n) s h = rw sub-one (ap (squared n) (sym (checked_mul s s)))

pub series_end : (y : Worked) (k : ℕ) (s : Worked) → k ≤ 0 → series y k s ≡ s
unfolding series
series_end y zero s h = refl
series_end y (suc k) s h = absurd (omega arith)

pub squared_end : (n : ℕ) (s : Worked) → n ≤ 0 → squared n s ≡ s
unfolding squared
squared_end zero s h = refl
squared_end (suc n) s h = absurd (omega arith)

-- ---- the series and the squarings in plain f64
pub series_chain : (y : Float) (k : ℕ) (s : Float) → k ≤ 14 → series (checked y) k (checked s) ≡ checked (chain y k s)
unfolding series chain
series_chain y zero s h = refl
series_chain y (suc k) s h = ap (series (checked y) k) (sym (turned y (suc k) s h)) ∙ series_chain y k _ (omega arith)

pub squared_powers : (n : ℕ) (s : Float) → squared n (checked s) ≡ checked (squarings n s)
unfolding squared squarings
squared_powers zero s = refl
squared_powers (suc n) s = ap (squared n) (sym (checked_mul s s)) ∙ squared_powers n (mul binary64 s s)

pub falling_is : (x : Float) → falling x ≡ squared 10 (series (checked (div binary64 (neg x) (whole 1024))) 14 (checked (whole 1)))
unfolding falling whole of_int
falling_is x = ap (λ (y : Worked). squared 10 (series y 14 (checked (whole 1)))) (sym (checked_div (neg x) (whole 1024) tt))
