-- The last digits of a number and what stands in front of them, a digit after the other; and how long a number's text is. Assumes nothing.
use mathlib.Core.Path.{◌≡◌, refl}
use mathlib.Core.List.{[], ◌∷◌, ◌++◌}
use Prim.Native.Nat.{ℕ, zero, suc, ◌+◌, ◌-◌, ◌/◌, ◌%◌}
use native.Mathlib.Omega.{arith}
use lib.ListN.{length, length-append}
use Rattle.sheet_text.specs.Decimal.{decimal}
use Rattle.desk_units.specs.Shown.{front, last_digits, sign_text, shown_text}
use Rattle.desk_units.specs.declared.Shown.{Shown}

pub front_next : (k n : ℕ) → (k ≡ 0 → ⊥) → front k n ≡ front (k - 1) (n / 10)
unfolding front
front_next zero n h = absurd (h refl)
front_next (suc k) n h = let z : suc k - 1 ≡ k = omega arith in rw z refl

pub last_next : (k n : ℕ) → (k ≡ 0 → ⊥) → last_digits k n ≡ last_digits (k - 1) (n / 10) ++ ((48 + n % 10) ∷ [])
unfolding last_digits
last_next zero n h = absurd (h refl)
last_next (suc k) n h = let z : suc k - 1 ≡ k = omega arith in rw z refl

pub last_length : (k n : ℕ) → length (last_digits k n) ≡ k
unfolding last_digits
last_length zero n = refl
last_length (suc k) n = rw (length-append, last_length k (n / 10)) (omega arith)

pub shown_length :
    (s : Shown) → length (shown_text s) ≡ length (sign_text s.below) + (length (decimal (front s.places s.digits)) + (1 + s.places))
unfolding shown_text
shown_length s = simp (length-append, last_length) (omega arith)
