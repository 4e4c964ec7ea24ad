-- Whole powers: what a loop's turn does, that one test at the end stands for one of each product, and where a power stands in an array. Assumes nothing.
use mathlib.Core.Path.{◌≡◌, refl, sym, ap, ◌∙◌}
use mathlib.Core.List.{List, [], ◌∷◌, ◌++◌}
use mathlib.Core.Logic.{inl, inr}
use Prim.Native.Nat.{ℕ, zero, suc, ◌+◌, ◌≤◌}
use native.Mathlib.Numerals.{add-one}
use native.Mathlib.Nat.{eq-or-lt_of_le, le_of_suc-le-suc}
use native.Mathlib.Omega.{arith}
use lib.ListN.{length, get_or, length-append, get_or-append}
use lib.Ieee.{Float, nan, binary64, mul}
use Rattle.num_working.specs.Working.{Worked, checked, ◌*ᵂ◌}
use Rattle.num_powers.specs.Power.{power, powers, ◌^ᵂ◌}
use Rattle.num_working.proofs.Workings.{checked_mul}

pub power_next : (x : Float) (i : ℕ) → 1 ≤ i → mul binary64 (power x i) x ≡ power x (i + 1)
unfolding power
power_next x zero h = absurd (omega arith)
power_next x (suc j) h = rw add-one refl

pub checked_power : (x : Float) (n : ℕ) → checked (power x n) ≡ checked x ^ᵂ n
unfolding power ◌^ᵂ◌
checked_power x zero = refl
checked_power x (suc zero) = refl
checked_power x (suc (suc n)) = checked_mul (power x (suc n)) x ∙ ap (λ (w : Worked). w *ᵂ checked x) (checked_power x (suc n))

-- ---- the array of powers has each power at its place
at_end : (l : List Float) (y : Float) → get_or (l ++ (y ∷ [])) (length l) nan ≡ y
at_end [] y = refl
at_end (x ∷ l) y = at_end l y

pub length_powers : (n : ℕ) (x : Float) → length (powers n x) ≡ suc n
unfolding powers
length_powers zero x = refl
length_powers (suc n) x = length-append (powers n x) (power x (suc n) ∷ []) ∙ (let e = length_powers n x in omega arith)

pub powers_at : (n k : ℕ) (x : Float) → k ≤ n → get_or (powers n x) k nan ≡ power x k
unfolding powers
powers_at zero k x h = let e : k ≡ 0 = omega arith in rw e refl
powers_at (suc n) k x h = elim (eq-or-lt_of_le h) [
  | inl e ↦
      let l : k ≡ length (powers n x) = e ∙ sym (length_powers n x) in
      ap (λ (i : ℕ). get_or (powers n x ++ (power x (suc n) ∷ [])) i nan) l ∙ at_end (powers n x) (power x (suc n)) ∙ ap (power x) (sym e)
  | inr l ↦ get_or-append (powers n x) (power x (suc n) ∷ []) nan k (rw (length_powers n x) l) ∙ powers_at n k x (le_of_suc-le-suc l)
]
