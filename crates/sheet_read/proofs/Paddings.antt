-- A list in an array of fixed size: one more is set at the list's end, none where the array is full, and the list is taken back. Assumes nothing.
use mathlib.Core.Path.{◌≡◌, refl, ap}
use mathlib.Core.List.{List, [], ◌∷◌, ◌++◌}
use Prim.Native.Nat.{ℕ, zero, suc, ◌≤◌, ◌<◌}
use native.Mathlib.Omega.{arith}
use lib.ListN.{length, set, take}
use Rattle.sheet_read.specs.Padded.{padded}

module _ {A : Type 0} (d : A) where
  pub padded_length : (n : ℕ) (l : List A) → length (padded d n l) ≡ n
  unfolding padded
  padded_length zero l = refl
  padded_length (suc n) [] = ap suc (padded_length n [])
  padded_length (suc n) (x ∷ l) = ap suc (padded_length n l)

  pub padded_set : (n : ℕ) (l : List A) (x : A) → length l < n → set (padded d n l) (length l) x ≡ padded d n (l ++ (x ∷ []))
  unfolding padded
  padded_set zero l x h = absurd (omega arith)
  padded_set (suc n) [] x h = refl
  padded_set (suc n) (y ∷ l) x h = ap (λ (k : List A). y ∷ k) (padded_set n l x (omega arith))

  pub padded_full : (n : ℕ) (l : List A) (x : A) → n ≤ length l → padded d n l ≡ padded d n (l ++ (x ∷ []))
  unfolding padded
  padded_full zero l x h = refl
  padded_full (suc n) [] x h = absurd (omega arith)
  padded_full (suc n) (y ∷ l) x h = ap (λ (k : List A). y ∷ k) (padded_full n l x (omega arith))

  pub taken_back : (n : ℕ) (l : List A) → length l ≤ n → take (length l) (padded d n l) ≡ l
  unfolding padded
  taken_back n [] h = refl
  taken_back zero (y ∷ l) h = absurd (omega arith)
  taken_back (suc n) (y ∷ l) h = ap (λ (k : List A). y ∷ k) (taken_back n l (omega arith))
