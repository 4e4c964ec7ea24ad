-- The sums over the first rows of the table: one row more, and all five. Assumes nothing.
use Prim.Native.Nat.{ℕ, ◌+◌, ◌<◌}
use mathlib.Core.Path.{◌≡◌, refl}
use mathlib.Core.List.{List, [], ◌∷◌, ◌++◌, foldl}
use lib.ListN.{length, get_or, take}
use lib.Ieee.{Float}
use Rattle.std.proofs.lemmas.List.{take_more}
use Rattle.num_formulas.specs.Formula.{num, ◌⊕◌, ◌⊖◌, value}
use Rattle.eos_ideal.specs.declared.Row.{Row}
use Rattle.eos_ideal.specs.declared.Table.{Table}
use Rattle.eos_ideal.specs.declared.Sums.{Sums}
use Rattle.eos_ideal.specs.Ideal.{table27, head_τ, head_ττ, row_τ, row_ττ, phi_τ, phi_ττ, sums}

abbrev pub sums_of : Float → List Row → Sums
sums_of τ some = sums (foldl (λ s i. s ⊕ row_τ τ i) (head_τ table27 τ) some) (foldl (λ s i. s ⊖ row_ττ τ i) (head_ττ table27 τ) some)

folded : {A B : Type 0} (f : B → A → B) (z : B) (l : List A) (x : A) → foldl f z (l ++ x ∷ []) ≡ f (foldl f z l) x
folded f z [] x = refl
folded f z (y ∷ l) x = folded f (f z y) l x

-- the sums with a row's figures, as `with_row` has them
abbrev pub with : Float → Sums → Row → Sums
with τ s i = sums (num s.first ⊕ row_τ τ i) (num s.second ⊖ row_ττ τ i)

pub one_more : (τ : Float) (s : Sums) (l : List Row) (k : ℕ) (d : Row) → k < length l → s ≡ sums_of τ (take k l)
    → with τ s (get_or l k d) ≡ sums_of τ (take (k + 1) l)
unfolding value
one_more τ s l k d h e = rw (
  e,
  take_more l k d h,
  folded (λ s j. s ⊕ row_τ τ j) (head_τ table27 τ) (take k l) (get_or l k d),
  folded (λ s j. s ⊖ row_ττ τ j) (head_ττ table27 τ) (take k l) (get_or l k d),
)

pub five_rows : (t : Table) → t ≡ table27 → length t.rows ≡ 5
unfolding table27
five_rows t e = rw e refl

pub all_five : (τ : Float) (t : Table) (k : ℕ) → t ≡ table27 → k ≡ 5 → sums_of τ (take k t.rows) ≡ sums (phi_τ τ) (phi_ττ τ)
unfolding phi_τ phi_ττ table27
all_five τ t k e f = rw (e, f)
