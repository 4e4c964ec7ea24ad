-- The columns are the table: put together again they are rows 1 to 34 as printed; and a row's number is its column's entry at the row's place.
-- Assumes nothing.
use Prim.Native.Nat.{ℕ, zero, suc, ◌+◌, ◌<◌}
use mathlib.Core.Path.{◌≡◌, refl, ap, ◌∙◌}
use mathlib.Core.List.{List, [], ◌∷◌, map}
use native.Mathlib.Nat.{not-suc-le-zero, le_of_suc-le-suc}
use lib.ListN.{length, get_or, take, drop, length-map, get_or-append}
use lib.Seq.{get_or-append-add}
use lib.Ieee.{Float}
use Rattle.eos_rows.specs.Row.{Polynomial, Exponential, polynomial, exponential, polynomials, row7, exponentials, row34, gaussians}
use Rattle.eos_rows.specs.Column.{column, coefficients, delta_powers, tau_quarters, decay_powers}

-- ---- THE WHOLE TABLE AT ONCE: four columns as long as the table is, whose entries, place by place, are its rows
abbrev beside : {A B : Type 0} → List (A → B) → List A → List B
beside [] xs = []
beside (f ∷ fs) [] = []
beside (f ∷ fs) (x ∷ xs) = f x ∷ beside fs xs

pub record TheTable (ns : List Float) (ds qs cs : List ℕ) : Type 0 where
  pub n_long : length ns ≡ 34
  pub d_long : length ds ≡ 34
  pub q_long : length qs ≡ 34
  pub c_long : length cs ≡ 27
  pub rows_1_to_7 : beside (beside (map polynomial (take 7 ns)) (take 7 ds)) (take 7 qs) ≡ polynomials
  pub rows_8_to_34 : beside (beside (beside (map exponential (drop 7 ns)) (drop 7 ds)) (drop 7 qs)) cs ≡ exponentials

computed : TheTable coefficients delta_powers tau_quarters decay_powers
unfolding coefficients delta_powers tau_quarters decay_powers polynomials exponentials
computed = record { n_long = refl; d_long = refl; q_long = refl; c_long = refl; rows_1_to_7 = refl; rows_8_to_34 = refl }

-- whatever meets the four promises
pub the_table : {ns : List Float} {ds qs cs : List ℕ} → ns ≡ coefficients → ds ≡ delta_powers → qs ≡ tau_quarters → cs ≡ decay_powers
    → TheTable ns ds qs cs
the_table n d q c = rw (n, d, q, c) computed

-- ---- a number of each row of a list, by place: within the list the default does not matter
pub get_d_map_lt : {A B : Type 0} (f : A → B) (l : List A) (i : ℕ) (d : A) (e : B) → i < length l → get_or (map f l) i e ≡ f (get_or l i d)
get_d_map_lt f [] i d e h = absurd (not-suc-le-zero h)
get_d_map_lt f (x ∷ xs) zero d e h = refl
get_d_map_lt f (x ∷ xs) (suc i) d e h = get_d_map_lt f xs i d e (le_of_suc-le-suc h)

-- ---- any column, at the place of a row of 1 to 7 and of one of 8 to 34
pub seven : length polynomials ≡ 7
unfolding polynomials
seven = refl

pub twenty_seven : length exponentials ≡ 27
unfolding exponentials
twenty_seven = refl

pub five_bells : length gaussians ≡ 5
unfolding gaussians
five_bells = refl

module _ {A : Type 0} (f : Polynomial → A) (g : Exponential → A) (i : ℕ) (d : A) where
  pub of_polynomial : i < 7 → get_or (column f g) i d ≡ f (get_or polynomials i row7)
  of_polynomial h =
      get_or-append (map f polynomials) (map g exponentials) d i (rw (length-map, seven) h)
      ∙ get_d_map_lt f polynomials i row7 d (rw seven h)

  pub of_exponential : i < 27 → get_or (column f g) (7 + i) d ≡ g (get_or exponentials i row34)
  of_exponential h =
      let e : 7 ≡ length (map f polynomials) = rw (length-map, seven) refl in
      ap (λ (j : ℕ). get_or (column f g) (j + i) d) e
      ∙ get_or-append-add (map f polynomials) (map g exponentials) i d
      ∙ get_d_map_lt g exponentials i row34 d (rw twenty_seven h)
