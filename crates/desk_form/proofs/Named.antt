-- A text of no more than 65,536 bytes is not in the form exactly where a line is named. Assumes nothing.
use Rattle.std.specs.Prelude.{Option, Some, None, option_map}
use mathlib.Core.Path.{◌≡◌, refl, subst, ◌∙◌}
use mathlib.Core.Bool.{Bool, true, false}
use mathlib.Core.List.{List, [], ◌∷◌, ◌++◌}
use Prim.Native.Nat.{ℕ, zero, suc, ◌+◌, ◌≤◌, ◌<◌}
use native.Mathlib.Omega.{arith}
use lib.ListN.{length, length-append}
use borrow.Author.Tests.{le-leb}
use Rattle.sheet_text.specs.Field.{field_text, field_after, Field}
use Rattle.sheet_text.proofs.Parses.{Says}
use Rattle.sheet_text.proofs.Printed.{after_says}
use Rattle.sheet_line.specs.Cylinder.{cylinder_text, cylinder}
use Rattle.sheet_line.specs.declared.cylinder.Cylinder.{Cylinder}
use Rattle.sheet_line.proofs.Printed.{cylinder_says}
use Rattle.sheet_read.specs.Form.{cylinders, bank, in_form}
use Rattle.desk_form.specs.Wrong.{cut, wrong_cylinder, first_wrong}
use Rattle.desk_form.proofs.Turns.{need_passed, need_wrong, cylinder_passed, cylinder_wrong}

abbrev pub is_none : {A : Type 0} → Option A → Bool
is_none None = true
is_none (Some a) = false

abbrev pub is_some : {A : Type 0} → Option A → Bool
is_some None = false
is_some (Some a) = true

none_mapped : {A B : Type 0} (f : A → B) (o : Option A) → is_none (option_map f o) ≡ is_none o
none_mapped f None = refl
none_mapped f (Some a) = refl

-- what is left is shorter
shorter : (u t v : List ℕ) → u ≡ t ++ v → 1 ≤ length t → length v < length u
shorter u t v e h = rw (e, length-append) (omega (arith, h))

cylinder_long : (c : Cylinder) → 1 ≤ length (cylinder_text c)
unfolding cylinder_text
cylinder_long c = omega arith

agree_by : (k i b : ℕ) (rest : List ℕ) → length (b ∷ rest) ≤ suc k → ((v : List ℕ) → length v ≤ k → is_none (cylinders k v) ≡ is_some (wrong_cylinder (i + 1) (cut v)))
    → (o : Option (Cylinder × List ℕ)) → cylinder (b ∷ rest) ≡ o → is_none (cylinders (suc k) (b ∷ rest)) ≡ is_some (wrong_cylinder i (cut (b ∷ rest)))
unfolding cylinders
agree_by k i b rest h ih None e = rw (cylinder_wrong i b (b ∷ rest) rest refl e, e) refl
agree_by k i b rest h ih (Some (c, v)) e =
    let less = shorter (b ∷ rest) (cylinder_text c) v (subst (Says cylinder_text (b ∷ rest)) e (cylinder_says (b ∷ rest))) (cylinder_long c) in
    rw (cylinder_passed i (b ∷ rest) v c e, e) (none_mapped _ (cylinders k v) ∙ ih v (omega (arith, less, h)))

agree : (k i : ℕ) (u : List ℕ) → length u ≤ k → is_none (cylinders k u) ≡ is_some (wrong_cylinder i (cut u))
unfolding cylinders cut wrong_cylinder
agree zero i [] h = refl
agree zero i (b ∷ rest) h = absurd (omega (arith, h))
agree (suc k) i [] h = refl
agree (suc k) i (b ∷ rest) h = agree_by k i b rest h (λ v. agree k (i + 1) v) (cylinder (b ∷ rest)) refl

bank_by : (t : List ℕ) (o : Option (Field × List ℕ)) → field_after 78 10 t ≡ o → is_none (bank (length t) t) ≡ is_some (first_wrong t)
unfolding bank
bank_by t None e = rw (need_wrong t e, e) refl
bank_by t (Some (f, v)) e =
    let less = shorter t (78 ∷ 32 ∷ field_text f ++ (10 ∷ [])) v (subst (Says (λ (x : Field). 78 ∷ 32 ∷ field_text x ++ (10 ∷ [])) t) e (after_says 78 10 t)) (omega arith) in
    rw (need_passed t v f e, e) (none_mapped _ (cylinders (length t) v) ∙ agree (length t) 2 v (omega (arith, less)))

-- A LINE IS NAMED EXACTLY WHERE THE TEXT IS NOT IN THE FORM, and not for its length
pub named : (t : List ℕ) → length t ≤ 65536 → is_none (in_form t) ≡ is_some (first_wrong t)
unfolding in_form
named t h = rw (le-leb (length t) 65536 h) (bank_by t (field_after 78 10 t) refl)
