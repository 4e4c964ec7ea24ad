-- Reading a cylinder's line and printing it undo each other, and what is read has 10 digits at most.
use Rattle.std.specs.Prelude.{Some}
use mathlib.Core.Path.{◌≡◌, refl, ap, subst, ◌∙◌}
use mathlib.Core.List.{List, [], ◌∷◌, ◌++◌, append_assoc}
use Prim.Native.Nat.{ℕ}
use lib.Dec.{eqb}
use borrow.Author.Tests.{eqb-true}
use Rattle.num_working.proofs.Cases.{by_test}
use Rattle.sheet_text.specs.Parse.{byte}
use Rattle.sheet_text.specs.Field.{Small, field_text, field_to, field_after, Field}
use Rattle.sheet_text.proofs.Parses.{All, bind_all, pass_all, Says, then_says, byte_back, byte_says}
use Rattle.sheet_text.proofs.Printed.{to_back, to_says, to_small, after_back, after_says, after_small}
use Rattle.sheet_line.specs.Cylinder.{kind_letter, cylinder_text, AllSmall, kind, reading, cylinder}
use Rattle.sheet_line.specs.declared.cylinder.Kind.{Kind}
use Rattle.sheet_line.specs.declared.cylinder.Kind.TheVariants.{Pressure, Density, Weighed}
use Rattle.sheet_line.specs.declared.cylinder.Cylinder.{Cylinder}

-- ---- the text of a line with what follows it, part by part

abbrev volumed : Cylinder → List ℕ → List ℕ
volumed c rest = field_text c.volume ++ (10 ∷ rest)

abbrev valued : Cylinder → List ℕ → List ℕ
valued c rest = field_text c.value ++ (32 ∷ volumed c rest)

abbrev read : Cylinder → List ℕ → List ℕ
read c rest = kind_letter c.kind ∷ 32 ∷ valued c rest

pub opened : (c : Cylinder) (rest : List ℕ)
    → cylinder_text c ++ rest ≡ 67 ∷ 32 ∷ field_text c.number ++ (32 ∷ field_text c.temperature ++ (32 ∷ read c rest))
unfolding cylinder_text
opened c rest = simp append_assoc

-- ---- what is printed is read back

kind_back : (k : Kind) (rest : List ℕ) → kind (kind_letter k ∷ rest) ≡ Some (k, rest)
unfolding kind
kind_back Pressure rest = refl
kind_back Density rest = refl
kind_back Weighed rest = refl

pub cylinder_back : (c : Cylinder) → AllSmall c → (rest : List ℕ) → cylinder (cylinder_text c ++ rest) ≡ Some (c, rest)
unfolding cylinder reading
cylinder_back c w rest =
    rw (opened c rest)
    (rw (
      after_back 67 32 refl c.number w.number (field_text c.temperature ++ (32 ∷ read c rest)),
      to_back 32 refl c.temperature w.temperature (read c rest),
      kind_back c.kind (32 ∷ valued c rest),
      byte_back 32 (valued c rest),
      to_back 32 refl c.value w.value (volumed c rest),
      to_back 10 refl c.volume w.volume rest,
    ))

-- ---- what is read is what the text has

kind_says : (u : List ℕ) → Says (λ (k : Kind). kind_letter k ∷ []) u (kind u)
unfolding kind
kind_says [] = tt
kind_says (x ∷ rest) =
    by_test (Says (λ (k : Kind). kind_letter k ∷ []) (x ∷ rest)) (eqb x 80) _ _ (λ e. ap (λ (y : ℕ). y ∷ rest) (eqb-true x 80 e))
    (λ _. by_test (Says (λ (k : Kind). kind_letter k ∷ []) (x ∷ rest)) (eqb x 68) _ _ (λ e. ap (λ (y : ℕ). y ∷ rest) (eqb-true x 68 e))
    (λ _. by_test (Says (λ (k : Kind). kind_letter k ∷ []) (x ∷ rest)) (eqb x 87) _ _ (λ e. ap (λ (y : ℕ). y ∷ rest) (eqb-true x 87 e)) (λ _. tt)))

pub cylinder_says : (u : List ℕ) → Says cylinder_text u (cylinder u)
unfolding cylinder reading
cylinder_says u =
    then_says (λ (f : Field). 67 ∷ 32 ∷ field_text f ++ (32 ∷ [])) cylinder_text u u (field_after 67 32 u) _ (after_says 67 32 u)
    (λ n u₁ e₁. then_says (λ (f : Field). field_text f ++ (32 ∷ [])) cylinder_text u₁ u (field_to 32 u₁) _ (to_says 32 u₁)
    (λ t u₂ e₂. then_says (λ (k : Kind). kind_letter k ∷ []) cylinder_text u₂ u (kind u₂) _ (kind_says u₂)
    (λ k u₃ e₃. then_says (λ (_ : Unit {0}). 32 ∷ []) cylinder_text u₃ u (byte 32 u₃) _ (byte_says 32 u₃)
    (λ _ u₄ e₄. then_says (λ (f : Field). field_text f ++ (32 ∷ [])) cylinder_text u₄ u (field_to 32 u₄) _ (to_says 32 u₄)
    (λ v u₅ e₅. then_says (λ (f : Field). field_text f ++ (10 ∷ [])) cylinder_text u₅ u (field_to 10 u₅) _ (to_says 10 u₅)
    (λ m u₆ e₆.
    rw (opened _ u₆)
    (e₁ ∙ ap (λ (l : List ℕ). 67 ∷ 32 ∷ l) (append_assoc (field_text n) (32 ∷ []) u₁) ∙ rw (e₂, e₃, e₄, e₅, e₆) (simp append_assoc))))))))

-- ---- what is read has 10 digits at most

pub cylinder_all : (u : List ℕ) → All AllSmall (cylinder u)
unfolding cylinder reading
cylinder_all u =
    bind_all Small AllSmall (field_after 67 32 u) _ (after_small 67 32 u)
    (λ n u₁ hn. bind_all Small AllSmall (field_to 32 u₁) _ (to_small 32 u₁)
    (λ t u₂ ht. pass_all AllSmall (kind u₂) _
    (λ k u₃. pass_all AllSmall (byte 32 u₃) _
    (λ _ u₄. bind_all Small AllSmall (field_to 32 u₄) _ (to_small 32 u₄)
    (λ v u₅ hv. bind_all Small AllSmall (field_to 10 u₅) _ (to_small 10 u₅)
    (λ m u₆ hm. record { number = hn; temperature = ht; value = hv; volume = hm }))))))

pub cylinder_small : (u : List ℕ) (c : Cylinder) (r : List ℕ) → cylinder u ≡ Some (c, r) → AllSmall c
cylinder_small u c r e = subst (All AllSmall) e (cylinder_all u)
