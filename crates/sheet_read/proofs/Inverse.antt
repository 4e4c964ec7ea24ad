-- Reading and printing undo each other: what is printed is read back, and what is read is what the text has. So a text is in the form
-- exactly where it is the printing of a sheet, and of one sheet.
use Rattle.std.specs.Prelude.{Option, Some, None, option_map}
use mathlib.Core.Path.{◌≡◌, refl, sym, ap, subst, ◌∙◌}
use mathlib.Core.List.{List, [], ◌∷◌, ◌++◌, append_assoc}
use mathlib.Core.Logic.{◌↔◌}
use Prim.Native.Nat.{ℕ, zero, suc, ◌≤◌}
use native.Mathlib.Omega.{arith}
use lib.Dec.{leb}
use lib.ListN.{length, length-append}
use borrow.Author.Tests.{le-leb, leb-true}
use Rattle.num_working.proofs.Cases.{by_test}
use Rattle.sheet_text.specs.Parse.{and_then}
use Rattle.sheet_text.specs.Field.{Small, field_text, field_after, Field}
use Rattle.sheet_text.proofs.Parses.{All, Says}
use Rattle.sheet_text.proofs.Printed.{after_back, after_says, after_small}
use Rattle.sheet_line.specs.Cylinder.{AllSmall, cylinder_text, cylinder}
use Rattle.sheet_line.specs.declared.cylinder.Cylinder.{Cylinder}
use Rattle.sheet_line.proofs.Printed.{opened, cylinder_back, cylinder_says, cylinder_all}
use Rattle.sheet_read.specs.Form.{Bank, text, cylinders_text, EachSmall, Fair, unless_end, cylinders, with_need, bank, in_form}
use Rattle.sheet_read.proofs.Turns.{cylinders_end, cylinders_more}

-- ---- what is printed is read back

cylinders_back : (k : ℕ) (cs : List Cylinder) → length cs ≤ k → EachSmall cs → cylinders k (cylinders_text cs) ≡ Some cs
unfolding cylinders_text
cylinders_back k [] h a = cylinders_end k
cylinders_back zero (c ∷ cs) h a = absurd (omega arith)
cylinders_back (suc k) (c ∷ cs) h a =
    cylinders_more k (cylinder_text c ++ cylinders_text cs) _ _ (opened c (cylinders_text cs)) c (cylinders_text cs) (cylinder_back c a.0 (cylinders_text cs))
    ∙ rw (cylinders_back k cs (omega arith) a.1)

a_byte_each : (cs : List Cylinder) → length cs ≤ length (cylinders_text cs)
unfolding cylinders_text cylinder_text
a_byte_each [] = omega arith
a_byte_each (c ∷ cs) = let ih = a_byte_each cs in simp length-append (omega arith)

enough : (b : Bank) → length b.cylinders ≤ length (text b)
unfolding text
enough b = let ih = a_byte_each b.cylinders in simp length-append (omega arith)

bank_back : (k : ℕ) (b : Bank) → Fair b → length b.cylinders ≤ k → bank k (text b) ≡ Some b
unfolding bank text
bank_back k b f h = rw (after_back 78 10 refl b.need f.need (cylinders_text b.cylinders), cylinders_back k b.cylinders h f.cylinders)

pub read_back : (b : Bank) → Fair b → length (text b) ≤ 65536 → in_form (text b) ≡ Some b
unfolding in_form
read_back b f h = rw (le-leb (length (text b)) 65536 h) (bank_back (length (text b)) b f (enough b))

-- ---- what is read is what the text has, with 10 digits at most

abbrev Whole : List ℕ → Option (List Cylinder) → Type 0
Whole u None = Unit {0}
Whole u (Some cs) = (u ≡ cylinders_text cs) × EachSmall cs

end_whole : (u : List ℕ) (o : Option (List Cylinder)) → Whole u o → Whole u (unless_end u o)
unfolding cylinders_text
end_whole [] o h = (refl, tt)
end_whole (b ∷ rest) o h = h

after_line : (u : List ℕ) (c : Cylinder) (r : List ℕ) → u ≡ cylinder_text c ++ r → AllSmall c
    → (o : Option (List Cylinder)) → Whole r o → Whole u (option_map (λ cs. c ∷ cs) o)
unfolding cylinders_text
after_line u c r e a None g = tt
after_line u c r e a (Some cs) g = (e ∙ ap (λ (l : List ℕ). cylinder_text c ++ l) g.0, (a, g.1))

line_whole : (u : List ℕ) (o : Option (Cylinder × List ℕ)) (f : List ℕ → Option (List Cylinder))
    → Says cylinder_text u o → All AllSmall o → ((r : List ℕ) → Whole r (f r)) → Whole u (and_then o (λ c rest. option_map (λ cs. c ∷ cs) (f rest)))
line_whole u None f h a k = tt
line_whole u (Some p) f h a k = after_line u p.0 p.1 h a (f p.1) (k p.1)

cylinders_whole : (k : ℕ) (u : List ℕ) → Whole u (cylinders k u)
unfolding cylinders
cylinders_whole zero u = end_whole u None tt
cylinders_whole (suc k) u = end_whole u _ (line_whole u (cylinder u) (λ r. cylinders k r) (cylinder_says u) (cylinder_all u) (λ r. cylinders_whole k r))

module _ (t : List ℕ) where
  abbrev Is : Option Bank → Type 0
  Is None = Unit {0}
  Is (Some b) = (t ≡ text b) × Fair b × (length t ≤ 65536)

  module _ (h : length t ≤ 65536) where
    with_need_lem : (need : Field) (r : List ℕ) → t ≡ 78 ∷ 32 ∷ field_text need ++ (10 ∷ r) → Small need
        → (o : Option (List Cylinder)) → Whole r o → Is (with_need need o)
    unfolding text
    with_need_lem need r e a None g = tt
    with_need_lem need r e a (Some cs) g = (e ∙ ap (λ (l : List ℕ). 78 ∷ 32 ∷ field_text need ++ (10 ∷ l)) g.0, record { need = a; cylinders = g.1 }, h)

    after_need : (k : ℕ) (o : Option (Field × List ℕ)) → Says (λ (f : Field). 78 ∷ 32 ∷ field_text f ++ (10 ∷ [])) t o → All Small o
        → Is (and_then o (λ need rest. with_need need (cylinders k rest)))
    after_need k None e a = tt
    after_need k (Some p) e a =
        with_need_lem p.0 p.1
        (e ∙ ap (λ (l : List ℕ). 78 ∷ 32 ∷ l) (append_assoc (field_text p.0) (10 ∷ []) p.1))
        a (cylinders k p.1) (cylinders_whole k p.1)

    bank_is : (k : ℕ) → Is (bank k t)
    unfolding bank
    bank_is k = after_need k (field_after 78 10 t) (after_says 78 10 t) (after_small 78 10 t)

  in_form_is : Is (in_form t)
  unfolding in_form
  in_form_is = by_test Is (leb (length t) 65536) _ _ (λ e. bank_is (leb-true (length t) 65536 e) (length t)) (λ _. tt)

-- THE FORM: a text is read as the bank b exactly where it is the printing of b, the numbers of b have 10 digits at most, and it has 65,536 bytes at most
pub the_form : (t : List ℕ) (b : Bank) → (in_form t ≡ Some b) ↔ ((t ≡ text b) × Fair b × (length t ≤ 65536))
the_form t b = (there, back)
  where
    there : in_form t ≡ Some b → (t ≡ text b) × Fair b × (length t ≤ 65536)
    there e = subst (Is t) e (in_form_is t)

    back : (t ≡ text b) × Fair b × (length t ≤ 65536) → in_form t ≡ Some b
    back h = rw h.0 (read_back b h.1 (subst (λ (l : List ℕ). length l ≤ 65536) h.0 h.2))

-- and no two sheets have one printing
pub one_sheet : (b c : Bank) → Fair b → Fair c → text b ≡ text c → b ≡ c
one_sheet b c f g e =
    let short : length c.cylinders ≤ length (text b) = rw e (enough c) in
    let same : Some b ≡ Some c = sym (bank_back (length (text b)) b f (enough b)) ∙ ap (bank (length (text b))) e ∙ bank_back (length (text b)) c g short in
    cc
