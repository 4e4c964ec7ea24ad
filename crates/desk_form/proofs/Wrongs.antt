-- What is read at the front of a text is its first line, read whole; where nothing is read, the first line isn't one. Assumes nothing.
use Rattle.std.specs.Prelude.{Option, Some, None}
use mathlib.Core.Path.{◌≡◌, refl, sym, ap, subst, ◌∙◌}
use mathlib.Core.Bool.{true, false}
use mathlib.Core.List.{List, [], ◌∷◌, ◌++◌, append-nil}
use Prim.Native.Nat.{ℕ}
use Rattle.sheet_text.specs.Parse.{Parser}
use Rattle.sheet_text.proofs.Parses.{All, Says, none_or_some}
use Rattle.desk_form.specs.Wrong.{cut, whole}
use Rattle.desk_form.proofs.Cuts.{OneLine, together, first_of}

-- over a reader and its printer, which undo each other, of what is one line
module _ {A : Type 0} (p : Parser A) (pr : A → List ℕ) (Small : A → Type 0)
    (back : (a : A) → Small a → (rest : List ℕ) → p (pr a ++ rest) ≡ Some (a, rest))
    (says : (u : List ℕ) → Says pr u (p u))
    (small : (u : List ℕ) → All Small (p u))
    (one : (a : A) → OneLine (pr a)) where
  read_small : (u v : List ℕ) (a : A) → p u ≡ Some (a, v) → Small a
  read_small u v a e = subst (All Small) e (small u)

  read_says : (u v : List ℕ) (a : A) → p u ≡ Some (a, v) → u ≡ pr a ++ v
  read_says u v a e = subst (Says pr u) e (says u)

  pub cut_off : (u v : List ℕ) (a : A) → p u ≡ Some (a, v) → cut u ≡ pr a ∷ cut v
  cut_off u v a e = ap cut (read_says u v a e) ∙ one a v

  pub is_whole : (u v : List ℕ) (a : A) → p u ≡ Some (a, v) → whole (p (pr a)) ≡ true
  is_whole u v a e = let q = ap p (sym (append-nil (pr a))) ∙ back a (read_small u v a e) [] in rw q refl

  not_by : (u l : List ℕ) (ls : List (List ℕ)) → p u ≡ None → cut u ≡ l ∷ ls → (o : Option (A × List ℕ)) → p l ≡ o → whole o ≡ false
  not_by u l ls n e None f = refl
  not_by u l ls n e (Some (a, b ∷ rest)) f = refl
  not_by u l ls n e (Some (a, [])) f =
      let is : u ≡ pr a ++ together ls = first_of l ls u e ∙ rw (read_says l [] a f, append-nil) refl in
      absurd (none_or_some n (ap p is ∙ back a (read_small l [] a f) (together ls)))

  pub not_whole : (u l : List ℕ) (ls : List (List ℕ)) → p u ≡ None → cut u ≡ l ∷ ls → whole (p l) ≡ false
  not_whole u l ls n e = not_by u l ls n e (p l) refl
