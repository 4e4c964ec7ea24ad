-- One turn of the loop that passes the lines of a text: so many were passed and are in the form, and the rest is left. Assumes nothing.
use Rattle.std.specs.Prelude.{Float, Some, None}
use mathlib.Core.Path.{◌≡◌, refl, ap, ◌∙◌}
use mathlib.Core.Bool.{Bool, true, false}
use mathlib.Core.List.{List, [], ◌∷◌, ◌++◌, append_assoc}
use Prim.Native.Nat.{ℕ, ◌+◌, ◌≤◌, ◌<◌}
use native.Mathlib.Omega.{arith}
use lib.Dec.{eqb}
use lib.ListN.{length, drop, drop_of_length-le}
use Rattle.sheet_text.specs.Parse.{byte}
use Rattle.sheet_text.specs.Field.{Small, field_text, field_after, Field}
use Rattle.sheet_text.specs.Place.{Leaves}
use Rattle.sheet_text.proofs.Parses.{front}
use Rattle.sheet_text.proofs.Printed.{after_back, after_says, after_small}
use Rattle.sheet_line.specs.Cylinder.{AllSmall, cylinder_text, cylinder}
use Rattle.sheet_line.specs.Line.{line}
use Rattle.sheet_line.specs.declared.cylinder.Cylinder.{Cylinder}
use Rattle.sheet_line.specs.declared.line.Line.{Line}
use Rattle.sheet_line.proofs.Lines.{no_line, of_cylinder}
use Rattle.sheet_line.proofs.Printed.{cylinder_back, cylinder_says, cylinder_all}
use Rattle.desk_form.specs.Wrong.{cut, lines_of, is_need, is_cylinder, wrong_cylinder, first_wrong}
use Rattle.desk_form.proofs.Cuts.{need_line, cylinder_line}
use Rattle.desk_form.proofs.Wrongs.{cut_off, is_whole, not_whole}

-- ---- a text that is not at its end has a first line

record First (u : List ℕ) : Type 0 where
  pub l : List ℕ
  pub ls : List (List ℕ)
  pub is : cut u ≡ l ∷ ls

first_onto : (b : ℕ) (rest : List ℕ) (ls : List (List ℕ)) → cut rest ≡ ls → eqb b 10 ≡ false → First (b ∷ rest)
unfolding cut
first_onto b rest [] e t = record { l = b ∷ []; ls = []; is = rw (t, e) }
first_onto b rest (l ∷ ls) e t = record { l = b ∷ l; ls = ls; is = rw (t, e) }

first_by : (b : ℕ) (rest : List ℕ) (t : Bool) → eqb b 10 ≡ t → First (b ∷ rest)
unfolding cut
first_by b rest true e = record { l = b ∷ []; ls = cut rest; is = rw e }
first_by b rest false e = first_onto b rest (cut rest) refl e

first : (b : ℕ) (rest : List ℕ) → First (b ∷ rest)
first b rest = first_by b rest (eqb b 10) refl

-- ---- the two readers and their printers

abbrev need_text : Field → List ℕ
need_text f = 78 ∷ 32 ∷ field_text f ++ (10 ∷ [])

need_back : (f : Field) → Small f → (rest : List ℕ) → field_after 78 10 (need_text f ++ rest) ≡ Some (f, rest)
need_back f h rest = ap (λ (l : List ℕ). field_after 78 10 (78 ∷ 32 ∷ l)) (append_assoc (field_text f) (10 ∷ []) rest) ∙ after_back 78 10 refl f h rest

need_off : (u v : List ℕ) (f : Field) → field_after 78 10 u ≡ Some (f, v) → cut u ≡ need_text f ∷ cut v
need_off = cut_off (field_after 78 10) need_text Small need_back (after_says 78 10) (after_small 78 10) need_line

need_is : (u v : List ℕ) (f : Field) → field_after 78 10 u ≡ Some (f, v) → is_need (need_text f) ≡ true
unfolding is_need
need_is = is_whole (field_after 78 10) need_text Small need_back (after_says 78 10) (after_small 78 10) need_line

need_not : (u l : List ℕ) (ls : List (List ℕ)) → field_after 78 10 u ≡ None → cut u ≡ l ∷ ls → is_need l ≡ false
unfolding is_need
need_not = not_whole (field_after 78 10) need_text Small need_back (after_says 78 10) (after_small 78 10) need_line

cylinder_off : (u v : List ℕ) (c : Cylinder) → cylinder u ≡ Some (c, v) → cut u ≡ cylinder_text c ∷ cut v
cylinder_off = cut_off cylinder cylinder_text AllSmall cylinder_back cylinder_says cylinder_all cylinder_line

cylinder_is : (u v : List ℕ) (c : Cylinder) → cylinder u ≡ Some (c, v) → is_cylinder (cylinder_text c) ≡ true
unfolding is_cylinder
cylinder_is = is_whole cylinder cylinder_text AllSmall cylinder_back cylinder_says cylinder_all cylinder_line

cylinder_not : (u l : List ℕ) (ls : List (List ℕ)) → cylinder u ≡ None → cut u ≡ l ∷ ls → is_cylinder l ≡ false
unfolding is_cylinder
cylinder_not = not_whole cylinder cylinder_text AllSmall cylinder_back cylinder_says cylinder_all cylinder_line

-- ---- one line

-- of a text that is cut into some line
lines_cut : (u : List ℕ) (l : List ℕ) (ls : List (List ℕ)) → cut u ≡ l ∷ ls → lines_of u ≡ l ∷ ls
unfolding cut
lines_cut [] l ls e = absurd (let z : ◌≡◌ {A = ℕ} 0 1 = cc in omega arith)
lines_cut (b ∷ rest) l ls e = e

pub need_passed : (s v : List ℕ) (f : Field) → field_after 78 10 s ≡ Some (f, v) → first_wrong s ≡ wrong_cylinder 2 (cut v)
unfolding first_wrong
need_passed s v f e = rw (lines_cut s _ _ (need_off s v f e), need_is s v f e) refl

pub need_wrong : (s : List ℕ) → field_after 78 10 s ≡ None → first_wrong s ≡ Some (1, lines_of s)
unfolding first_wrong is_need field_after byte
need_wrong [] e = refl
need_wrong (b ∷ rest) e = let x = first b rest in rw (x.is, need_not (b ∷ rest) x.l x.ls e x.is) refl

pub cylinder_passed : (i : ℕ) (u v : List ℕ) (c : Cylinder) → cylinder u ≡ Some (c, v) → wrong_cylinder i (cut u) ≡ wrong_cylinder (i + 1) (cut v)
unfolding wrong_cylinder
cylinder_passed i u v c e = rw (cylinder_off u v c e, cylinder_is u v c e) refl

pub cylinder_wrong : (i b : ℕ) (u rest : List ℕ) → u ≡ b ∷ rest → cylinder u ≡ None → wrong_cylinder i (cut u) ≡ Some (i, lines_of u)
unfolding wrong_cylinder
cylinder_wrong i b u rest g e =
    let x = first b rest in
    let is : cut u ≡ x.l ∷ x.ls = ap cut g ∙ x.is in
    rw (is, lines_cut u x.l x.ls is, cylinder_not u x.l x.ls e is) refl

-- ---- the loop

-- lines before line `line` are in the form, which begins at a place
pub record Passed (s : List ℕ) (line from : ℕ) : Type 0 where
  pub rest : first_wrong s ≡ wrong_cylinder line (cut (drop from s))
  pub within : from ≤ length s
  pub few : line ≤ from + 1

pub begun : (s : List ℕ) (f : Field) (n : ℕ) → Leaves s 0 (field_after 78 10 s) f n → Passed s 2 n
begun s f n l = record { rest = need_passed s (drop n s) f l.0; within = l.2; few = omega (arith, l.1) }

module _ {s : List ℕ} {i from : ℕ} (t : Passed s i from) where
  pub done : length s ≤ from → first_wrong s ≡ None
  unfolding cut wrong_cylinder
  done h = t.rest ∙ rw (drop_of_length-le s h)

  module _ (h : from < length s) where
    pub stops : line (drop from s) ≡ None → first_wrong s ≡ Some (i, lines_of (drop from s))
    stops e = t.rest ∙ cylinder_wrong i _ (drop from s) _ (front s from h) (no_line (drop from s) e)

    pub one_more : (l : Line Float) (n : ℕ) → Leaves s from (line (drop from s)) l n → Passed s (i + 1) n
    one_more l n e =
        let o = of_cylinder (drop from s) l (drop n s) e.0 in
        record { rest = t.rest ∙ cylinder_passed i (drop from s) (drop n s) o.c o.read; within = e.2; few = omega (arith, t.few, e.1) }

-- what the code's function cites
pub ruleset turns = (need_wrong, begun, done, stops, one_more)
