-- One turn of the loop that reads the cylinders' lines: what was read stands in front of what is left.
use Rattle.std.specs.Prelude.{Float, Option, Some, None, option_map}
use mathlib.Core.Path.{◌≡◌, refl, sym, ap, ◌∙◌}
use mathlib.Core.List.{List, [], ◌∷◌, ◌++◌, map, append_assoc, append-nil}
use Prim.Native.Nat.{ℕ, zero, suc, ◌+◌, ◌-◌, ◌≤◌, ◌<◌}
use native.Mathlib.Omega.{arith}
use lib.ListN.{length, drop, set, length-append, length-map, drop_of_length-le}
use Rattle.sheet_text.specs.Field.{Field}
use Rattle.sheet_text.proofs.Parses.{front}
use Rattle.sheet_line.specs.Cylinder.{cylinder}
use Rattle.sheet_line.specs.Line.{line_of, blank_line, line}
use Rattle.sheet_line.specs.declared.cylinder.Cylinder.{Cylinder}
use Rattle.sheet_line.specs.declared.line.Line.{Line}
use Rattle.sheet_line.proofs.Lines.{no_line}
use Rattle.sheet_read.specs.Form.{cylinders, unless_end, with_need}
use Rattle.sheet_read.specs.Padded.{padded}
use Rattle.sheet_read.specs.Sheet.{sheet_of, sheet_read}
use Rattle.sheet_read.proofs.Paddings.{padded_set, padded_full}

-- ---- what was read, and then what is left

abbrev pub after : List Cylinder → Option (List Cylinder) → Option (List Cylinder)
after cs = option_map (λ ds. cs ++ ds)

after_none : (o : Option (List Cylinder)) → after [] o ≡ o
after_none None = refl
after_none (Some ds) = refl

after_more : (cs : List Cylinder) (c : Cylinder) (o : Option (List Cylinder)) → after cs (option_map (λ ds. c ∷ ds) o) ≡ after (cs ++ (c ∷ [])) o
after_more cs c None = refl
after_more cs c (Some ds) = rw append_assoc

pub cylinders_end : (k : ℕ) → cylinders k [] ≡ Some []
unfolding cylinders
cylinders_end zero = refl
cylinders_end (suc k) = refl

not_at_end : (u : List ℕ) (b : ℕ) (rest : List ℕ) (o : Option (List Cylinder)) → u ≡ b ∷ rest → unless_end u o ≡ o
not_at_end u b rest o e = rw e

module _ (k : ℕ) (u : List ℕ) (b : ℕ) (rest : List ℕ) (e : u ≡ b ∷ rest) where
  cylinders_bad : cylinder u ≡ None → cylinders (suc k) u ≡ None
  unfolding cylinders
  cylinders_bad n = not_at_end u b rest _ e ∙ rw n

  pub cylinders_more : (c : Cylinder) (v : List ℕ) → cylinder u ≡ Some (c, v) → cylinders (suc k) u ≡ option_map (λ cs. c ∷ cs) (cylinders k v)
  unfolding cylinders
  cylinders_more c v n = not_at_end u b rest _ e ∙ rw n

-- ---- the lines that the array holds after cs

abbrev pub kept : List Cylinder → List (Line Float)
kept cs = padded blank_line 32 (map line_of cs)

map_more : (cs : List Cylinder) (c : Cylinder) → map line_of (cs ++ (c ∷ [])) ≡ map line_of cs ++ (line_of c ∷ [])
map_more [] c = refl
map_more (d ∷ cs) c = ap (λ (l : List (Line Float)). line_of d ∷ l) (map_more cs c)

kept_set : (cs : List Cylinder) (c : Cylinder) → length cs < 32 → set (kept cs) (length cs) (line_of c) ≡ kept (cs ++ (c ∷ []))
kept_set cs c h =
    ap (λ (n : ℕ). set (kept cs) n (line_of c)) (sym (length-map cs line_of))
    ∙ padded_set blank_line 32 (map line_of cs) (line_of c) (omega (arith, length-map cs line_of))
    ∙ ap (padded blank_line 32) (sym (map_more cs c))

kept_full : (cs : List Cylinder) (c : Cylinder) → 32 ≤ length cs → kept cs ≡ kept (cs ++ (c ∷ []))
kept_full cs c h = padded_full blank_line 32 (map line_of cs) (line_of c) (omega (arith, length-map cs line_of)) ∙ ap (padded blank_line 32) (sym (map_more cs c))

-- ---- the loop

-- the invariant: cs are the cylinders that were read, the array holds their lines, and what is left of the text has the rest
pub record Turn (s : List ℕ) (from : ℕ) (lines : List (Line Float)) (count at : ℕ) : Type 0 where
  pub cs : List Cylinder
  pub counted : count ≡ length cs
  pub held : lines ≡ kept cs
  pub rest : cylinders (length s) (drop from s) ≡ after cs (cylinders (length s - count) (drop at s))
  pub passed : count ≤ at
  pub within : at ≤ length s

pub first : (s : List ℕ) (from : ℕ) → from ≤ length s → Turn s from (kept []) 0 from
first s from h =
    let z : length s - 0 ≡ length s = omega arith in
    record { cs = []; counted = refl; held = refl; rest = rw (z, after_none); passed = omega arith; within = h }

module _ (s : List ℕ) (from : ℕ) (lines : List (Line Float)) (count at : ℕ) (t : Turn s from lines count at) where
  pub done : (need : Field) → length s ≤ at
      → Some (record { need = need; lines = lines; count = count }) ≡ sheet_read (with_need need (cylinders (length s) (drop from s)))
  unfolding sheet_of
  done need h = rw (t.rest, drop_of_length-le s h, cylinders_end, append-nil, t.held, t.counted)

  -- the array after one line more, with room for it and without
  pub held_more : (c : Cylinder) (l : Line Float) → l ≡ line_of c → count < 32 → set lines count l ≡ kept (t.cs ++ (c ∷ []))
  held_more c l e h = rw (e, t.held, t.counted) (kept_set t.cs c (omega (arith, t.counted)))

  pub held_full : (c : Cylinder) → 32 ≤ count → lines ≡ kept (t.cs ++ (c ∷ []))
  held_full c h = t.held ∙ kept_full t.cs c (omega (arith, t.counted))

  module _ (h : at < length s) where
    left : length s - count ≡ suc (length s - (count + 1))
    left = omega (arith, t.passed)

    pub bad : line (drop at s) ≡ None → cylinders (length s) (drop from s) ≡ None
    bad e = t.rest ∙ rw (left, cylinders_bad _ (drop at s) _ _ (front s at h) (no_line (drop at s) e))

    one_more : (c : Cylinder) (v : List ℕ) → cylinder (drop at s) ≡ Some (c, v)
        → after t.cs (cylinders (suc (length s - (count + 1))) (drop at s)) ≡ after (t.cs ++ (c ∷ [])) (cylinders (length s - (count + 1)) v)
    one_more c v e =
        ap (after t.cs) (cylinders_more _ (drop at s) _ _ (front s at h) c v e)
        ∙ after_more t.cs c (cylinders (length s - (count + 1)) v)

    pub more : (c : Cylinder) (next : ℕ) → cylinder (drop at s) ≡ Some (c, drop next s) → at < next → next ≤ length s
        → (lines' : List (Line Float)) → lines' ≡ kept (t.cs ++ (c ∷ [])) → Turn s from lines' (count + 1) next
    more c next e l m lines' k =
        record {
          cs = t.cs ++ (c ∷ []);
          counted = simp length-append (omega (arith, t.counted));
          held = k;
          rest = t.rest ∙ rw left (one_more c (drop next s) e);
          passed = omega (arith, t.passed);
          within = m;
        }
