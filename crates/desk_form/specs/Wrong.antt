-- RULES 14.5: the first line of a text that is not in the form at its place. Definitions only.
use Rattle.std.specs.Prelude.{ℕ, ◌+◌, ◌≤◌, ◌≡◌, Bool, true, false, cond, List, [], ◌∷◌, eqb, length, drop, Option, Some, None}
use Rattle.sheet_text.specs.Field.{field_after}
use Rattle.sheet_line.specs.Cylinder.{cylinder}
use Rattle.desk_form.specs.declared.wrong.Wrong.{Wrong}

-- ---- a text cut into lines behind each LF, which is 10; what stands behind the last LF is a line too, where anything does

-- a byte in front of the first line
abbrev pub onto : ℕ → List (List ℕ) → List (List ℕ)
onto b [] = (b ∷ []) ∷ []
onto b (l ∷ ls) = (b ∷ l) ∷ ls

unfoldable pub cut : List ℕ → List (List ℕ)
cut [] = []
cut (b ∷ rest) = cond (eqb b 10) ((b ∷ []) ∷ cut rest) (onto b (cut rest))

-- a text of no bytes has one line, of no bytes
abbrev pub lines_of : List ℕ → List (List ℕ)
lines_of [] = [] ∷ []
lines_of (b ∷ rest) = cut (b ∷ rest)

-- ---- a line in the form at its place

-- all of it is read
abbrev pub whole : {A : Type 0} → Option (A × List ℕ) → Bool
whole None = false
whole (Some (a, [])) = true
whole (Some (a, b ∷ rest)) = false

-- that of the need, `N` and a number, and a cylinder's
unfoldable pub is_need : List ℕ → Bool
is_need l = whole (field_after 78 10 l)

unfoldable pub is_cylinder : List ℕ → Bool
is_cylinder l = whole (cylinder l)

-- ---- the first line that isn't, by its place among the lines, the first having 1; and the lines from it on

unfoldable pub wrong_cylinder : ℕ → List (List ℕ) → Option (ℕ × List (List ℕ))
wrong_cylinder i [] = None
wrong_cylinder i (l ∷ ls) = cond (is_cylinder l) (wrong_cylinder (i + 1) ls) (Some (i, l ∷ ls))

abbrev pub wrong_in : List (List ℕ) → Option (ℕ × List (List ℕ))
wrong_in [] = None
wrong_in (l ∷ ls) = cond (is_need l) (wrong_cylinder 2 ls) (Some (1, l ∷ ls))

unfoldable pub first_wrong : List ℕ → Option (ℕ × List (List ℕ))
first_wrong t = wrong_in (lines_of t)

-- what the code's answer says of a text: the line, and that it begins at a place
abbrev pub WrongIs : List ℕ → Option Wrong → Type 0
WrongIs t None = first_wrong t ≡ None
WrongIs t (Some w) = (first_wrong t ≡ Some (w.line, lines_of (drop w.from t))) × (w.from ≤ length t)
