-- RULES 14.3: what a line's explanation takes of the report and of the sheet. Definitions only.
use Rattle.refusal.specs.Refused.{refused}
use Rattle.std.specs.Prelude.{ℕ, ◌<◌, ◌≤◌, cond, ltb, List, length, get_or, Option, Some, None}
use Rattle.sheet_text.specs.Field.{Field}
use Rattle.sheet_read.specs.declared.Sheet.{Sheet}
use Rattle.sheet_outcome.specs.Outcome.{Weighed}
use Rattle.sheet_outcome.specs.declared.Marks.{Marks}
use Rattle.sheet_standing.specs.Standing.{first_with}

-- what came of the line after i others; past the array stands the filler, whose 0 is no refusal
abbrev pub mark_at : Marks → ℕ → Weighed
mark_at m i = get_or m.marks i (refused 0)

-- the place of a line, the first having 1: 0 is none
abbrev pub placed : ℕ → Option ℕ
placed i = cond (ltb 0 i) (Some i) None

-- the place of the first line that has the cylinder number; a blank has none
abbrev pub first_of : Sheet → Field → Option ℕ
first_of s None = None
first_of s (Some n) = placed (first_with 1 s.lines n)

-- what was read at a place of a text is followed by a later one
abbrev pub GoesOn : {A : Type 0} → List ℕ → ℕ → Option (A × ℕ) → Type 0
GoesOn s at None = Unit {0}
GoesOn s at (Some (a, n)) = (at < n) × (n ≤ length s)
