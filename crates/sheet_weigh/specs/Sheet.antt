-- RULES 6.6, 7.1 and 7.2: what comes of a sheet, line by line. Definitions only.
use Rattle.refusal.specs.Refused.{refused}
use Rattle.std.specs.Prelude.{Float, ℕ, ◌^◌, ◌<◌, ◌≡◌, List, [], ◌∷◌, ◌++◌, length, take, get_or, true, Option, Some, None, Ok, Err}
use Rattle.door_limits.specs.declared.Limits.{Limits}
use Rattle.sheet_mass.specs.declared.Milligrams.{Milligrams}
use Rattle.sheet_line.specs.declared.line.Line.{Line}
use Rattle.sheet_read.specs.Padded.{padded}
use Rattle.sheet_read.specs.declared.Sheet.{Sheet}
use Rattle.sheet_standing.specs.Standing.{numbers}
use Rattle.sheet_outcome.specs.Outcome.{admitted, total, ending, Admitted, Weighed}
use Rattle.sheet_outcome.specs.declared.Marks.{Marks}
use Rattle.sheet_outcome.specs.declared.Ending.{Ending}
use Rattle.sheet_outcome.specs.declared.Outcome.{Outcome}
use Rattle.sheet_weigh.specs.Weighing.{weighed_after}

-- marks in the code's array of 32; past the count stands a filler, whose 0 is no refusal
unfoldable pub marks_for : List Weighed → Marks
marks_for ms = record { marks = padded (refused 0) 32 ms; count = length ms }

-- sent back with 10, 11, 12 or 14 it has that number alone; else the marks of its lines, and then the ending
abbrev pub finished : Admitted → List Weighed → Outcome
finished (Err number) ms = record { marks = marks_for []; ending = Ending.SentBack number }
finished (Ok mg) ms = record { marks = marks_for ms; ending = ending mg (total ms) }

module _ (L : Limits) where
  abbrev pub mark : List ℕ → Line Float → Weighed
  mark before l = weighed_after L before l

  -- what came of each line, after lines with these cylinder numbers
  unfoldable pub marked_after : List ℕ → List (Line Float) → List Weighed
  marked_after before [] = []
  marked_after before (l ∷ ls) = mark before l ∷ marked_after (before ++ numbers (l ∷ [])) ls

  unfoldable pub marked : List (Line Float) → List Weighed
  marked ls = marked_after [] ls

  -- a text that is not in the form has no sheet
  unfoldable pub outcome : Option Sheet → Outcome
  outcome None = finished (refused 14) []
  outcome (Some s) = finished (admitted true s.count s.need) (marked (take s.count s.lines))

-- ---- what code inside asks for, to add: each line's milligrams are below 2⁵³
abbrev pub Light : List Weighed → Type 0
Light ms = (i : ℕ) (mg : Milligrams) (d : Weighed) → i < length ms → get_or ms i d ≡ Ok mg → mg.0 < 2 ^ 53
