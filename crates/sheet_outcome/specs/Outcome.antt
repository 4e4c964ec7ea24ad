-- RULES 3.4 and 7.2: what a sheet comes to. Definitions only.
use Rattle.refusal.specs.Refused.{refused}
use Rattle.std.specs.Prelude.{ℕ, ◌+◌, Bool, not, cond, ◌&&◌, List, [], ◌∷◌, leb, ltb, eqb, take, Some, None, Ok, Err, Result, Option}
use Rattle.sheet_text.specs.Field.{Field}
use Rattle.sheet_mass.specs.Mass.{as_milligrams}
use Rattle.sheet_outcome.specs.declared.Marks.{Marks}
use Rattle.sheet_outcome.specs.declared.Ending.{Ending}
use Rattle.sheet_mass.specs.declared.Milligrams.{Milligrams}
use Rattle.refusal.specs.declared.Refusal.{Refusal}

-- of a cylinder's line: its mass, or its refusal
abbrev pub Weighed : Type 0
Weighed = Result Milligrams Refusal

-- of a sheet whose lines are to be worked: its need in mg
abbrev pub Admitted : Type 0
Admitted = Result ℕ Refusal

-- the masses of all lines together; none where some line was refused
abbrev pub Summed : Type 0
Summed = Option Milligrams

-- ---- before the lines are worked: 14, 10, 11, 12, in this order

-- RULES 2.4, in mg
abbrev pub is_need : ℕ → Bool
is_need mg = leb 1 mg && leb mg 9_999_999_999

-- 12 where the agent needed is blank or out of its range
abbrev pub needed : Field → Admitted
needed None = refused 12
needed (Some mg) = cond (is_need mg) (Ok mg) (refused 12)

-- 14 where the text is not in the form, 10 where there is no cylinder line, 11 where there are more than 32
unfoldable pub admitted : Bool → ℕ → Field → Admitted
admitted ok count need =
    cond (not ok) (refused 14)
    (cond (eqb count 0) (refused 10)
    (cond (ltb 32 count) (refused 11)
    (needed need)))

-- ---- the lines

-- of the 32 marks the first `count` are the sheet's lines
abbrev pub marks_of : Marks → List Weighed
marks_of m = take m.count m.marks

abbrev pub plus : Weighed → Summed → Summed
plus (Ok mg) (Some rest) = Some (as_milligrams (mg.0 + rest.0))
plus (Ok mg) None = None
plus (Err n) t = None

-- the exact sum of the lines' milligrams, or that some line was refused
unfoldable pub total : List Weighed → Summed
total [] = Some (as_milligrams 0)
total (m ∷ ms) = plus m (total ms)

-- ---- after them

-- 13 where some line was refused; else covered where the sum is the need or more, and short where it is less
unfoldable pub ending : ℕ → Summed → Ending
ending need None = Ending.SentBack (record { 0 = 13 })
ending need (Some mg) = cond (leb need mg.0) (Ending.Covered mg) (Ending.Short mg)
