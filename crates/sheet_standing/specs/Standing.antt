-- RULES 3.2, 6.6 and 6.7: the first checks of a line, before it is worked, by its own fields and by the cylinder numbers of the lines before it. Definitions only.
use Rattle.refusal.specs.Refused.{refused}
use Rattle.std.specs.Prelude.{Float, ℕ, ◌+◌, Bool, true, false, cond, ◌||◌, List, [], ◌∷◌, eqb, Some, None, Ok}
use Rattle.door_checks.specs.Check.{Check}
use Rattle.sheet_text.specs.Field.{Field}
use Rattle.sheet_line.specs.Line.{Temperature}
use Rattle.sheet_line.specs.declared.line.Reading.{Reading}
use Rattle.sheet_line.specs.declared.line.Line.{Line}

-- ---- 1: a field that the line requires is blank

-- its cylinder number
abbrev pub if_numbered : Field → (ℕ → Check) → Check
if_numbered None f = refused 1
if_numbered (Some n) f = f n

-- its volume
abbrev pub no_volume : Field → Bool
no_volume None = true
no_volume (Some v) = false

abbrev pub no_temperature : Temperature → Bool
no_temperature None = true
no_temperature (Some t) = false

-- its value, or, where a door is asked with it, its temperature: a mass that was weighed requires none
abbrev pub no_reading : Temperature → Reading Float → Bool
no_reading k Reading.Blank = true
no_reading k (Reading.Pressure p) = no_temperature k
no_reading k (Reading.Density d) = no_temperature k
no_reading k (Reading.Weighed g) = false

unfoldable pub lacking : Line Float → Bool
lacking l = no_volume l.volume || no_reading l.temperature l.reading

-- ---- 30: a line before it has its cylinder number

unfoldable pub is_on : List ℕ → ℕ → Bool
is_on [] n = false
is_on (m ∷ ms) n = eqb m n || is_on ms n

-- the cylinder numbers of lines, in their order: a blank is none, and so never the same as another
abbrev pub onto : Field → List ℕ → List ℕ
onto None ms = ms
onto (Some n) ms = n ∷ ms

unfoldable pub numbers : List (Line Float) → List ℕ
numbers [] = []
numbers (l ∷ ls) = onto l.number (numbers ls)

-- ---- 1, then 30; the numbers are those of the lines before it

unfoldable pub standing : List ℕ → Line Float → Check
standing before l = if_numbered l.number (λ n. cond (lacking l) (refused 1) (cond (is_on before n) (refused 30) (Ok tt)))

-- ---- RULES 14.3: the place of the first line that has a number, where i is that of the first of all; 0 where none has

unfoldable pub first_with : ℕ → List (Line Float) → ℕ → ℕ
first_with i [] n = 0
first_with i (l ∷ ls) n = cond (is_on (numbers (l ∷ [])) n) i (first_with (i + 1) ls n)
