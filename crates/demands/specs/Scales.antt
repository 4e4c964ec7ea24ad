-- RULES 3.2, 6.4, 6.7 and 10.1: what is demanded of a line's record, of a weighed line on its sheet and of the largest total, and what is as it was before a
-- cylinder could be weighed. Definitions only.
use Rattle.refusal.specs.Refused.{refused}
use Rattle.std.specs.Prelude.{Float, ℕ, zero, suc, ◌+◌, ◌*◌, ◌≤◌, ◌<◌, ◌≡◌, Bool, true, false, cond, ◌||◌, List, [], ◌∷◌, ◌++◌, map, length, Some, None, Ok, Option}
use Rattle.std.specs.Float.{binary64}
use Rattle.std.specs.Float.Ieee.{div}
use Rattle.num_working.specs.Number.{whole}
use Rattle.equation.specs.Equation.{of1996}
use Rattle.door_limits.specs.Limits.{document01}
use Rattle.door_limits.specs.declared.Limits.{Limits}
use Rattle.door_checks.specs.Check.{Check}
use Rattle.door_answers.specs.Answer.{Answer}
use Rattle.door_pressure.specs.PressureDoor.{pressure_door}
use Rattle.door_density.specs.DensityDoor.{density_door}
use Rattle.sheet_text.specs.Field.{Field}
use Rattle.sheet_mass.specs.Mass.{as_grams, as_milligrams}
use Rattle.sheet_mass.specs.declared.Milligrams.{Milligrams}
use Rattle.sheet_line.specs.Line.{temperature_of, line_of, Temperature}
use Rattle.sheet_line.specs.declared.cylinder.Kind.{Kind}
use Rattle.sheet_line.specs.declared.cylinder.Cylinder.{Cylinder}
use Rattle.sheet_line.specs.Record.{Recorded, Record}
use Rattle.sheet_line.specs.declared.line.Reading.{Reading}
use Rattle.sheet_line.specs.declared.line.Line.{Line}
use Rattle.sheet_read.specs.Form.{Bank, Fair, text, in_form}
use Rattle.sheet_standing.specs.Standing.{if_numbered, no_temperature, no_volume, is_on, numbers}
use Rattle.sheet_outcome.specs.Outcome.{admitted, total, Weighed}
use Rattle.sheet_weigh.specs.Weighing.{if_passed, if_number, if_kelvin, is_volume, by_answer}
use Rattle.sheet_weigh.specs.Sheet.{marked}
use Rattle.sheet_score.specs.Score.{sent_back, listed, report}
use Rattle.demands.specs.Demands.{Exactly}
use Rattle.demands.specs.Lines.{AtDoor, Volume, NoVolume, Mass, NoMass, OnScale}
use Rattle.demands.specs.Twice.{at, Again, came}
use Rattle.demands.specs.Then.{No, Passed, Mark, weighed_of}
use Rattle.demands.specs.Then as Weighed

-- ---- a line's record keeps all that the line says: its number, temperature and volume, whatever they are, and its value with its kind, unless it is blank

pub data KeepsReading (c : Cylinder) : Recorded → Type 0 where
  keeps_none : c.value ≡ None → KeepsReading c Reading.Blank
  keeps_pressure : {n : ℕ} → c.kind ≡ Kind.Pressure → c.value ≡ Some n → KeepsReading c (Reading.Pressure n)
  keeps_density : {n : ℕ} → c.kind ≡ Kind.Density → c.value ≡ Some n → KeepsReading c (Reading.Density n)
  keeps_grams : {n : ℕ} → c.kind ≡ Kind.Weighed → c.value ≡ Some n → KeepsReading c (Reading.Weighed (as_grams n))

pub record Keeps (c : Cylinder) (r : Record) : Type 0 where
  pub number : r.number ≡ c.number
  pub temperature : r.temperature ≡ c.temperature
  pub volume : r.volume ≡ c.volume
  pub reading : KeepsReading c r.reading

-- ---- a weighed line on its sheet

-- its number, its value or its volume is blank: its temperature may be
pub data Lacks (c : Cylinder) : Type 0 where
  lacks_number : c.number ≡ None → Lacks c
  lacks_value : c.value ≡ None → Lacks c
  lacks_volume : c.volume ≡ None → Lacks c

-- refused by 1, 30, 2 or 23, in this order, and by nothing else
pub data RefusesScale (cs : List Cylinder) (i : ℕ) : ℕ → Type 0 where
  by_1 : Lacks (at cs i) → RefusesScale cs i 1
  by_30 : (Lacks (at cs i) → ⊥) → Again cs i → RefusesScale cs i 30
  by_2 : {v g : ℕ} → (Again cs i → ⊥) → OnScale (at cs i) v g → NoVolume v → RefusesScale cs i 2
  by_23 : {v g : ℕ} → (Again cs i → ⊥) → OnScale (at cs i) v g → Volume v → NoMass g → RefusesScale cs i 23

-- and answered with 1000 times its grams
pub data AnswersScale (cs : List Cylinder) (i : ℕ) : ℕ → Type 0 where
  thousandfold : {v g : ℕ} → (Again cs i → ⊥) → OnScale (at cs i) v g → Volume v → Mass g → AnswersScale cs i (1000 * g)

module _ (L : Limits) where
  abbrev pub ScaleRefusals : Type 0
  ScaleRefusals =
      (cs : List Cylinder) (i : ℕ) → i < length cs → (at cs i).kind ≡ Kind.Weighed
      → (n : ℕ) → Exactly (came L cs i ≡ refused n) (RefusesScale cs i n)

  abbrev pub ScaleAnswers : Type 0
  ScaleAnswers =
      (cs : List Cylinder) (i : ℕ) → i < length cs → (at cs i).kind ≡ Kind.Weighed
      → (mg : ℕ) → Exactly (came L cs i ≡ Ok (as_milligrams mg)) (AnswersScale cs i mg)

-- ---- its temperature is not used: banks that differ in temperatures of weighed lines alone, whatever these are. (Their texts may differ in length, and one
-- of them be too long for the form.)

abbrev pub with_temperature : Field → Cylinder → Cylinder
with_temperature t c = record { number = c.number; temperature = t; kind = c.kind; value = c.value; volume = c.volume }

pub data ButForTemperatures : List Cylinder → List Cylinder → Type 0 where
  no_more : ButForTemperatures [] []
  alike : {c : Cylinder} {cs ds : List Cylinder} → ButForTemperatures cs ds → ButForTemperatures (c ∷ cs) (c ∷ ds)
  other : {c : Cylinder} {cs ds : List Cylinder} (t : Field) → c.kind ≡ Kind.Weighed → ButForTemperatures cs ds
      → ButForTemperatures (c ∷ cs) (with_temperature t c ∷ ds)

abbrev pub TemperatureNotUsed : Limits → Type 0
TemperatureNotUsed L =
    (need : Field) (cs ds : List Cylinder) → ButForTemperatures cs ds
    → report L (Some (record { need = need; cylinders = cs })) ≡ report L (Some (record { need = need; cylinders = ds }))

-- ---- the largest total: 32 lines of 9,999,999,999 g

abbrev pub largest : ℕ
largest = 319_999_999_968_000

-- by the limits of RULES 2.2 and 2.3 no sheet has a larger one
abbrev pub LargestTotal : Type 0
LargestTotal =
    (cs : List Cylinder) (mg : Milligrams) → length cs ≤ 32 → total (marked document01 (map line_of cs)) ≡ Some mg → mg.0 ≤ largest

-- and a sheet has it, by any limits: n such lines, numbered from a number on
unfoldable pub heaviest : ℕ → ℕ → List Cylinder
heaviest zero number = []
heaviest (suc n) number =
    record { number = Some number; temperature = None; kind = Kind.Weighed; value = Some 9_999_999_999; volume = Some 1 }
    ∷ heaviest n (number + 1)

abbrev pub LargestReached : Limits → Type 0
LargestReached L = total (marked L (map line_of (heaviest 32 1))) ≡ Some (as_milligrams largest)

-- ---- as it was before: no line was weighed, each line required its temperature, and after the volume came its door

pub data NoneOnScale : List Cylinder → Type 0 where
  not_one : NoneOnScale []
  not_this : {c : Cylinder} {cs : List Cylinder} → AtDoor c.kind → NoneOnScale cs → NoneOnScale (c ∷ cs)

-- a text that has not the byte
abbrev pub Without : ℕ → List ℕ → Type 0
Without w [] = Unit {0}
Without w (b ∷ t) = (b ≡ w → ⊥) × Without w t

-- the line as it said then; a kind that there was not is none
abbrev pub reading_then : Kind → Field → Reading Float
reading_then k None = Reading.Blank
reading_then Kind.Pressure (Some n) = Reading.Pressure (whole n)
reading_then Kind.Density (Some n) = Reading.Density (div binary64 (whole n) (whole 1000))
reading_then Kind.Weighed (Some n) = Reading.Blank

abbrev pub line_then : Cylinder → Line Float
line_then c = record { number = c.number; temperature = temperature_of c.temperature; reading = reading_then c.kind c.value; volume = c.volume }

abbrev pub no_reading_then : Reading Float → Bool
no_reading_then Reading.Blank = true
no_reading_then (Reading.Pressure p) = false
no_reading_then (Reading.Density d) = false
no_reading_then (Reading.Weighed g) = true

abbrev pub lacking_then : Line Float → Bool
lacking_then l = no_temperature l.temperature || (no_volume l.volume || no_reading_then l.reading)

abbrev pub standing_then : List ℕ → Line Float → Check
standing_then before l = if_numbered l.number (λ n. cond (lacking_then l) (No 1) (cond (is_on before n) (No 30) Passed))

abbrev pub filled_then : ℕ → Answer → Weighed
filled_then v a = cond (is_volume v) (by_answer a v) (Weighed.Refused 2)

module _ (L : Limits) where
  abbrev pub by_reading_then : Temperature → ℕ → Reading Float → Weighed
  by_reading_then k v Reading.Blank = Weighed.Refused 1
  by_reading_then k v (Reading.Pressure p) = if_kelvin k (λ t. filled_then v (pressure_door of1996 L t p))
  by_reading_then k v (Reading.Density d) = if_kelvin k (λ t. filled_then v (density_door of1996 L t d))
  by_reading_then k v (Reading.Weighed g) = Weighed.Refused 1

  abbrev pub weighed_then : Line Float → Weighed
  weighed_then l = if_number l.number (λ _. if_number l.volume (λ v. by_reading_then l.temperature v l.reading))

  unfoldable pub marked_then : List ℕ → List (Line Float) → List Mark
  marked_then before [] = []
  marked_then before (l ∷ ls) = record { weighed = if_passed (standing_then before l) (weighed_then l) } ∷ marked_then (before ++ numbers (l ∷ [])) ls

  abbrev pub report_then : Option Bank → List ℕ
  report_then None = sent_back 14
  report_then (Some b) = listed (admitted true (length b.cylinders) b.need) (map weighed_of (marked_then [] (map line_then b.cylinders)))

  abbrev pub AsThen : Type 0
  AsThen = (o : Option Bank) → ((b : Bank) → o ≡ Some b → NoneOnScale b.cylinders) → report L o ≡ report_then o

  -- of every text: the form was that of the banks without a weighed line, by their printing, and any other text was sent back by 14
  pub data ReportedThen (t : List ℕ) : List ℕ → Type 0 where
    was_in_form : {b : Bank} → t ≡ text b → Fair b → length t ≤ 65536 → NoneOnScale b.cylinders → ReportedThen t (report_then (Some b))
    was_not : ((b : Bank) → t ≡ text b → Fair b → length t ≤ 65536 → NoneOnScale b.cylinders → ⊥) → ReportedThen t (report_then None)

  -- and a text that has no `W`, which is 87, has the report that it had
  abbrev pub TextAsThen : Type 0
  TextAsThen = (t : List ℕ) → Without 87 t → ReportedThen t (report L (in_form t))
