-- RULES 6.4: a cylinder's line in the sheet's whole numbers. Definitions only.
use Rattle.std.specs.Prelude.{ℕ, ◌<◌, Some, None}
use Rattle.sheet_text.specs.Field.{Small, Field}
use Rattle.sheet_mass.specs.Mass.{as_grams}
use Rattle.sheet_line.specs.declared.cylinder.Kind.{Kind}
use Rattle.sheet_line.specs.declared.cylinder.Cylinder.{Cylinder}
use Rattle.sheet_line.specs.declared.line.Reading.{Reading}
use Rattle.sheet_line.specs.declared.line.Line.{Line}

-- a line whose numbers are the sheet's whole numbers, and a reading of one
abbrev pub Record : Type 0
Record = Line ℕ

abbrev pub Recorded : Type 0
Recorded = Reading ℕ

-- a number stays with its kind, and a blank has none: `P -`, `D -` and `W -` are the same
abbrev pub recorded_of : Kind → Field → Recorded
recorded_of k None = Reading.Blank
recorded_of Kind.Pressure (Some n) = Reading.Pressure n
recorded_of Kind.Density (Some n) = Reading.Density n
recorded_of Kind.Weighed (Some n) = Reading.Weighed (as_grams n)

abbrev pub record_of : Cylinder → Record
record_of c = record { number = c.number; temperature = c.temperature; reading = recorded_of c.kind c.value; volume = c.volume }

-- ---- what code inside asks for, to work the figures: what becomes a float has 10 digits at most

abbrev pub SmallReading : Recorded → Type 0
SmallReading Reading.Blank = Unit {0}
SmallReading (Reading.Pressure n) = n < 10_000_000_000
SmallReading (Reading.Density n) = n < 10_000_000_000
SmallReading (Reading.Weighed g) = Unit {0}

pub record SmallRecord (r : Record) : Type 0 where
  pub temperature : Small r.temperature
  pub reading : SmallReading r.reading
