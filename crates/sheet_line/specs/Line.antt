-- RULES 6.4: what a cylinder's line says. Definitions only.
use Rattle.std.specs.Prelude.{Float, Some, None, Option}
use Rattle.std.specs.Float.{binary64}
use Rattle.std.specs.Float.Ieee.{div}
use Rattle.num_working.specs.Number.{whole}
use Rattle.sheet_text.specs.Parse.{Parser, ◌>>=◌, give}
use Rattle.sheet_text.specs.Field.{Field}
use Rattle.sheet_line.specs.Cylinder.{cylinder}
use Rattle.sheet_line.specs.Record.{record_of, Recorded, Record}
use Rattle.sheet_line.specs.declared.cylinder.Cylinder.{Cylinder}
use Rattle.sheet_line.specs.declared.line.Reading.{Reading}
use Rattle.sheet_line.specs.declared.line.Line.{Line}

-- in K; none is a blank
abbrev pub Temperature : Type 0
Temperature = Option Float

-- the number over 10000, in K, one division
abbrev pub temperature_of : Field → Temperature
temperature_of None = None
temperature_of (Some n) = Some (div binary64 (whole n) (whole 10000))

-- a pressure is the number, in Pa, a density the number over 1000, in kg/m³, one division; grams stay what they are
abbrev pub reading_of : Recorded → Reading Float
reading_of Reading.Blank = Reading.Blank
reading_of (Reading.Pressure n) = Reading.Pressure (whole n)
reading_of (Reading.Density n) = Reading.Density (div binary64 (whole n) (whole 1000))
reading_of (Reading.Weighed g) = Reading.Weighed g

-- of a record, and so of a cylinder's line as it is written
abbrev pub line_from : Record → Line Float
line_from r = record { number = r.number; temperature = temperature_of r.temperature; reading = reading_of r.reading; volume = r.volume }

abbrev pub line_of : Cylinder → Line Float
line_of c = line_from (record_of c)

-- where a sheet has no line
abbrev pub blank_line : Line Float
blank_line = record { number = None; temperature = None; reading = Reading.Blank; volume = None }

-- the line of the cylinder at the front of a text
unfoldable pub line : Parser (Line Float)
line = do
  c ← cylinder
  give (line_of c)
