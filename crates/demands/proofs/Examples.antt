-- Each sheet has its report, by computation. Assumes nothing.
use mathlib.Core.Path.{◌≡◌, refl}
use mathlib.Core.List.{map}
use lib.Ieee.{of_int, round, div, lt}
use Rattle.num_working.specs.Number.{whole, decimal, fraction}
use Rattle.sheet_text.specs.Decimal as Decimal
use Rattle.sheet_text.specs.Parse.{byte}
use Rattle.sheet_text.specs.Field.{digits_after, field, field_to, field_after}
use Rattle.sheet_mass.specs.Mass.{milligrams_of, from_scale}
use Rattle.sheet_line.specs.Cylinder.{kind, reading, cylinder}
use Rattle.sheet_read.specs.Form.{cylinders, bank, in_form}
use Rattle.door_limits.specs.Limits.{document01}
use Rattle.door_checks.specs.Check.{ranged, boxed}
use Rattle.door_pressure.specs.PressureDoor.{unboxed, pressure_door}
use Rattle.sheet_standing.specs.Standing.{lacking, is_on, numbers, standing}
use Rattle.sheet_weigh.specs.Weighing.{filled, by_reading, weighed, weighed_after}
use Rattle.sheet_weigh.specs.Sheet.{marked_after, marked}
use Rattle.sheet_write.specs.Writing.{ascii}
use Rattle.sheet_report.specs.Report.{weighed_bytes, line_bytes, lines_bytes, ending_bytes}
use Rattle.sheet_outcome.specs.Outcome.{admitted, total, ending}
use Rattle.sheet_score.specs.Score.{report}
use Rattle.demands.specs.Examples.{Example, examples}

pub all_printed : map (λ (e : Example). report document01 (in_form e.text)) examples ≡ map (λ (e : Example). ascii e.report) examples
unfolding examples report admitted marked marked_after weighed_after standing lacking is_on numbers total ending lines_bytes line_bytes weighed_bytes ending_bytes Decimal.decimal Decimal.decimal_within in_form bank
    field_after field_to field digits_after byte kind reading cylinder cylinders weighed by_reading filled from_scale milligrams_of pressure_door unboxed document01 ranged boxed
    whole decimal fraction of_int round div lt
all_printed = refl
