-- Every reading of the table is what RULES 8.1 says. Assumes nothing.
use mathlib.Core.Path.{◌≡◌, refl, ap, ◌∙◌}
use mathlib.Core.List.{List, ◌++◌, map}
use lib.Ieee.{of_int, round, add, sub, mul, div, lt}
use Rattle.num_working.specs.Number.{whole, decimal, fraction}
use Rattle.num_working.specs.Working.{◌+ᵂ◌, ◌-ᵂ◌, ◌*ᵂ◌, ◌/ᵂ◌, Worked}
use Rattle.num_powers.specs.Power.{power, ◌^ᵂ◌}
use Rattle.num_formulas.specs.Formula.{work}
use Rattle.num_formulas.specs.Readings as numerics
use Rattle.num_formulas.proofs.Readings as numerics_read
use Rattle.eos_melting.specs.Melting.{melting, melting_pressure}
use Rattle.equation.specs.Equation.{of1996}
use Rattle.door_limits.specs.Limits.{document01}
use Rattle.door_checks.specs.Check.{ranged, solid, boxed}
use Rattle.door_pressure.specs.PressureDoor.{unboxed, thawed, pressure_door}
use Rattle.sheet_weigh.specs.Weighing.{filled, by_reading, weighed}
use Rattle.demands.specs.Readings.{Read, number, Starred, passes, of_checks, of_lines, readings}

abbrev worked : List Starred → List Read
worked rs = map (λ (r : Starred). r.worked) rs

abbrev reads : List Starred → List Read
reads rs = map (λ (r : Starred). r.reads) rs

checks_read : worked of_checks ≡ reads of_checks
unfolding of_checks passes document01 ranged solid boxed of1996 melting_pressure melting work power ◌^ᵂ◌ ◌+ᵂ◌ ◌-ᵂ◌ ◌*ᵂ◌ ◌/ᵂ◌
    whole decimal fraction of_int round add sub mul div lt
checks_read = refl

lines_read : worked of_lines ≡ reads of_lines
unfolding of_lines weighed by_reading filled pressure_door thawed unboxed document01 ranged solid boxed of1996 melting_pressure melting work power ◌^ᵂ◌
    ◌+ᵂ◌ ◌-ᵂ◌ ◌*ᵂ◌ ◌/ᵂ◌ whole decimal fraction of_int round add sub mul div lt
lines_read = refl

pub all_read : worked readings ≡ reads readings
unfolding readings numerics.readings of_checks passes of_lines
all_read =
    ap (λ (ns : List Worked). map number ns ++ (worked of_checks ++ worked of_lines)) numerics_read.all_read
    ∙ ap (λ (ds : List Read). map number (map (λ (r : numerics.Starred). r.reads) numerics.readings) ++ (ds ++ worked of_lines)) checks_read
    ∙ ap (λ (ls : List Read). map number (map (λ (r : numerics.Starred). r.reads) numerics.readings) ++ (reads of_checks ++ ls)) lines_read
