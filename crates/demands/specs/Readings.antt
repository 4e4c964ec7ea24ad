-- RULES 8.1: the readings that are proved, of the numerics, of the checks on what a door is asked and of a sheet's line, as one table. Definitions only.
use Rattle.refusal.specs.Refused.{refused}
use Rattle.std.specs.Prelude.{ℕ, List, [], ◌∷◌, ◌++◌, map, Some, Ok}
use Rattle.std.specs.Float.{binary64}
use Rattle.std.specs.Float.Ieee.{div}
use Rattle.num_working.specs.Number.{whole}
use Rattle.num_working.specs.Working.{Worked}
use Rattle.num_formulas.specs.Readings as numerics
use Rattle.equation.specs.Equation.{of1996}
use Rattle.door_limits.specs.Limits.{document01}
use Rattle.door_checks.specs.Check.{ranged, solid, boxed, Check}
use Rattle.sheet_line.specs.Line.{line_of}
use Rattle.sheet_line.specs.declared.cylinder.Cylinder.{Cylinder}
use Rattle.sheet_line.specs.declared.cylinder.Kind.TheVariants.{Pressure}
use Rattle.sheet_weigh.specs.Weighing.{weighed}
use Rattle.sheet_outcome.specs.Outcome.{Weighed}

-- what a reading is of: a number that is worked, the checks on what is asked, or a line
pub data Read : Type 0 where
  number : Worked → Read
  check : Check → Read
  line : Weighed → Read

-- a reading that is proved: what is worked, and what it has to be
pub record Starred : Type 0 where
  pub worked : Read
  pub reads : Read

-- a reading that passes: all three of the pressure door's checks are passed. RULES 6.4: a temperature is the number over 10000, a pressure is in Pa
unfoldable pub passes : ℕ → ℕ → List Starred
passes t p =
    let k = div binary64 (whole t) (whole 10000) in
    record { worked = check (ranged document01.asked.temperature document01.asked.pressure k (whole p)); reads = check (Ok tt) }
    ∷ record { worked = check (solid (of1996.melting_pressure k) (whole p)); reads = check (Ok tt) }
    ∷ record { worked = check (boxed document01.critical.temperature document01.critical.pressure k (whole p)); reads = check (Ok tt) }
    ∷ []

unfoldable pub of_checks : List Starred
of_checks =
    passes 2165920 517950
    ++ passes 5230000 5000000
    ++ passes 3000000 10000
    ++ passes 3031281 7000000
    ++ passes 2170000 2429700
    ++ passes 2175461 5000000
    ++ passes 2227146 30000000

-- a reading that is refused: a cylinder's line with a pressure, as it is written, is refused by this number
abbrev pub written : ℕ → ℕ → ℕ → Cylinder
written t p v = record { number = Some 1; temperature = Some t; kind = Pressure; value = Some p; volume = Some v }

abbrev pub gives : Cylinder → ℕ → Starred
gives c n = record { worked = line (weighed document01 (line_of c)); reads = line (refused n) }

unfoldable pub of_lines : List Starred
of_lines =
    gives (written 2165919 5000000 40000) 4
    ∷ gives (written 5230001 5000000 40000) 4
    ∷ gives (written 3000000 9999 40000) 5
    ∷ gives (written 3000000 30000001 40000) 5
    ∷ gives (written 3031282 7000000 40000) 6
    ∷ gives (written 2000000 5000000 0) 2
    ∷ gives (written 3000000 5000000 1000001) 2
    ∷ gives (written 2170000 5000000 40000) 19
    ∷ gives (written 2165920 517951 40000) 19
    ∷ gives (written 2170000 2429701 40000) 19
    ∷ gives (written 2175460 5000000 40000) 19
    ∷ gives (written 2227145 30000000 40000) 19
    ∷ gives (written 2165920 30000001 40000) 5
    ∷ []

abbrev of_numeric : numerics.Starred → Starred
of_numeric r = record { worked = number r.worked; reads = number r.reads }

unfoldable pub readings : List Starred
readings = map of_numeric numerics.readings ++ (of_checks ++ of_lines)
