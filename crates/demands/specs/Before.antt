-- RULES 5.4: what the melting line leaves as it was. The doors of an equation with no solid are those that stood before there was a refusal 19.
-- Definitions only.
use Rattle.refusal.specs.Refused.{refused}
use Rattle.std.specs.Prelude.{◌≡◌, false, cond, Float, Some, None}
use Rattle.std.specs.Float.{inf}
use Rattle.num_working.specs.Working.{or_else, Worked}
use Rattle.eos_state.specs.declared.Phase.{Phase}
use Rattle.equation.specs.Equation.{Equation, of1996}
use Rattle.door_limits.specs.Limits.{document01, outside}
use Rattle.door_limits.specs.declared.Limits.{Limits}
use Rattle.door_checks.specs.Check.{ranged}
use Rattle.door_answers.specs.Answer.{passed, answer_with, Answer}
use Rattle.door_pressure.specs.PressureDoor.{unboxed, pressure_door}
use Rattle.door_density.specs.DensityDoor.{in_phase, density_door}
use Rattle.demands.specs.Then as answer

-- the same equation, with a melting pressure that no pressure is above
abbrev pub never_solid : Equation → Equation
never_solid E = record {
  critical = E.critical;
  vapour_pressure = E.vapour_pressure;
  vapour_density = E.vapour_density;
  liquid_density = E.liquid_density;
  melting_pressure = λ t. Some (inf false);
  pressure = E.pressure;
  state = E.state;
  fallen = E.fallen;
  conductivity = E.conductivity;
}

-- an answer, and the one that stood before it, where the melting pressure is w: the same, or solid, or there is no melting pressure
pub data Kept (w : Worked) (now before : Answer) : Type 0 where
  same : now ≡ before → Kept w now before
  solid : now ≡ refused 19 → Kept w now before
  no_melting : w ≡ None → now ≡ refused 7 → Kept w now before

-- and where the melting pressure is always worked: the same, or solid
pub data AsBefore (now before : Answer) : Type 0 where
  unchanged : now ≡ before → AsBefore now before
  now_solid : now ≡ refused 19 → AsBefore now before

module _ (E : Equation) (L : Limits) where
  -- of such an equation these two definitions are, word for word, what they were; the doors' other steps are as they were
  abbrev pub PressureDoorBefore : Type 0
  PressureDoorBefore = (t p : Float) → pressure_door (never_solid E) L t p ≡ passed (ranged L.asked.temperature L.asked.pressure t p) (unboxed E L t p)

  abbrev pub InPhaseBefore : Type 0
  InPhaseBefore = (phase : Phase) (t rho : Float) → in_phase (never_solid E) L phase t rho
      ≡ or_else (E.pressure t rho) (answer.Refused 7) (λ p. cond (outside L.asked.pressure p) (answer.Refused 5) (answer_with (E.state t phase rho)))

  -- and whatever is asked, each door's answer is kept
  abbrev pub PressureKept : Type 0
  PressureKept = (t p : Float) → Kept (E.melting_pressure t) (pressure_door E L t p) (pressure_door (never_solid E) L t p)

  abbrev pub DensityKept : Type 0
  DensityKept = (t rho : Float) → Kept (E.melting_pressure t) (density_door E L t rho) (density_door (never_solid E) L t rho)

-- so it is of 1996 with the limits of RULES 2.2 and 2.3
abbrev pub PressureAsBefore : Type 0
PressureAsBefore = (t p : Float) → AsBefore (pressure_door of1996 document01 t p) (pressure_door (never_solid of1996) document01 t p)

abbrev pub DensityAsBefore : Type 0
DensityAsBefore = (t rho : Float) → AsBefore (density_door of1996 document01 t rho) (density_door (never_solid of1996) document01 t rho)
