-- RULES 5.1: the pressure door, from a temperature and a pressure, step by step, over any equation and any limits. Definitions only.
use Rattle.refusal.specs.Refused.{refused}
use Rattle.std.specs.Prelude.{cond, Float, None}
use Rattle.std.specs.Float.Ieee.{eq, lt, le}
use Rattle.num_working.specs.Working.{or_else, Worked}
use Rattle.num_formulas.specs.Formula.{num, ◌⊗◌, work}
use Rattle.eos_state.specs.declared.Phase.TheVariants.{Vapour, Liquid, Supercritical}
use Rattle.equation.specs.Equation.{Equation}
use Rattle.door_limits.specs.Limits.{search_ends}
use Rattle.door_limits.specs.declared.Limits.{Limits}
use Rattle.door_checks.specs.Check.{ranged, solid, boxed}
use Rattle.door_answers.specs.Answer.{passed, Answer}
use Rattle.door_pressure.specs.Search.{searched}

-- so many times a saturated density, one product
abbrev pub scaled : Float → Worked → Worked
scaled factor density = or_else density None (λ d. work (num factor ⊗ num d))

module _ (E : Equation) where
  -- vapour: from 0.05 kg/m³ to 1.01 times the saturated vapour density
  unfoldable pub vapour : Float → Float → Answer
  vapour t p =
      or_else (scaled search_ends.vapour (E.vapour_density t)) (refused 7) (λ to.
      searched (E.pressure t) (E.state t Vapour) search_ends.from to p)

  -- liquid: from 0.99 times the saturated liquid density to 1,400 kg/m³
  unfoldable pub liquid : Float → Float → Answer
  liquid t p =
      or_else (scaled search_ends.liquid (E.liquid_density t)) (refused 7) (λ from.
      searched (E.pressure t) (E.state t Liquid) from search_ends.to p)

  -- below the critical temperature: 8 where p is the vapour pressure there, vapour where it is lower, else liquid
  unfoldable pub beneath : Float → Float → Answer
  beneath t p =
      or_else (E.vapour_pressure t) (refused 7) (λ s.
      cond (eq p s) (refused 8)
      (cond (lt p s) (vapour t p) (liquid t p)))

  -- at the critical temperature or above it: supercritical, from 0.05 to 1,400 kg/m³
  unfoldable pub entered : Float → Float → Answer
  entered t p =
      cond (le E.critical t) (searched (E.pressure t) (E.state t Supercritical) search_ends.from search_ends.to p)
      (beneath t p)

  -- RULES 3.3: 3, 4 and 5 on what is asked, 19, 6, and then the steps
  module _ (L : Limits) where
    unfoldable pub unboxed : Float → Float → Answer
    unboxed t p = passed (boxed L.critical.temperature L.critical.pressure t p) (entered t p)

    unfoldable pub thawed : Float → Float → Answer
    thawed t p = passed (solid (E.melting_pressure t) p) (unboxed t p)

    unfoldable pub pressure_door : Float → Float → Answer
    pressure_door t p = passed (ranged L.asked.temperature L.asked.pressure t p) (thawed t p)
