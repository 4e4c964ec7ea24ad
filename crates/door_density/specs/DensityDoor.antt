-- RULES 5.2: the density door, from a temperature and a density, step by step, over any equation and any limits. Definitions only.
use Rattle.refusal.specs.Refused.{refused}
use Rattle.std.specs.Prelude.{cond, ◌&&◌, not, Float}
use Rattle.std.specs.Float.Ieee.{lt, le}
use Rattle.num_working.specs.Working.{or_else}
use Rattle.eos_state.specs.declared.Phase.{Phase}
use Rattle.eos_state.specs.declared.Phase.TheVariants.{Vapour, Liquid, Supercritical}
use Rattle.equation.specs.Equation.{Equation}
use Rattle.door_limits.specs.Limits.{outside}
use Rattle.door_limits.specs.declared.Limits.{Limits}
use Rattle.door_checks.specs.Check.{ranged, solid, boxed}
use Rattle.door_answers.specs.Answer.{passed, answer_with, Answer}

module _ (E : Equation) (L : Limits) where
  -- the pressure is worked: 7 where that fails, 5 where it is out of its range, 19 where it is above the melting pressure; then the rest of the state
  unfoldable pub in_phase : Phase → Float → Float → Answer
  in_phase phase t rho =
      or_else (E.pressure t rho) (refused 7) (λ p.
      cond (outside L.asked.pressure p) (refused 5)
      (passed (solid (E.melting_pressure t) p) (answer_with (E.state t phase rho))))

  -- below the critical temperature, with the saturated densities, the vapour's first: 8 strictly between them, vapour up to the vapour's, else liquid
  unfoldable pub beneath : Float → Float → Answer
  beneath t rho =
      or_else (E.vapour_density t) (refused 7) (λ v.
      or_else (E.liquid_density t) (refused 7) (λ l.
      cond (lt v rho && lt rho l) (refused 8)
      (cond (not (lt v rho)) (in_phase Vapour t rho) (in_phase Liquid t rho))))

  -- at the critical temperature or above it: supercritical
  unfoldable pub entered : Float → Float → Answer
  entered t rho = cond (le E.critical t) (in_phase Supercritical t rho) (beneath t rho)

  -- RULES 3.3: 3, 4, 5 and 6 on what is asked, and then the steps
  unfoldable pub unboxed : Float → Float → Answer
  unboxed t rho = passed (boxed L.critical.temperature L.critical.density t rho) (entered t rho)

  unfoldable pub density_door : Float → Float → Answer
  density_door t rho = passed (ranged L.asked.temperature L.asked.density t rho) (unboxed t rho)
