-- RULES 5.6: the vapour pressure and the two saturated densities at a temperature, over any equation and limits. Definitions only.
use Rattle.refusal.specs.Refused.{refused}
use Rattle.std.specs.Prelude.{cond, not, Float, Ok, Result}
use Rattle.std.specs.Float.Ieee.{lt}
use Rattle.std.specs.Float.Ieee.Scale.{finite}
use Rattle.num_working.specs.Working.{or_else}
use Rattle.equation.specs.Equation.{Equation}
use Rattle.door_limits.specs.Limits.{outside}
use Rattle.door_limits.specs.declared.Limits.{Limits}
use Rattle.refusal.specs.declared.Refusal.{Refusal}
use Rattle.door_saturation.specs.declared.Saturation.{Saturation}

abbrev pub Saturated : Type 0
Saturated = Result Saturation Refusal

-- 7 where one of the three fails
unfoldable pub worked_at : Equation → Float → Saturated
worked_at E t =
    or_else (E.vapour_pressure t) (refused 7) (λ pressure.
    or_else (E.vapour_density t) (refused 7) (λ vapour.
    or_else (E.liquid_density t) (refused 7) (λ liquid.
    Ok (record { pressure = pressure; vapour = vapour; liquid = liquid }))))

-- the first that holds: 3 where the temperature is infinite or not a number, 4 where it is out of its range or not below the critical one
unfoldable pub saturated : Equation → Limits → Float → Saturated
saturated E L t =
    cond (not (finite t)) (refused 3)
    (cond (outside L.asked.temperature t) (refused 4)
    (cond (lt t E.critical) (worked_at E t)
    (refused 4)))
