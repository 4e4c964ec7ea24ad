-- RULES 3.1 and 3.3: the checks on what is asked of a door, x being the pressure or the density; and RULES 5.4, on a pressure. Definitions only.
use Rattle.refusal.specs.Refused.{refused}
use Rattle.std.specs.Prelude.{cond, ◌&&◌, not, ℕ, Float, Ok, Err, Result}
use Rattle.std.specs.Float.Ieee.{lt}
use Rattle.std.specs.Float.Ieee.Scale.{finite}
use Rattle.num_working.specs.Working.{or_else, Worked}
use Rattle.door_limits.specs.Limits.{outside}
use Rattle.door_limits.specs.declared.Range.{Range}
use Rattle.refusal.specs.declared.Refusal.{Refusal}

-- a check is passed, or refuses
abbrev pub Check : Type 0
Check = Result (Unit {0}) Refusal

-- the first that holds: 3 where one of the two is infinite or not a number, 4 where the temperature is out of its range, 5 where x is
unfoldable pub ranged : Range → Range → Float → Float → Check
ranged temperature value t x =
    cond (not (finite t && finite x)) (refused 3)
    (cond (outside temperature t) (refused 4)
    (cond (outside value x) (refused 5)
    (Ok tt)))

-- RULES 5.4: 7 where the melting pressure failed, 19 where the pressure is above it
unfoldable pub solid : Worked → Float → Check
solid melting p = or_else melting (refused 7) (λ m. cond (lt m p) (refused 19) (Ok tt))

-- RULES 2.3: 6 where both lie in the ranges of the critical box
unfoldable pub boxed : Range → Range → Float → Float → Check
boxed temperature value t x = cond (not (outside temperature t) && not (outside value x)) (refused 6) (Ok tt)

-- the refusal's number, to be handed on; of a check that was passed 0, which is no refusal and is not handed on
abbrev pub number_of : Check → ℕ
number_of (Err n) = n.0
number_of (Ok tt) = 0
