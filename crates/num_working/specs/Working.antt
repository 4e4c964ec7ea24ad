-- RULES 4.2: a number that was worked is finite, or the working has failed. Definitions only.
use Rattle.std.specs.Float.Ieee as Ieee
use Rattle.std.specs.Prelude.{Float, Some, None, Option}
use Rattle.std.specs.Float.{nan, inf, fin, binary64}

-- a number that was worked, or none where the working has failed
abbrev pub Worked : Type 0
Worked = Option Float

-- a number, failed where it is not finite
abbrev pub checked : Float → Worked
checked nan = None
checked (inf s) = None
checked (fin s m e) = Some (fin s m e)

-- as a plain f64: a failure is a NaN, which +, −, × and ÷ hand on
abbrev pub plain : Worked → Float
plain None = nan
plain (Some x) = x

-- a quotient in plain f64: by a divisor that is not finite it is a NaN, since a number over an infinity would be 0, unseen
abbrev pub over : Float → Float → Float
over x y = Ieee.div binary64 x (plain (checked y))

-- what f makes of a number that was worked, or z where the working has failed
abbrev pub or_else : {A : Type 0} → Worked → A → (Float → A) → A
or_else None z f = z
or_else (Some x) z f = f x

-- an operation, rounded once (RULES 4.1), on two numbers that were worked
abbrev pub both : (Float → Float → Float) → Worked → Worked → Worked
both op None w = None
both op (Some x) None = None
both op (Some x) (Some y) = checked (op x y)

infixl 6 ◌+ᵂ◌ ◌-ᵂ◌
infixl 7 ◌*ᵂ◌ ◌/ᵂ◌
unfoldable pub ◌+ᵂ◌ : Worked → Worked → Worked
v +ᵂ w = both (Ieee.add binary64) v w

unfoldable pub ◌-ᵂ◌ : Worked → Worked → Worked
v -ᵂ w = both (Ieee.sub binary64) v w

unfoldable pub ◌*ᵂ◌ : Worked → Worked → Worked
v *ᵂ w = both (Ieee.mul binary64) v w

unfoldable pub ◌/ᵂ◌ : Worked → Worked → Worked
v /ᵂ w = both (Ieee.div binary64) v w
