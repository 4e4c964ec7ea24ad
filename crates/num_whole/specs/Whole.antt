-- RULES 6.5: the whole number at or below a float. Definitions only.
use Rattle.std.specs.Prelude.{ℕ, ◌/◌, ◌^◌, cond, Float, Some, None, Option}
use Rattle.std.specs.Float.Ieee.{le}
use Rattle.std.specs.Float.Ieee.Positive.{num, den}
use Rattle.num_working.specs.Number.{whole}

-- a whole number, or none where the float is out of the range
abbrev pub Below : Type 0
Below = Option ℕ

-- a finite number's size, cut to a whole number
abbrev pub cut : Float → ℕ
cut x = num x / den x

-- of an x from 0 to below 2⁵³, up to where each whole number is an f64
unfoldable pub whole_below : Float → Below
whole_below x = cond (le (whole 0) x) (cond (le (whole (2 ^ 53)) x) None (Some (cut x))) None
