-- What code inside asks for where it works a quotient by k without a division. No public promise cites it. Definitions only.
use Rattle.std.specs.Prelude.{◌+◌, ◌-◌, ◌*◌, ◌%◌, ◌^◌, Bool, ◌&&◌, eqb, leb, ltb, Float}
use Rattle.std.specs.Float.Ieee.{le}
use Rattle.std.specs.Float.Ieee.Positive.{num, den, positive}
use Rattle.num_working.specs.Number.{decimal, whole}

-- a y for which each y/k is in the normal range
unfoldable pub normal : Float → Bool
normal y = le (decimal 1 250) y && le y (whole 1)

-- an odd whole number from 3 to 15
unfoldable pub divisor : Float → Bool
divisor k = positive k && (eqb (den k) 1 && (eqb (num k % 2) 1 && (ltb 2 (num k) && ltb (num k) 16)))

-- k·c is from 1 − 2⁻⁴⁶ to 1 − 2⁻⁵⁰
unfoldable pub just_below : Float → Float → Bool
just_below k c = positive c && (leb ((2 ^ 46 - 1) * den c) (2 ^ 46 * (num k * num c)) && leb (2 ^ 50 * (num k * num c)) ((2 ^ 50 - 1) * den c))

-- k·h is from 1 + 2⁻⁵⁰ to 1 + 2⁻⁴⁶
unfoldable pub just_above : Float → Float → Bool
just_above k h = positive h && (leb ((2 ^ 50 + 1) * den h) (2 ^ 50 * (num k * num h)) && leb (2 ^ 46 * (num k * num h)) ((2 ^ 46 + 1) * den h))
