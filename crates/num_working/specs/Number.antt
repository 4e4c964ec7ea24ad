-- RULES 4.1: a number that is printed is the f64 nearest to it. Definitions only.
use Rattle.std.specs.Prelude.{ℕ, ◌^◌, Bool, false, not, Float, pos}
use Rattle.std.specs.Float.Ieee as Ieee
use Rattle.std.specs.Float.{nan, inf, fin, binary64}

-- the f64 nearest n / d, a tie to the even one; `false`: with no minus sign
unfoldable pub fraction : ℕ → ℕ → Float
fraction n d = Ieee.round binary64 false n d

-- a decimal of so many digits after the point: `decimal 3041282 4` is 304.1282
unfoldable pub decimal : ℕ → ℕ → Float
decimal digits places = fraction digits (10 ^ places)

-- the whole number n
unfoldable pub whole : ℕ → Float
whole n = Ieee.of_int binary64 (pos n)

-- finite, and with no minus sign: what the doors' theorems take of a saturated density
abbrev pub nonneg : Float → Bool
nonneg nan = false
nonneg (inf s) = false
nonneg (fin s m e) = not s
