-- The code's number is the definition's. Assumes nothing.
use mathlib.Core.Path.{◌≡◌, refl}
use lib.Ieee.{binary64, of_int, of_bits}
use Rattle.num_working.specs.Number.{whole}

pub thousand : of_bits binary64 4652007308841189376 ≡ whole 1000
unfolding of_bits of_int whole
thousand = refl
