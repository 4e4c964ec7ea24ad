-- Bits below those of the infinity are no NaN's. Assumes nothing.
use Rattle.num_working.proofs.Numbers.{no_nan}
use Rattle.door_pressure.proofs.search.PressureProbed.at.Goals as goal

pub float_from_bits-place : goal.float_from_bits-place
float_from_bits-place c = no_nan _ c.args.place.below_infinity
