-- Nothing is promised; what is owed is that no bits made or read are a NaN's. Assumes nothing.
use native.Mathlib.Omega.{arith}
use Rattle.num_working.proofs.Numbers.{no_nan, nonneg_no_nan}
use Rattle.num_roots.proofs.root.about_log.Goals as goal

pub float_to_bits-b : goal.float_to_bits-b
float_to_bits-b c = nonneg_no_nan c.args.x c.requires

pub float_from_bits-z : goal.float_from_bits-z
float_from_bits-z c = no_nan _ (omega arith)

pub float_from_bits-exponent : goal.float_from_bits-exponent
float_from_bits-exponent c = no_nan _ (omega arith)
