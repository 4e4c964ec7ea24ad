-- Nothing is promised; what is owed is that no bits made or read are a NaN's. Assumes nothing.
use native.Mathlib.Omega.{arith}
use Rattle.num_working.proofs.Numbers.{no_nan, less_no_nan}
use Rattle.num_roots.proofs.root.about_power.Goals as goal

pub float_to_bits-e : goal.float_to_bits-e
float_to_bits-e c = less_no_nan _ _ c.if-n.true

pub float_from_bits-result : goal.float_from_bits-result
float_from_bits-result c = no_nan _ (omega arith)
