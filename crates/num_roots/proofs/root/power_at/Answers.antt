-- The bits are below the infinity's, so they are no NaN's. Assumes nothing.
use Rattle.num_working.proofs.Numbers.{no_nan}
use Rattle.num_roots.proofs.root.power_at.Goals as goal

pub float_from_bits-b : goal.float_from_bits-b
float_from_bits-b c = no_nan c.args.b c.requires
