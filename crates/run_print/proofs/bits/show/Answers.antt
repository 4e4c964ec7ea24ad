-- A finite number is no NaN, so its bits can be read. Assumes nothing.
use Rattle.std.proofs.Common.{sym, ◌∙◌}
use Rattle.num_working.proofs.Numbers.{finite_no_nan}
use Rattle.run_print.proofs.bits.show.Goals as goal

pub float_to_bits-x : goal.float_to_bits-x
float_to_bits-x c = finite_no_nan _ (sym c.is_finite.ensures ∙ c.if-is_finite.true)
