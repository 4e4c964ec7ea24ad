-- One product, and the whole number at or below it. Assumes nothing.
use Rattle.num_working.specs.Number.{whole}
use Rattle.sheet_weigh.proofs.Weighings.{in_float_lem}
use Rattle.desk_look.specs.Gauge.{product_of}
use Rattle.desk_look.proofs.gauge.product_of.Goals as goal

pub int_to_float-v : goal.int_to_float-v
int_to_float-v c = in_float_lem _ c.requires

pub returns : goal.returns
unfolding product_of whole
returns c = c.whole_below.ensures
