-- Each quotient is the definition's. Assumes nothing.
use Rattle.std.proofs.Common.{rules}
use lib.Ieee.{Float, binary64, div, of_bits, of_int, round}
use Rattle.num_working.specs.Number.{whole}
use Rattle.num_exponential.proofs.Lanes.{is_map}
use Rattle.num_exponential.proofs.decay.by_1024.Goals as goal

pub returns : goal.returns
unfolding whole of_bits of_int round
returns c = is_map (λ (v : Float). div binary64 v (whole 1024)) c.args.x c.each.result c.each.ensures.long (λ k n. let e = c.each.ensures.at k n in search rules)
