-- Each number is the definition's. Assumes nothing.
use Rattle.std.proofs.Common.{rules}
use Rattle.num_exponential.specs.Decay.{decay}
use Rattle.num_exponential.proofs.Lanes.{is_map}
use Rattle.num_exponential.proofs.decay.one_by_one.Goals as goal

pub returns : goal.returns
returns c = is_map decay c.args.x c.each.result c.each.ensures.long (λ k n. let e = c.each.ensures.at k n in search rules)
