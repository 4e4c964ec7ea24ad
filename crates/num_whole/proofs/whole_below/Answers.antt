-- In reach of whole numbers the kit's truncation is the cut. Assumes nothing.
use Rattle.std.proofs.Common.{◌≡◌, ◌^◌, true, false, sym, ap, ◌∙◌}
use lib.Ieee.{Float, le}
use Rattle.num_working.specs.Number.{whole}
use Rattle.num_whole.specs.Whole.{whole_below}
use Rattle.num_whole.proofs.Wholes.{zero_bits, top_bits, below_zero, past_the_top, truncated}
use Rattle.num_whole.proofs.whole_below.Goals as goal
use Rattle.num_whole.proofs.whole_below.Goals.{Else-x}

-- past both tests
low : (c : Else-x) → le (whole 0) c.args.x ≡ true
low c = ap (λ (w : Float). le w c.args.x) (sym zero_bits) ∙ c.if-not-x.false

high : (c : Else-x) → le (whole (2 ^ 53)) c.args.x ≡ false
high c = ap (λ (w : Float). le w c.args.x) (sym top_bits) ∙ c.if-x.false

pub returns-then-not-x : goal.returns-then-not-x
returns-then-not-x c = below_zero _ (ap (λ (w : Float). le w c.args.x) (sym zero_bits) ∙ c.if-not-x.true)

pub returns-then-x : goal.returns-then-x
returns-then-x c = past_the_top _ (ap (λ (w : Float). le w c.args.x) (sym top_bits) ∙ c.if-x.true)

pub truncating_f64_to_u64-requires : goal.truncating_f64_to_u64-requires
truncating_f64_to_u64-requires c = let k = truncated _ (low (goal.at.truncating_f64_to_u64-requires c).Else-x) (high (goal.at.truncating_f64_to_u64-requires c).Else-x) in record { lower_bound = k.low; upper_bound = k.high }

pub returns : goal.returns
unfolding whole_below
returns c = rw (low (goal.at.returns c).Else-x, high (goal.at.returns c).Else-x, c.truncating_f64_to_u64.ensures, (truncated _ (low (goal.at.returns c).Else-x) (high (goal.at.returns c).Else-x)).is)
