-- Each quotient is the definition's, and what `part` asks holds of each number. Assumes nothing.
use native.Mathlib.Omega.{arith}
use Rattle.std.proofs.Common.{rules}
use lib.Ieee.{Float, binary64, div}
use Rattle.num_laws.specs.Quotient.{normal}
use Rattle.num_exponential.proofs.Decays.{each_of}
use Rattle.num_exponential.proofs.Lanes.{is_map}
use Rattle.num_exponential.proofs.lockstep.parts.Goals as goal

pub each-requires : goal.each-requires
each-requires c =
    let r = c.requires in
    (omega arith, λ i n _ _ _ _. (each_of normal c.args.y i r.0 n, r.1, r.2, r.3))

pub returns : goal.returns
returns c = is_map (λ (v : Float). div binary64 v c.args.k) c.args.y c.each.result c.each.ensures.long (λ i n. let e = c.each.ensures.at i n in search rules)
