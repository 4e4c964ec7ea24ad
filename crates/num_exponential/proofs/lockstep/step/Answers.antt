-- A turn works the i-th step, and the last has worked all. Assumes nothing.
use native.Mathlib.Omega.{arith}
use lib.Ieee.{nan, of_bits, of_int, round}
use lib.ListN.{get_or, length-set}
use mathlib.Core.Path.{◌∙◌}
use Rattle.std.proofs.lemmas.List.Edits.{fill_by_more}
use Rattle.num_working.specs.Number.{whole}
use Rattle.num_exponential.specs.Lockstep.{turn}
use Rattle.num_exponential.proofs.Lanes.{is_pairs}
use Rattle.num_exponential.proofs.lockstep.step.Goals as goal

pub loop-i-preserved : goal.loop-i-preserved
unfolding turn whole of_bits of_int round
loop-i-preserved c =
    let l = c.loop-i in
    let a = c.args in
    record {
      long = length-set _ _ _ ∙ l.invariant.long;
      done = fill_by_more (λ k. turn a.h (get_or a.q k nan) (get_or a.s k nan)) l.r l.i nan (omega arith) l.invariant.done;
    }

pub returns : goal.returns
returns c =
    let l = c.loop-i in
    let w = c.well_formed in
    is_pairs (turn c.args.h) c.args.q c.args.s l.r (omega arith) (omega arith) (λ k n. l.invariant.done k (omega arith))
