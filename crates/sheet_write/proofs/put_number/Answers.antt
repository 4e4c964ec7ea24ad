-- A digit stands alone. Of more, at each turn the last two digits of those that are left are written before the others, until one or two are left.
-- Assumes nothing.
use native.Mathlib.Omega.{arith}
use lib.ListN.{length-set}
use Rattle.sheet_text.proofs.Decimals.{length_small, length_pairs}
use Rattle.sheet_write.proofs.Backward.{at_most, two_more, first, first_two}
use Rattle.sheet_write.proofs.Writings.{one_digit}
use Rattle.sheet_write.proofs.put_number.Goals as goal

pub returns-then-n-lt10 : goal.returns-then-n-lt10
returns-then-n-lt10 c = one_digit _ _ c.if-n-lt10.true (omega (arith, length_small c.args.n c.if-n-lt10.true))

pub put_pair-requires : goal.put_pair-requires
put_pair-requires c =
    let l = c.loop-left in
    let p = l.invariant.1.place in
    (omega arith, omega (arith, p, length_pairs l.left c.loop-left-test.true, at_most l.invariant.1))

pub loop-left-preserved : goal.loop-left-preserved
loop-left-preserved c =
    let e = c.put_pair.ensures in
    rw (e, length-set, length-set) (c.loop-left.invariant.0, two_more c.loop-left.invariant.1 c.loop-left-test.true)

pub returns-then-left-lt10 : goal.returns-then-left-lt10
returns-then-left-lt10 c =
    rw c.number_len-len.ensures.0 (first c.loop-left.invariant.1 c.if-left-lt10.true c.requires)

pub returns-else-left-lt10 : goal.returns-else-left-lt10
returns-else-left-lt10 c =
    rw (c.put_pair-else-left-lt10.ensures, c.number_len-len.ensures.0)
    (first_two c.loop-left.invariant.1 c.if-left-lt10.false c.loop-left-test.false c.requires)
