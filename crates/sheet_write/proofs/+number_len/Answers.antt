-- Below 10 there is one digit, below 100 there are two, and otherwise two more than n / 100 has. Assumes nothing.
use Rattle.std.proofs.Common.{sym, arith}
use Rattle.sheet_text.proofs.Decimals.{length_small, length_pair, length_pairs, digits_most}
use Rattle.sheet_write.proofs.+number_len.Goals as goal

pub returns-then-n-lt10 : goal.returns-then-n-lt10
returns-then-n-lt10 t c = (sym (length_small _ c.if-n-lt10.true), omega arith)

pub returns-then-n-lt100 : goal.returns-then-n-lt100
returns-then-n-lt100 t c = (sym (length_pair _ c.if-n-lt10.false c.if-n-lt100.true), omega arith)

pub returns : goal.returns
returns t c =
    let n = c.args.n in
    let l = length_pairs n c.if-n-lt100.false in
    (omega arith, omega (arith, digits_most 19 n (omega arith)))
