-- The last digits of n / 10, one less, and then the last, which has a place behind the others. Assumes nothing.
use Rattle.std.proofs.Common.{◌-◌, ◌/◌, ◌<◌, length, arith}
use Rattle.sheet_write.proofs.Writings.{more}
use Rattle.desk_units.proofs.Digits.{last_next, last_length}
use Rattle.desk_units.proofs.+put_last.Goals as goal

pub returns : goal.returns
returns t c =
    let a = c.args in
    let h : c.put_last-at.result < length a.out.now = omega (arith, c.put_last-at.ensures.count, last_length (a.k - 1) (a.n / 10)) in
    rw (last_next _ _ c.if-k-eq0.false) (more _ c.put_last-at.ensures h)
