-- The ends are looked at as the definition has it; a target outside their two figures has no crossing, else the halving begins. Assumes nothing.
use Rattle.std.specs.Prelude.{Some, None}
use mathlib.Core.Path.{◌≡◌, sym}
use native.Mathlib.Omega.{arith}
use Rattle.num_halving.specs.Halving.{met, first_above, second_not_above, at_first, at_second, failed}
use Rattle.num_halving.proofs.Halvings.{nowhere_back, breaks_back}
use Rattle.num_halving.proofs.Probes.{is_above, is_not_above, is_worthy}
use Rattle.num_halving.proofs.halve.Goals as goal

pub returns-then-to-from : goal.returns-then-to-from
returns-then-to-from g c = let a = c.args in sym (nowhere_back (g.P.Probed.figure a.probed.now) a.t a.from a.to.bits (met (omega arith)))

pub returns-in_err-low : goal.returns-in_err-low
returns-in_err-low g c =
    let a = c.args in
    let f = g.P.Probed.figure a.probed.now in
    let e : f a.from ≡ None = grind arith in
    let h = breaks_back f a.t a.from a.to.bits (omega arith) (omega arith) (at_first (failed e)) in
    rw h (grind arith)

pub returns-in_err-high : goal.returns-in_err-high
returns-in_err-high g c =
    let a = c.args in
    let f = g.P.Probed.figure a.probed.now in
    let e : f a.to.bits ≡ None = grind arith in
    let h = breaks_back f a.t a.from a.to.bits (omega arith) (omega arith) (at_second (failed e)) in
    rw h (grind arith)

pub returns-then-t-low : goal.returns-then-t-low
returns-then-t-low g c =
    let a = c.args in
    let f = g.P.Probed.figure a.probed.now in
    let s = g.P.Probed.sound a.probed.now in
    let low : f a.from ≡ Some c.in_ok-low.low = grind arith in
    let high : f a.to.bits ≡ Some c.in_ok-high.high = grind arith in
    sym (nowhere_back f a.t a.from a.to.bits (first_above (is_above f s a.from _ low a.t c.if-t-low.true) (is_worthy f s a.to.bits _ high)))

pub narrow-requires : goal.narrow-requires
narrow-requires g c =
    let a = c.args in
    let f = g.P.Probed.figure a.probed.now in
    let s = g.P.Probed.sound a.probed.now in
    let low : f a.from ≡ Some c.in_ok-low.low = grind arith in
    let high : f a.to.bits ≡ Some c.in_ok-high.high = grind arith in
    record {
      from_lt_to = omega arith;
      not_above = is_not_above f s a.from _ low a.t c.if-t-low.false;
      above = is_above f s a.to.bits _ high a.t c.if-t-high.true;
    }

pub returns : goal.returns
returns g c =
    let a = c.args in
    let f = g.P.Probed.figure a.probed.now in
    let s = g.P.Probed.sound a.probed.now in
    let low : f a.from ≡ Some c.in_ok-low.low = grind arith in
    let high : f a.to.bits ≡ Some c.in_ok-high.high = grind arith in
    sym (nowhere_back f a.t a.from a.to.bits (second_not_above (is_worthy f s a.from _ low) (is_not_above f s a.to.bits _ high a.t c.if-t-high.false)))
