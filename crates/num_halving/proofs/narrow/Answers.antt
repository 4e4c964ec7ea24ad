-- Each turn halves what is left, and the halving from there is the one asked for. Assumes nothing.
use Rattle.std.specs.Prelude.{Some, None}
use mathlib.Core.Path.{◌≡◌, sym}
use native.Mathlib.Omega.{arith}
use Rattle.num_halving.specs.Halving.{middle, failed}
use Rattle.num_halving.proofs.Halvings.{begins, ends_at, to_upper, to_lower, to_broke}
use Rattle.num_halving.proofs.Probes.{is_above, is_not_above}
use Rattle.num_halving.proofs.narrow.Goals as goal

pub loop-lo-init : goal.loop-lo-init
loop-lo-init g c =
    let a = c.args in
    (omega arith, begins (g.P.Probed.figure a.probed.now) a.t a.from a.to.bits (omega arith) (omega arith) c.requires.not_above c.requires.above)

pub returns-in_err-x : goal.returns-in_err-x
unfolding middle
returns-in_err-x g c =
    let a = c.args in
    let f = g.P.Probed.figure a.probed.now in
    let e : f (middle c.loop-lo.lo c.loop-lo.hi) ≡ None = grind arith in
    let h = to_broke f a.t _ c.loop-lo.lo c.loop-lo.hi c.loop-lo.invariant.1 (λ e. omega arith) (failed e) in
    rw h (grind arith)

pub loop-lo-preserved-then-t-x : goal.loop-lo-preserved-then-t-x
unfolding middle
loop-lo-preserved-then-t-x g c =
    let a = c.args in
    let f = g.P.Probed.figure a.probed.now in
    let e : f (middle c.loop-lo.lo c.loop-lo.hi) ≡ Some c.in_ok-x.x = grind arith in
    let s = is_above f (g.P.Probed.sound a.probed.now) _ _ e a.t c.if-t-x.true in
    (omega arith, to_lower f a.t _ c.loop-lo.lo c.loop-lo.hi c.loop-lo.invariant.1 (λ e. omega arith) s)

pub loop-lo-preserved : goal.loop-lo-preserved
unfolding middle
loop-lo-preserved g c =
    let a = c.args in
    let f = g.P.Probed.figure a.probed.now in
    let e : f (middle c.loop-lo.lo c.loop-lo.hi) ≡ Some c.in_ok-x.x = grind arith in
    let s = is_not_above f (g.P.Probed.sound a.probed.now) _ _ e a.t c.if-t-x.false in
    (omega arith, to_upper f a.t _ c.loop-lo.lo c.loop-lo.hi c.loop-lo.invariant.1 (λ e. omega arith) s)

pub returns : goal.returns
returns g c =
    let a = c.args in
    sym (ends_at (g.P.Probed.figure a.probed.now) a.t _ c.loop-lo.lo c.loop-lo.hi c.loop-lo.invariant.1 (omega arith))
