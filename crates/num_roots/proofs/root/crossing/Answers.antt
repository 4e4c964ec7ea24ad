-- The loop keeps a bracket: not above at its lower end, above at its upper end or there the end of the range, which is looked at last.
-- Where the ends have met, the crossing is between them, and there is only one. Assumes nothing.
use mathlib.Core.Path.{◌≡◌, sym}
use native.Mathlib.Omega.{arith}
use Rattle.num_roots.proofs.Roots.{top, first_not_above, above_at, not_above_at, crossing_is, no_crossing}
use Rattle.num_roots.proofs.root.crossing.Goals as goal

pub loop-lo-init : goal.loop-lo-init
loop-lo-init c = record {
  apart = omega arith;
  within = omega arith;
  some = omega arith;
  here = first_not_above c.args.k c.args.t (omega arith) c.requires.t;
  next = λ h. absurd (omega arith);
}

pub loop-lo-preserved-then-t-power_at : goal.loop-lo-preserved-then-t-power_at
loop-lo-preserved-then-t-power_at c =
    let i = c.loop-lo.invariant in
    record {
      apart = omega arith;
      within = omega arith;
      some = omega arith;
      here = i.here;
      next = λ h. above_at _ _ _ _ (omega arith) (omega arith) c.power_at.ensures c.if-t-power_at.true;
    }

pub loop-lo-preserved : goal.loop-lo-preserved
loop-lo-preserved c =
    let i = c.loop-lo.invariant in
    record {
      apart = omega arith;
      within = i.within;
      some = omega arith;
      here = not_above_at _ _ _ _ (omega arith) (omega arith) c.power_at.ensures c.if-t-power_at.false;
      next = i.next;
    }

pub returns-then-hi-lt4697254411347427328 : goal.returns-then-hi-lt4697254411347427328
returns-then-hi-lt4697254411347427328 c =
    let l = c.loop-lo in
    let b = l.invariant.next (omega arith) in
    sym (crossing_is c.args.k c.args.t (omega arith) (omega arith) c.requires.t l.lo l.hi (omega arith) (omega arith) l.invariant.here b)

pub returns-then-t-power_at-2 : goal.returns-then-t-power_at-2
returns-then-t-power_at-2 c =
    let l = c.loop-lo in
    let b = above_at _ _ _ _ (omega arith) (omega arith) c.power_at-2.ensures c.if-t-power_at-2.true in
    sym (crossing_is c.args.k c.args.t (omega arith) (omega arith) c.requires.t l.lo l.hi (omega arith) (omega arith) l.invariant.here b)

pub returns-else-t-power_at-2 : goal.returns-else-t-power_at-2
returns-else-t-power_at-2 c =
    let l = c.loop-lo in
    let e : l.hi ≡ top = omega arith in
    let b = not_above_at _ _ _ _ (omega arith) (omega arith) c.power_at-2.ensures c.if-t-power_at-2.false in
    sym (no_crossing c.args.k c.args.t (omega arith) (omega arith) c.requires.t (rw e at b))
