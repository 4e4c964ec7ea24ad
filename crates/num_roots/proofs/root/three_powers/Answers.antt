-- Each of the three is the i-th whole power of its float, and the loop ends at k. Assumes nothing.
use mathlib.Core.Path.{◌≡◌, refl, ap, ◌∙◌}
use Prim.Native.Nat.{ℕ, ◌≤◌, ◌+◌}
use native.Mathlib.Omega.{arith}
use lib.Ieee.{Float, binary64, mul}
use Rattle.num_powers.specs.Power.{power}
use Rattle.num_powers.proofs.Powers.{power_next}
use Rattle.num_roots.proofs.root.three_powers.Goals as goal

once_more : (x r : Float) (i : ℕ) → 1 ≤ i → r ≡ power x i → mul binary64 r x ≡ power x (i + 1)
once_more x r i h e = ap (λ (p : Float). mul binary64 p x) e ∙ power_next x i h

pub loop-i-init : goal.loop-i-init
unfolding power
loop-i-init c = record { first = refl; second = refl; third = refl }

pub loop-i-preserved : goal.loop-i-preserved
loop-i-preserved c =
    let l = c.loop-i in
    let h : 1 ≤ l.i = omega arith in
    let r = l.invariant in
    record { first = once_more _ _ _ h r.first; second = once_more _ _ _ h r.second; third = once_more _ _ _ h r.third }

pub returns : goal.returns
returns c =
    let l = c.loop-i in
    let e : l.i ≡ c.args.k = omega arith in
    let r = rw e at l.invariant in
    (r.first, r.second, r.third)
