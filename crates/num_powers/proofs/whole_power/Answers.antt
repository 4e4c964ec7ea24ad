-- The product so far is the i-th whole power, and the loop ends at n. Assumes nothing.
use mathlib.Core.Path.{◌≡◌, refl, ap, ◌∙◌}
use native.Mathlib.Omega.{arith}
use lib.Ieee.{Float, binary64, mul, of_bits, of_int}
use Rattle.num_working.specs.Number.{whole}
use Rattle.num_powers.specs.Power.{power}
use Rattle.num_powers.proofs.Powers.{power_next}
use Rattle.num_powers.proofs.whole_power.Goals as goal

pub returns-then-n-eq0 : goal.returns-then-n-eq0
unfolding of_bits of_int power whole
returns-then-n-eq0 c = rw c.if-n-eq0.true refl

pub loop-i-init : goal.loop-i-init
unfolding power
loop-i-init c = refl

pub loop-i-preserved : goal.loop-i-preserved
loop-i-preserved c =
    let l = c.loop-i in
    let x = c.args.x in
    ap (λ (r : Float). mul binary64 r x) l.invariant ∙ power_next x l.i (omega arith)

pub returns : goal.returns
returns c =
    let l = c.loop-i in
    let e : l.i ≡ c.args.n = omega arith in
    rw e at l.invariant
