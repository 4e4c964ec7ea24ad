-- Each turn of the loop is a turn of the definition. Assumes nothing.
use mathlib.Core.Path.{refl, sym, ◌∙◌}
use Prim.Native.Nat.{◌-◌}
use native.Mathlib.Omega.{arith}
use Rattle.num_exponential.proofs.Exponentials.{squared_turn, squared_end}
use Rattle.num_exponential.proofs.exponential.squared.Goals as goal

pub loop-n-init : goal.loop-n-init
loop-n-init c = (omega arith, refl)

pub loop-n-preserved : goal.loop-n-preserved
loop-n-preserved c =
    let l = c.loop-n in
    (omega arith, l.invariant.1 ∙ squared_turn (l.n - 1) l.s (omega arith))

pub returns : goal.returns
returns c =
    let l = c.loop-n in
    sym (l.invariant.1 ∙ squared_end (l.n - 1) _ (omega arith))
