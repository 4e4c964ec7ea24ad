-- Each turn of the loop is a turn of the definition, on numbers that are tested once at the end. Assumes nothing.
use mathlib.Core.Path.{refl, sym, ◌∙◌}
use Prim.Native.Nat.{◌-◌}
use native.Mathlib.Omega.{arith}
use lib.Ieee.{of_bits, of_int}
use Rattle.num_working.specs.Number.{whole}
use Rattle.num_exponential.proofs.Exponentials.{series_turn, series_end}
use Rattle.num_exponential.proofs.exponential.series.Goals as goal

pub loop-k-init : goal.loop-k-init
unfolding of_bits of_int whole
loop-k-init c = (omega arith, omega arith, refl)

pub int_to_float-s : goal.int_to_float-s
int_to_float-s c = tt

pub loop-k-preserved : goal.loop-k-preserved
unfolding of_bits of_int whole
loop-k-preserved c =
    let l = c.loop-k in
    (omega arith, omega arith, l.invariant.2 ∙ series_turn c.args.y (l.k - 1) l.s (omega arith) (omega arith))

pub returns : goal.returns
returns c =
    let l = c.loop-k in
    sym (l.invariant.2 ∙ series_end _ (l.k - 1) _ (omega arith))
