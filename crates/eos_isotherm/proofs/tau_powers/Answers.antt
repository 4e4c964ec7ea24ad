-- Each turn puts the next row's power in its place. Assumes nothing.
use mathlib.Core.Path.{◌≡◌, refl, sym, ◌∙◌}
use Prim.Native.Nat.{ℕ, ◌/◌, ◌%◌, ◌<◌}
use native.Mathlib.Omega.{arith}
use lib.ListN.{length, get_or, length-map}
use lib.Ieee.{Float, nan, binary64, mul}
use Rattle.num_formulas.specs.Formula.{value}
use Rattle.eos_isotherm.specs.Isotherm.{quarters, tau_power, tau_powers}
use Rattle.eos_isotherm.proofs.Fills.{fill_more, fill_all}
use Rattle.eos_isotherm.proofs.Isotherms.{count, small, power_there}
use Rattle.eos_isotherm.proofs.tau_powers.Goals as goal
use Rattle.eos_isotherm.proofs.tau_powers.Goals.{After-quarters_at-j}

long : (tau quarter : Float) → length (tau_powers tau quarter) ≡ 39
unfolding tau_powers
long tau quarter = length-map quarters (λ (j : ℕ). value (tau_power tau quarter j)) ∙ count

-- the exponent that a turn comes to
low : (c : After-quarters_at-j) → c.quarters_at-j.result < 113
low c = rw c.quarters_at-j.ensures (small c.loop-i.i)

pub loop-i-init : goal.loop-i-init
loop-i-init c =
    let a = c.args in
    record { long = sym (long a.tau a.quarter); same = refl }

pub bounds-t-j : goal.bounds-t-j
bounds-t-j c = let l = low c in omega arith

pub loop-i-preserved : goal.loop-i-preserved
loop-i-preserved c =
    let a = c.args in
    let i = c.loop-i.i in
    let j = c.quarters_at-j.result in
    let x = mul binary64 (get_or c.powers_to_28-t.result (j / 4) nan) (get_or c.powers_to_3-q.result (j % 4) nan) in
    let v : x ≡ get_or (tau_powers a.tau a.quarter) i nan =
    rw (c.powers_to_3-q.ensures, c.powers_to_28-t.ensures)
    (power_there a.tau a.quarter i j (omega arith) c.quarters_at-j.ensures) in
    let h : i < length (tau_powers a.tau a.quarter) = rw (long a.tau a.quarter) (omega arith) in
    fill_more (tau_powers a.tau a.quarter) i c.loop-i.power-items x nan h c.loop-i.invariant v

pub returns : goal.returns
returns c =
    let a = c.args in
    fill_all (tau_powers a.tau a.quarter) c.loop-i.i c.loop-i.power-items (rw (long a.tau a.quarter) (omega arith)) c.loop-i.invariant
