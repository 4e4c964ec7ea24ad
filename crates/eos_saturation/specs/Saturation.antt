-- 004, section 3.5: the vapour pressure, in the order of docs/ARRANGEMENT.md, section 10; the powers of θ by RULES 4.3 and 4.7. Definitions only.
use Rattle.std.specs.Prelude.{ℕ, Float}
use Rattle.std.specs.Float.Ieee as Ieee
use Rattle.num_working.specs.Number.{decimal}
use Rattle.num_working.specs.Working.{Worked}
use Rattle.num_formulas.specs.Formula.{Formula, one, num, ◌⊕◌, ◌⊖◌, ◌⊗◌, ◌⊘◌, ◌^^◌, e^, root, work}
use Rattle.eos_constants.specs.Constant.{span_wagner}
use Rattle.eos_constants.specs.Reduced.{tau}

-- ---- what the three equations of saturation share

-- θ = 1 − T/T_c
abbrev pub theta : Float → Formula
theta t = one ⊖ num t ⊘ num span_wagner.temperature

-- θ to m/k
abbrev pub to : Formula → ℕ → ℕ → Formula
to θ m k = root (record { m = m; k = k }) θ

-- ---- the vapour pressure

-- eq. (3.13), t₁ = 1.0, t₂ = 1.5, t₃ = 2.0, t₄ = 4.0: a₁ = −7.0602087, a₂ = 1.9391218, a₃ = −1.6463597, a₄ = −3.2995634
unfoldable pub pressure_sum : Formula → Formula
pressure_sum θ =
    num (Ieee.neg (decimal 70602087 7)) ⊗ θ
    ⊕ num (decimal 19391218 7) ⊗ to θ 3 2
    ⊕ num (Ieee.neg (decimal 16463597 7)) ⊗ θ ^^ 2
    ⊕ num (Ieee.neg (decimal 32995634 7)) ⊗ θ ^^ 4

-- eq. (3.13): ln(p/p_c) is τ times the sum
unfoldable pub vapour_pressure : Float → Worked
vapour_pressure t = work (num span_wagner.pressure ⊗ e^ (tau t ⊗ pressure_sum (theta t)))
