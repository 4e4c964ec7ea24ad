-- 004, sections 3.6 and 3.7: saturated liquid density and saturated vapour density, in the order of docs/ARRANGEMENT.md, section 10; the powers of θ by
-- RULES 4.3 and 4.7. Definitions only.
use Rattle.std.specs.Prelude.{cond, Float, Some, None}
use Rattle.std.specs.Float.Ieee as Ieee
use Rattle.num_working.specs.Number.{decimal, whole}
use Rattle.num_working.specs.Working.{or_else, Worked}
use Rattle.num_formulas.specs.Formula.{Formula, num, ◌⊕◌, ◌⊗◌, ◌^^◌, e^, root, work}
use Rattle.eos_constants.specs.Constant.{span_wagner}
use Rattle.eos_constants.specs.Exponent.{worked_as}
use Rattle.eos_constants.specs.declared.Printed.TheVariants.{Of0_34, Of10_6}
use Rattle.eos_saturation.specs.Saturation.{theta, to}

-- eq. (3.14), t₁ = 0.34, t₂ = 1/2, t₃ = 10/6, t₄ = 11/6:
-- a₁ = 1.9245108, a₂ = −0.62385555, a₃ = −0.32731127, a₄ = 0.39245142
unfoldable pub liquid_sum : Formula → Formula
liquid_sum θ =
    num (decimal 19245108 7) ⊗ root (worked_as Of0_34) θ
    ⊕ num (Ieee.neg (decimal 62385555 8)) ⊗ to θ 1 2
    ⊕ num (Ieee.neg (decimal 32731127 8)) ⊗ root (worked_as Of10_6) θ
    ⊕ num (decimal 39245142 8) ⊗ to θ 11 6

-- eq. (3.15), t₁ = 0.340, t₂ = 1/2, t₃ = 1, t₄ = 7/3, t₅ = 14/3:
-- a₁ = −1.7074879, a₂ = −0.82274670, a₃ = −4.6008549, a₄ = −10.111178, a₅ = −29.742252
unfoldable pub vapour_sum : Formula → Formula
vapour_sum θ =
    num (Ieee.neg (decimal 17074879 7)) ⊗ root (worked_as Of0_34) θ
    ⊕ num (Ieee.neg (decimal 82274670 8)) ⊗ to θ 1 2
    ⊕ num (Ieee.neg (decimal 46008549 7)) ⊗ θ
    ⊕ num (Ieee.neg (decimal 10111178 6)) ⊗ (θ ^^ 2 ⊗ to θ 1 3)
    ⊕ num (Ieee.neg (decimal 29742252 6)) ⊗ (θ ^^ 4 ⊗ to θ 2 3)

-- RULES 5: one that is not above 0 is a failure
abbrev pub above_zero : Worked → Worked
above_zero w = or_else w None (λ x. cond (Ieee.lt (whole 0) x) (Some x) None)

-- eqs. (3.14) and (3.15): ln(ρ/ρ_c) is the sum
unfoldable pub density_of : Formula → Worked
density_of sum = above_zero (work (num span_wagner.density ⊗ e^ sum))

unfoldable pub liquid_density : Float → Worked
liquid_density t = density_of (liquid_sum (theta t))

unfoldable pub vapour_density : Float → Worked
vapour_density t = density_of (vapour_sum (theta t))
