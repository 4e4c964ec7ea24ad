-- RULES 4.9 (004, section 2.1): the reduced density and the inverse reduced temperature, on which the equation stands. Definitions only.
use Rattle.std.specs.Prelude.{Float}
use Rattle.num_formulas.specs.Formula.{Formula, num, ◌⊘◌}
use Rattle.eos_constants.specs.Constant.{span_wagner}

-- δ = ρ/ρ_c
abbrev pub delta : Float → Formula
delta rho = num rho ⊘ num span_wagner.density

-- τ = T_c/T
abbrev pub tau : Float → Formula
tau t = num span_wagner.temperature ⊘ num t
