-- The pressure at a temperature and a density (docs/ARRANGEMENT.md, sections 2, 7 and 9; 004, Table 3). Definitions only.
use Rattle.std.specs.Prelude.{Float, None}
use Rattle.num_working.specs.Working.{or_else, Worked}
use Rattle.num_formulas.specs.Formula.{Formula, num, one, ◌⊕◌, ◌⊗◌, work}
use Rattle.eos_constants.specs.Constant.{span_wagner}
use Rattle.eos_constants.specs.Reduced.{delta}
use Rattle.eos_isotherm.specs.declared.Isotherm.{Isotherm}
use Rattle.eos_brackets.specs.Derivative.{Delta}
use Rattle.eos_residual.specs.Sum.{residual}

-- p = ((ρ·R)·T)·(1 + δφ_δ), with a for δφ_δ
abbrev pub pressure_formula : Float → Float → Float → Formula
pressure_formula t rho a = num rho ⊗ num span_wagner.gas ⊗ num t ⊗ (one ⊕ num a)

-- at a temperature, on its isotherm, at a density
unfoldable pub pressure_on : Float → Isotherm → Float → Worked
pressure_on t iso rho =
    or_else (work (delta rho)) None (λ δ.
    or_else (residual iso δ Delta) None (λ a.
    work (pressure_formula t rho a)))
