-- The density that is tested is the definition's, operation by operation. Assumes nothing.
use Rattle.std.specs.Prelude.{Some, None}
use Rattle.std.specs.Bool.{then_some}
use mathlib.Core.Path.{◌≡◌, refl, sym, ap, ◌∙◌}
use mathlib.Core.Bool.{Bool, true, false, cond}
use lib.Ieee.{Float, lt, of_bits, of_int}
use Rattle.num_working.specs.Number.{whole}
use Rattle.num_working.specs.Working.{Worked}
use Rattle.num_formulas.specs.Formula.{num, ◌⊗◌, e^, value}
use Rattle.num_formulas.proofs.Formulas.{once}
use Rattle.eos_constants.specs.Constant.{span_wagner}
use Rattle.eos_densities.specs.Density.{above_zero, density_of}
use Rattle.eos_densities.proofs.density_of.Goals as goal
use Rattle.eos_densities.proofs.density_of.Goals.{After-checked}

tested : (c : After-checked) → density_of (num c.args.sum) ≡ above_zero c.checked.result
unfolding density_of value
tested c =
    let sum = c.args.sum in
    let worked = simp (
      c.plain.ensures,
      c.answer_alone.ensures,
      c.exponential.ensures,
      c.span_wagner.ensures,
    ) at c.checked.ensures in
    sym (ap above_zero (worked ∙ once (num span_wagner.density ⊗ e^ (num sum))))

chosen : (b : Bool) (x : Float) → then_some b x ≡ cond {A = Worked} b (Some x) None
chosen true x = refl
chosen false x = refl

pub returns-in_err-density : goal.returns-in_err-density
returns-in_err-density c =
    c.from_residual.ensures ∙ sym (tested (goal.at.returns-in_err-density c).After-checked ∙ ap above_zero c.in_err-density.was)

pub returns : goal.returns
unfolding of_bits of_int whole
returns c =
    let x = c.in_ok-density.density in
    c.then_some.ensures ∙ chosen (lt (whole 0) x) x ∙ sym (tested (goal.at.returns c).After-checked ∙ ap above_zero c.in_ok-density.was)
