-- One test at the end stands for all. Assumes nothing.
use mathlib.Core.Path.{◌∙◌}
use Rattle.num_formulas.specs.Formula.{value}
use Rattle.num_formulas.proofs.Formulas.{once}
use Rattle.eos_conductivity.specs.Conductivity.{reduced, dilute, dilute_at}
use Rattle.eos_conductivity.proofs.dilute_at.Goals as goal

pub returns : goal.returns
unfolding dilute_at dilute value
returns c =
    (rw (c.dilute.ensures, c.reduced_at.ensures) at c.checked.ensures) ∙ once (dilute (reduced c.args.t))
