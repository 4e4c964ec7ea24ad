-- One test at the end stands for all, and y is what its function ensures. Assumes nothing.
use mathlib.Core.Path.{◌∙◌}
use lib.Ieee.{of_bits, of_int, round}
use Rattle.num_working.specs.Number.{whole, fraction, decimal}
use Rattle.num_formulas.specs.Formula.{value}
use Rattle.num_formulas.proofs.Formulas.{once}
use Rattle.eos_melting.specs.Melting.{past_triple, melting, melting_pressure}
use Rattle.eos_melting.proofs.melting_pressure.Goals as goal

pub returns : goal.returns
unfolding melting_pressure melting value of_bits decimal fraction whole of_int round
returns c =
    let t = c.args.t in
    (rw (c.whole_power.ensures, c.past_triple-y.ensures) at c.checked.ensures) ∙ once (melting (past_triple t))
