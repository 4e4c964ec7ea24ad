-- One product, tested. Assumes nothing.
use mathlib.Core.Path.{refl, sym}
use Rattle.num_formulas.specs.Formula.{value}
use Rattle.num_formulas.proofs.Tests.{tested}
use Rattle.door_pressure.proofs.scaled.Goals as goal

pub returns : goal.returns
unfolding value
returns c = rw c.in_ok-density.was (sym (tested _ _ _ refl c.checked.ensures))
