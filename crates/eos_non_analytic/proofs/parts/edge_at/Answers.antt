-- P₁ is P₀ over Δ. Assumes nothing.
use mathlib.Core.Path.{refl}
use Rattle.num_formulas.specs.Formula.{value}
use Rattle.eos_non_analytic.proofs.parts.edge_at.Goals as goal

pub returns : goal.returns
unfolding value
returns c = rw c.over.ensures refl
