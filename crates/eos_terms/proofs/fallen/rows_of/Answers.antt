-- By what is said. Assumes nothing.
use mathlib.Core.Path.{refl, sym, ◌∙◌}
use Rattle.eos_terms.specs.Fallen.{rows_of}
use Rattle.eos_terms.proofs.fallen.rows_of.Goals as goal

pub returns-then-falls : goal.returns-then-falls
unfolding rows_of
returns-then-falls c = rw (sym c.falls.ensures ∙ c.if-falls.true) refl

pub returns-else-falls : goal.returns-else-falls
unfolding rows_of
returns-else-falls c = rw (sym c.falls.ensures ∙ c.if-falls.false) refl
