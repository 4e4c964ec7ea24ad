-- The exponential is the definition's. Assumes nothing.
use mathlib.Core.Path.{ap, ◌∙◌}
use Rattle.num_working.specs.Working.{plain}
use Rattle.num_exponential.specs.Exponential.{answer_alone}
use Rattle.num_exponential.specs.Decay.{decay}
use Rattle.num_exponential.proofs.decay.decay.Goals as goal

pub returns : goal.returns
unfolding decay
returns c = c.plain.ensures ∙ ap plain (c.answer_alone.ensures ∙ ap answer_alone c.exponential.ensures)
