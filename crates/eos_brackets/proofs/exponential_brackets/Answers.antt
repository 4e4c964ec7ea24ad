-- Each is its bracket's formula. Assumes nothing.
use mathlib.Core.Path.{refl}
use lib.Ieee.{of_bits, of_int}
use Rattle.num_working.specs.Number.{whole}
use Rattle.num_formulas.specs.Formula.{value}
use Rattle.eos_brackets.specs.Bracket.{exponential}
use Rattle.eos_brackets.proofs.exponential_brackets.Goals as goal

pub returns : goal.returns
unfolding exponential value whole of_bits of_int
returns c = refl
