-- The neighbours of the guess have bits below the infinity's. Assumes nothing.
use native.Mathlib.Omega.{arith}
use Rattle.num_working.proofs.Numbers.{no_nan}
use Rattle.num_roots.proofs.Searchables.{powers_asked}
use Rattle.num_roots.proofs.root.Guess.powers.Goals as goal

pub float_from_bits-self : goal.float_from_bits-self
float_from_bits-self c = let b = c.args.self.guessed.within in no_nan _ (omega arith)

pub float_from_bits-self-2 : goal.float_from_bits-self-2
float_from_bits-self-2 c = let b = c.args.self.guessed.within in no_nan _ (omega arith)

pub float_from_bits-self-3 : goal.float_from_bits-self-3
float_from_bits-self-3 c = let b = c.args.self.guessed.within in no_nan _ (omega arith)

pub three_powers-requires : goal.three_powers-requires
three_powers-requires c = (powers_asked _ _ _ _ c.args.self.guessed).0
