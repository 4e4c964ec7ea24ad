-- A root that has to be searched for has a small exponent. Assumes nothing.
use Rattle.num_roots.proofs.Searchables.{few}
use Rattle.num_roots.proofs.root.Guess.new.Goals as goal

pub bits_near-requires : goal.bits_near-requires
bits_near-requires c = few _ _ c.requires.searched
