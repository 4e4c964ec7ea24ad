-- The measure is k, how many digits are still to be taken off. Assumes nothing.
use Rattle.desk_units.proofs.+front.Given as goal

abbrev pub decreases-front : goal.decreases-front
decreases-front l = l.k
