-- The measure is how many places are left. Assumes nothing.
use Rattle.desk_units.proofs.+shortest.Given as goal

abbrev pub decreases-shortest : goal.decreases-shortest
decreases-shortest l = l.places
