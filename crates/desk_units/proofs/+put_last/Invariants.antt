-- The measure is k, how many digits are still to be written. Assumes nothing.
use Rattle.desk_units.proofs.+put_last.Given as goal

abbrev pub decreases-put_last : goal.decreases-put_last
decreases-put_last l = l.k
