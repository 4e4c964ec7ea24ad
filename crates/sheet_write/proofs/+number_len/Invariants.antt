-- Below 10 there is one digit, below 100 there are two, and otherwise two more than n / 100 has; the measure is n. Assumes nothing.
use Rattle.sheet_write.proofs.+number_len.Given as goal

abbrev pub decreases-number_len : goal.decreases-number_len
decreases-number_len l = l.n
