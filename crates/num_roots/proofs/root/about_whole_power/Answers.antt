-- Nothing is promised but an end: what is left of k halves. Assumes nothing.
use Rattle.num_roots.proofs.root.about_whole_power.Goals as goal

pub returns : goal.returns
returns c = tt
