-- Side by side or one by one, each is the definition's. Assumes nothing.
use mathlib.Core.Path.{sym, ◌∙◌, subst}
use lib.Dec.{T}
use Rattle.num_exponential.proofs.decay.twelve_decays.Goals as goal

pub side_by_side-requires : goal.side_by_side-requires
side_by_side-requires c = subst T (sym c.if-all_in_series.true ∙ c.all_in_series.ensures) tt
