-- What is searched for has no minus sign. Assumes nothing.
use Rattle.num_roots.proofs.Searchables.{unsigned}
use Rattle.num_roots.proofs.side.three_searched.Goals as goal

pub about_log-l-requires : goal.about_log-l-requires
about_log-l-requires c = unsigned _ _ c.requires.0

pub about_log-requires : goal.about_log-requires
about_log-requires c = unsigned _ _ c.requires.2
