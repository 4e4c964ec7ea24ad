-- What is searched for has no minus sign. Assumes nothing.
use mathlib.Core.Path.{sym, ◌∙◌}
use Rattle.num_roots.proofs.Searchables.{unsigned}
use Rattle.num_roots.proofs.root.root.Goals as goal

pub about_log-requires : goal.about_log-requires
about_log-requires c = unsigned c.args.e _ (rw (sym c.searchable.ensures ∙ c.if-searchable.true) tt)
