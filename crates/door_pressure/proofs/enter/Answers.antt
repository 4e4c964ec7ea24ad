-- Each step is the definition's; the ends can be searched between. Assumes nothing.
use mathlib.Core.Path.{sym, subst}
use Rattle.door_pressure.proofs.Doors.{Searchable, searchable}
use Rattle.door_pressure.proofs.enter.Goals as goal

pub search_at-requires : goal.search_at-requires
search_at-requires c = let s = subst Searchable (sym c.search_ends-ends.ensures) searchable in record { from_nonneg = s.from.nonneg; to_nonneg = s.to.nonneg; to_fits = s.to.fits }
