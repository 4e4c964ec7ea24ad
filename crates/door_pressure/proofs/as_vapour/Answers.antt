-- Each step is the definition's; the end that was worked can be searched to. Assumes nothing.
use Rattle.std.specs.Prelude.{Some}
use mathlib.Core.Path.{◌≡◌, sym, subst, ◌∙◌}
use native.Mathlib.Omega.{arith}
use Rattle.equation.proofs.Laws.{lawful}
use Rattle.door_pressure.specs.PressureDoor.{scaled}
use Rattle.door_pressure.proofs.Doors.{Searchable, searchable, scaled_reached}
use Rattle.door_pressure.proofs.as_vapour.Goals as goal

pub search_at-requires : goal.search_at-requires
search_at-requires c =
    let ends = c.search_ends-ends.result in
    let s = subst Searchable (sym c.search_ends-ends.ensures) searchable in
    let e : scaled ends.vapour c.vapour_density.result ≡ Some c.in_ok-to.to = grind arith in
    let x = scaled_reached ends.vapour _ _ s.vapour (λ d h. lawful.vapour c.args.t d (sym c.vapour_density.ensures ∙ h)) e in
    record { from_nonneg = s.from.nonneg; to_nonneg = x.nonneg; to_fits = x.fits }
