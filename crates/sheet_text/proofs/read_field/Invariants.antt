-- What stands at the place decides; then what was read so far goes on with the digits that are left. Assumes nothing.
use Prim.Native.Nat.{◌<◌}
use mathlib.Core.Path.{◌≡◌}
use lib.ListN.{length, drop}
use Rattle.sheet_text.specs.Field.{field, digits_after}
use Rattle.sheet_text.proofs.read_field.Given as goal

abbrev pub invariant-loop-i : goal.invariant-loop-i
invariant-loop-i l = (l.at < length l.s) × (l.v < 10_000_000_000) × (l.at < l.i) × (field (drop l.at l.s) ≡ digits_after l.v (drop l.i l.s))
