-- What was added and what is left make up the total, and 32 lines' milligrams stay below 2⁵⁸. Assumes nothing.
use mathlib.Core.Path.{◌≡◌}
use Prim.Native.Nat.{◌*◌, ◌^◌, ◌≤◌}
use lib.ListN.{drop}
use Rattle.sheet_outcome.specs.Outcome.{total}
use Rattle.sheet_outcome.proofs.Totals.{onto}
use Rattle.sheet_weigh.proofs.total.Given as goal

abbrev pub invariant-loop-mark : goal.invariant-loop-mark
invariant-loop-mark l = (l.sum ≤ l.mark-index * 2 ^ 53) × (total l.mark-items ≡ onto l.sum (total (drop l.mark-index l.mark-items)))
