-- Each turn of the loop is a turn of the definition, on numbers that are tested once at the end; l.k is 1 above the next k. Assumes nothing.
use mathlib.Core.Path.{◌≡◌}
use Prim.Native.Nat.{◌≤◌, ◌-◌}
use Rattle.num_working.specs.Number.{whole}
use Rattle.num_working.specs.Working.{checked}
use Rattle.num_exponential.specs.Exponential.{series}
use Rattle.num_exponential.proofs.exponential.series.Given as goal

abbrev pub invariant-loop-k : goal.invariant-loop-k
invariant-loop-k l = (1 ≤ l.k) × (l.k ≤ 15) × (series (checked l.fn.y) 14 (checked (whole 1)) ≡ series (checked l.fn.y) (l.k - 1) (checked l.s))
