-- Before the line at i the one array holds the marks of those before it, and the other their cylinder numbers. Assumes nothing.
use mathlib.Core.Path.{◌≡◌}
use Rattle.sheet_weigh.proofs.Knowns.{Known}
use Rattle.sheet_weigh.proofs.Markings.{held}
use Rattle.sheet_weigh.proofs.weigh_all.Given as goal

abbrev pub invariant-loop-i : goal.invariant-loop-i
invariant-loop-i l = (l.marks ≡ held l.limits l.s.lines l.i) × Known l.s.lines l.i l.numbers l.known
