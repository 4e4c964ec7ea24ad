-- Lengths that don't fit leave all as it was; else each turn hands over the next place. Assumes nothing.
use Rattle.interface_states.proofs.Places.{Turn}
use Rattle.interface_states.proofs.put_states.Given as goal

abbrev pub invariant-loop-i : goal.invariant-loop-i
invariant-loop-i l = Turn l.ts l.ps l.initial.answers l.answers l.initial.figures l.figures l.i
