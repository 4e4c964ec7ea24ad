-- RULES 4.5 and 5.1: the search for a density, with the pressure worked as the figure and the one asked as the target. Definitions only.
use Rattle.refusal.specs.Refused.{refused}
use Rattle.num_halving.specs.declared.Missed.TheVariants.{Nowhere, Broke}
use Rattle.std.specs.Prelude.{Float, Ok, Err}
use Rattle.std.specs.Float.{binary64}
use Rattle.std.specs.Float.Ieee.{of_bits, to_bits}
use Rattle.num_working.specs.Working.{Worked}
use Rattle.num_halving.specs.Halving.{Figure, halve, Crossing}
use Rattle.eos_state.specs.State.{Stated}
use Rattle.door_answers.specs.Answer.{answer_with, Answer}

-- the pressure at the density with the bits b
abbrev pub figure : (Float → Worked) → Figure
figure pressure b = pressure (of_bits binary64 b)

-- the state at the density found; no crossing is 9, and a figure that is not finite is 7
abbrev pub found : (Float → Stated) → Crossing → Answer
found state (Ok b) = answer_with (state (of_bits binary64 b))
found state (Err Nowhere) = refused 9
found state (Err Broke) = refused 7

-- over the floats from one density to another, with the pressure and the state at a density on the temperature's curve
unfoldable pub searched : (Float → Worked) → (Float → Stated) → Float → Float → Float → Answer
searched pressure state from to p = found state (halve (figure pressure) p (to_bits binary64 from) (to_bits binary64 to))
