-- The law of num_laws/proofs/Parts.antt: y is a value that f64 holds, as each parameter is. Assumes nothing.
use mathlib.Core.Path.{sym, subst}
use lib.Dec.{T}
use Rattle.num_laws.proofs.Parts.{Parted, parted}
use Rattle.num_exponential.proofs.lockstep.part.Goals as goal
use Rattle.num_exponential.proofs.lockstep.part.Goals.{Start}

law : (c : Start) → Parted c.args.y c.args.k c.args.c c.args.h
law c = parted c.args.y c.args.k c.args.c c.args.h (subst T (sym c.well_formed.0.1) tt) c.requires.0 c.requires.1 c.requires.2 c.requires.3

pub float_to_bits-b : goal.float_to_bits-b
float_to_bits-b c = (law (goal.at.float_to_bits-b c).Start).number

pub float_from_bits-q : goal.float_from_bits-q
float_from_bits-q c = (law (goal.at.float_from_bits-q c).Start).pattern

pub returns : goal.returns
returns c = (law (goal.at.returns c).Start).quotient
