-- The crossing is the definition's, and the state is worked there. Assumes nothing.
use mathlib.Core.Path.{sym, ◌∙◌}
use native.Mathlib.Omega.{arith}
use lib.Ieee.{binary64, to_bits}
use Rattle.num_working.proofs.Numbers.{no_nan, nonneg_no_nan}
use Rattle.num_halving.proofs.Halvings.{answer}
use Rattle.equation.specs.Equation.{pressure_on}
use Rattle.door_pressure.specs.Search.{figure}
use Rattle.door_pressure.proofs.Searches.{bits_below}
use Rattle.door_pressure.proofs.search.search_at.Goals as goal

pub float_to_bits-from : goal.float_to_bits-from
float_to_bits-from c = nonneg_no_nan c.args.from c.requires.from_nonneg

pub float_to_bits-top : goal.float_to_bits-top
float_to_bits-top c = nonneg_no_nan c.args.to c.requires.to_nonneg

pub float_from_bits-b : goal.float_from_bits-b
float_from_bits-b c =
    let a = c.args in
    let h = bits_below a.to c.requires.to_nonneg c.requires.to_fits in
    let e = sym c.halve.ensures ∙ c.in-Ok.is in
    let f = answer (figure (pressure_on c.curve_at.result)) a.p (to_bits binary64 a.from) _ _ (omega arith) e in
    let l = f.to in
    no_nan _ (omega arith)
