-- Four of the quotients are a quotient by less times a power of two; the rest is the definition as it stands. Assumes nothing.
use mathlib.Core.Path.{sym, ap, ◌∙◌}
use native.Mathlib.Omega.{arith}
use lib.Ieee.{le, of_bits, of_int, round}
use lib.Ieee.Fits.{and_i}
use Rattle.num_working.specs.Number.{decimal, fraction, whole}
use Rattle.num_working.specs.Working.{checked}
use Rattle.num_laws.specs.Quotient.{normal}
use Rattle.num_exponential.proofs.Exponentials.{series_chain}
use Rattle.num_exponential.proofs.Steps.{seven, eased, eased_is}
use Rattle.num_exponential.proofs.exponential.eased.Goals as goal

pub returns : goal.returns
unfolding normal eased seven fraction whole of_bits of_int round
returns c =
    let y = c.args.y in
    ap checked (eased_is y (and_i (le (decimal 1 250) y) (le y (whole 1)) c.requires.0 c.requires.1))
    ∙ sym (series_chain y 14 (whole 1) (omega arith))
