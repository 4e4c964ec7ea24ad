-- Either way the series is the definition's, and so are the squarings; the number is tested once at the end. Assumes nothing.
use mathlib.Core.Path.{sym, ap, ◌∙◌, subst}
use lib.Dec.{T}
use lib.Ieee.{neg, of_bits, of_int, round}
use Rattle.num_working.specs.Number.{whole}
use Rattle.num_exponential.specs.Exponential.{squared}
use Rattle.num_exponential.proofs.Exponentials.{falling_is}
use Rattle.num_exponential.proofs.Decays.{range}
use Rattle.num_exponential.proofs.exponential.falling.Goals as goal

pub eased-requires : goal.eased-requires
unfolding whole of_bits of_int round
eased-requires c = range (neg c.args.x) (subst T (sym c.if-in_series.true ∙ c.in_series.ensures) tt)

pub returns-then-in_series : goal.returns-then-in_series
unfolding whole of_bits of_int round
returns-then-in_series c =
    c.checked.ensures
    ∙ c.squared.ensures
    ∙ ap (squared 10) c.eased.ensures
    ∙ sym (falling_is c.args.x)

pub returns : goal.returns
unfolding whole of_bits of_int round
returns c =
    c.checked-2.ensures
    ∙ c.squared-2.ensures
    ∙ ap (squared 10) c.series.ensures
    ∙ sym (falling_is c.args.x)
