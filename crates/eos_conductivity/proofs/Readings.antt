-- Each sample point is what stands there, by computation. Assumes nothing.
use mathlib.Core.Path.{◌≡◌, refl}
use mathlib.Core.Bool.{true}
use mathlib.Core.List.{[], ◌∷◌}
use lib.Ieee as Ieee
use Rattle.num_working.specs.Number.{decimal, fraction, whole}
use Rattle.num_working.specs.Working.{◌+ᵂ◌, ◌-ᵂ◌, ◌*ᵂ◌, ◌/ᵂ◌}
use Rattle.num_powers.specs.Power.{power, ◌^ᵂ◌}
use Rattle.num_exponential.specs.Exponential.{exponential, steps, falling, series, squared}
use Rattle.num_halving.specs.Halving.{halve, narrow, middle}
use Rattle.num_roots.specs.Root.{root, searched, root_bits, power_at}
use Rattle.num_formulas.specs.Formula.{work}
use Rattle.eos_constants.specs.Constant.{span_wagner}
use Rattle.eos_conductivity.specs.Conductivity.{dilute, residual, exponent, enhancement, conductivity_at, background_at, dilute_at}
use Rattle.eos_conductivity.specs.Readings.{within, samples}

pub all_sampled : samples ≡ true ∷ true ∷ true ∷ []
unfolding samples within conductivity_at background_at dilute_at dilute residual exponent enhancement span_wagner work decimal fraction whole
    exponential steps falling series squared root searched root_bits power_at halve narrow middle ◌+ᵂ◌ ◌-ᵂ◌ ◌*ᵂ◌ ◌/ᵂ◌ ◌^ᵂ◌ power
    Ieee.of_int Ieee.round Ieee.eq Ieee.lt Ieee.le Ieee.neg Ieee.add Ieee.sub Ieee.mul Ieee.div Ieee.to_bits Ieee.of_bits
all_sampled = refl
