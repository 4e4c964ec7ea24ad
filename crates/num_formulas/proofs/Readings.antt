-- Every reading of the numerics in RULES 8.1 is what stands there, by computation. Assumes nothing.
use mathlib.Core.Path.{◌≡◌, refl}
use mathlib.Core.Bool.{true, false}
use mathlib.Core.List.{[], ◌∷◌, map}
use lib.Ieee as Ieee
use Rattle.num_working.specs.Number.{decimal, fraction, whole}
use Rattle.num_working.specs.Working.{◌-ᵂ◌, ◌*ᵂ◌, ◌/ᵂ◌}
use Rattle.num_powers.specs.Power.{power, ◌^ᵂ◌}
use Rattle.num_exponential.specs.Exponential.{exponential, steps, falling, series, squared}
use Rattle.num_halving.specs.Halving.{halve, narrow, middle}
use Rattle.num_roots.specs.Root.{root, searched, root_bits, power_at}
use Rattle.num_formulas.specs.Formula.{work, absolute}
use Rattle.num_formulas.specs.Readings.{Starred, readings, sayings, sizes}

pub all_read : map (λ (r : Starred). r.worked) readings ≡ map (λ (r : Starred). r.reads) readings
unfolding readings exponential steps falling series squared root searched root_bits power_at halve narrow middle whole
    ◌-ᵂ◌ ◌*ᵂ◌ ◌/ᵂ◌ ◌^ᵂ◌ power Ieee.of_int Ieee.eq Ieee.lt Ieee.le Ieee.neg Ieee.sub Ieee.mul Ieee.div Ieee.to_bits Ieee.of_bits
all_read = refl

pub all_said : sayings ≡ false ∷ true ∷ true ∷ false ∷ false ∷ []
unfolding sayings exponential steps falling series squared decimal fraction whole ◌-ᵂ◌ ◌*ᵂ◌ ◌/ᵂ◌ Ieee.of_int Ieee.round Ieee.lt Ieee.le Ieee.neg Ieee.sub Ieee.mul
    Ieee.div
all_said = refl

sizes_read : map (λ (r : Starred). r.worked) sizes ≡ map (λ (r : Starred). r.reads) sizes
unfolding sizes work absolute whole Ieee.of_int Ieee.lt Ieee.neg
sizes_read = refl
