-- Every count is what stands there, by computation: what an exponential says hangs on its argument alone, so that none has to be worked. Assumes nothing.
use Prim.Native.Nat.{ℕ}
use mathlib.Core.Path.{◌≡◌, refl, ◌∙◌}
use mathlib.Core.List.{List, [], ◌∷◌, map}
use lib.Ieee as Ieee
use lib.Ieee.{Float}
use Rattle.num_working.specs.Number.{decimal, fraction, whole}
use Rattle.num_powers.specs.Power.{power}
use Rattle.num_formulas.specs.Formula.{Formula, value}
use Rattle.eos_constants.specs.Constant.{span_wagner}
use Rattle.eos_constants.specs.Reduced as Reduced
use Rattle.eos_rows.specs.Row.{exponentials, gaussians, non_analytics}
use Rattle.eos_isotherm.specs.Isotherm.{bell_tau, psi_tau}
use Rattle.eos_terms.specs.Fallen.{row_sums, fallen_at}
use Rattle.eos_terms.specs.Readings.{Counted, readings}
use Rattle.eos_terms.proofs.Counts.{quick, quickly}

abbrev sums_at : Float → Float → List Formula
sums_at t rho = let tau = value (Reduced.tau t) in row_sums (Reduced.delta rho) (λ (i : ℕ). bell_tau tau) (psi_tau tau)

abbrev quickly_at : Float → Float → ℕ
quickly_at t rho = quickly (sums_at t rho)

quick_at : (t rho : Float) → fallen_at t rho ≡ quickly_at t rho
unfolding fallen_at
quick_at t rho = quick (sums_at t rho)

each : (l : List Counted) → map (λ (r : Counted). fallen_at r.temperature r.density) l ≡ map (λ (r : Counted). quickly_at r.temperature r.density) l
each [] = refl
each (r ∷ l) = rw (quick_at r.temperature r.density, each l) refl

computed : map (λ (r : Counted). quickly_at r.temperature r.density) readings ≡ map (λ (r : Counted). r.fallen) readings
unfolding readings row_sums value decimal fraction whole span_wagner exponentials gaussians non_analytics bell_tau psi_tau power
    Ieee.of_int Ieee.round Ieee.lt Ieee.neg Ieee.add Ieee.sub Ieee.mul Ieee.div
computed = refl

pub all_counted : map (λ (r : Counted). fallen_at r.temperature r.density) readings ≡ map (λ (r : Counted). r.fallen) readings
all_counted = each readings ∙ computed
