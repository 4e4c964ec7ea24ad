-- Up to the critical temperature the saturated vapour is no denser than the critical density: each term of its sum has a minus sign. Assumes nothing.
use Rattle.std.specs.Prelude.{Some, None}
use lib.Ieee.{Float, binary64, round, of_int, neg, mul, lt, le}
use Rattle.num_working.specs.Number.{decimal, fraction, whole}
use Rattle.num_working.specs.Working.{checked, or_else, ◌/ᵂ◌, Worked}
use Rattle.num_working.proofs.Cases.{by_test}
use Rattle.num_laws.proofs.Orders.{Ordered}
use Rattle.num_exponential.specs.Exponential.{steps}
use Rattle.num_formulas.specs.Formula.{Formula, num, ◌⊗◌, e^, work}
use Rattle.num_formulas.proofs.Formulas.{exp_is}
use Rattle.eos_constants.specs.Constant.{span_wagner}
use Rattle.eos_saturation.specs.Saturation.{theta}
use Rattle.eos_densities.specs.Density.{vapour_sum, above_zero, density_of, vapour_density}
use Rattle.eos_densities.proofs.Bounds.{UpTo, in_order, further, number_up_to, product_up_to, quotient_up_to_1, rest_up_to_1, steps_up_to_1}
use Rattle.eos_densities.proofs.Signs.{Plus, Minus, minus_times, minus_added, plus_times, plus_power, plus_root}

-- ---- θ, which has no minus sign there
theta_up_to_1 : (t : Float) → Ordered t span_wagner.temperature → UpTo (whole 1) (work (theta t))
unfolding work span_wagner decimal fraction round
theta_up_to_1 t o =
    let c = span_wagner.temperature in
    rest_up_to_1 (checked t /ᵂ checked c) (quotient_up_to_1 (checked t) c (number_up_to t c o) tt)

plus_of : (c : Float) (w : Worked) → UpTo c w → Plus w
plus_of c None u = tt
plus_of c (Some x) u = u.first

-- ---- the sum
vapour_sum_minus : (θ : Formula) → Plus (work θ) → Minus (work (vapour_sum θ))
unfolding vapour_sum work decimal fraction round neg
vapour_sum_minus θ p =
    minus_added _ _
    (minus_added _ _
    (minus_added _ _
    (minus_added _ _
    (minus_times _ _ tt (plus_root _ θ))
    (minus_times _ _ tt (plus_root _ θ)))
    (minus_times _ _ tt p))
    (minus_times _ _ tt (plus_times _ _ (plus_power (work θ) 2 p) (plus_root _ θ))))
    (minus_times _ _ tt (plus_times _ _ (plus_power (work θ) 4 p) (plus_root _ θ)))

-- ---- the density
exp_up_to_1 : (a : Formula) → Minus (work a) → UpTo (whole 1) (work (e^ a))
exp_up_to_1 a h = rw (exp_is a) (go (work a) h)
  where
    go : (w : Worked) → Minus w → UpTo (whole 1) (or_else w None steps)
    go None m = tt
    go (Some x) m = steps_up_to_1 x m

above_up_to : (c : Float) (w : Worked) → UpTo c w → UpTo c (above_zero w)
above_up_to c None u = tt
above_up_to c (Some x) u = by_test (UpTo c) (lt (whole 0) x) (Some x) None (λ _. u) (λ _. tt)

density_up_to : (a : Formula) → Minus (work a) → UpTo span_wagner.density (density_of a)
unfolding density_of work span_wagner decimal fraction le mul whole of_int round
density_up_to a h =
    let c = span_wagner.density in
    let w = work (num c ⊗ e^ a) in
    above_up_to c w
    (further (mul binary64 c (whole 1)) c w (in_order tt) (product_up_to c (whole 1) (work (num c)) (work (e^ a)) tt (in_order tt) (exp_up_to_1 a h)))

-- where it is a number, it lies from 0 to 467.6 kg/m³, at temperatures up to the critical one
pub vapour_most : (t : Float) → Ordered t span_wagner.temperature → UpTo span_wagner.density (vapour_density t)
unfolding vapour_density
vapour_most t o = density_up_to (vapour_sum (theta t)) (vapour_sum_minus (theta t) (plus_of (whole 1) (work (theta t)) (theta_up_to_1 t o)))
