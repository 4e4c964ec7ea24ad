-- A saturated density that was worked is finite, above 0, and so has no minus sign. Assumes nothing.
use Rattle.std.specs.Prelude.{Some, None}
use Prim.Native.Nat.{ℕ}
use mathlib.Core.Path.{◌≡◌, sym, subst}
use mathlib.Core.Bool.{true, false, true≢false}
use native.Mathlib.Omega.{arith}
use lib.Dec.{T}
use lib.Ieee.{Float, nan, inf, fin, lt, of_int}
use lib.Ieee.Scale.{finite}
use Rattle.num_working.specs.Number.{whole, nonneg}
use Rattle.num_working.specs.Working.{Worked}
use Rattle.num_working.proofs.Cases.{by_test}
use Rattle.num_formulas.specs.Formula.{Formula, num, ◌⊗◌, e^, work}
use Rattle.num_working.proofs.Sound.{sound}
use Rattle.num_formulas.proofs.Formulas.{work_sound}
use Rattle.eos_constants.specs.Constant.{span_wagner}
use Rattle.eos_saturation.specs.Saturation.{theta}
use Rattle.eos_densities.specs.Density.{liquid_sum, vapour_sum, above_zero, density_of, liquid_density, vapour_density}

-- above 0 is no minus sign
above_nonneg : (x : Float) → T (finite x) → lt (whole 0) x ≡ true → T (nonneg x)
unfolding lt whole of_int
above_nonneg nan f h = f
above_nonneg (inf s) f h = f
above_nonneg (fin false m e) f h = tt
above_nonneg (fin true m e) f h = absurd (true≢false (sym h))

-- where w is a number, it has no minus sign
abbrev Nonneg : Worked → Type 0
Nonneg w = (d : Float) → w ≡ Some d → T (nonneg d)

failed : Nonneg None
failed d e = let z : ◌≡◌ {A = ℕ} 0 1 = cc in absurd (omega arith)

number : (x : Float) → T (nonneg x) → Nonneg (Some x)
number x h d e = let q : x ≡ d = cc in subst (λ (y : Float). T (nonneg y)) q h

above : (w : Worked) → T (sound w) → Nonneg (above_zero w)
above None s = failed
above (Some x) s = by_test Nonneg (lt (whole 0) x) (Some x) None (λ h. number x (above_nonneg x s h)) (λ h. failed)

density_nonneg : (sum : Formula) → Nonneg (density_of sum)
unfolding density_of
density_nonneg sum = above (work (num span_wagner.density ⊗ e^ sum)) (work_sound (num span_wagner.density ⊗ e^ sum))

pub liquid_nonneg : (t d : Float) → liquid_density t ≡ Some d → T (nonneg d)
unfolding liquid_density
liquid_nonneg t = density_nonneg (liquid_sum (theta t))

pub vapour_nonneg : (t d : Float) → vapour_density t ≡ Some d → T (nonneg d)
unfolding vapour_density
vapour_nonneg t = density_nonneg (vapour_sum (theta t))
