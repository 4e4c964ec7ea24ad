-- The powers of τ, place by place. Assumes nothing.
use mathlib.Core.Path.{◌≡◌, refl, sym, ap, ◌∙◌}
use mathlib.Core.List.{List, [], ◌∷◌, ◌++◌, map}
use Prim.Native.Nat.{ℕ, ◌+◌, ◌-◌, ◌/◌, ◌%◌, ◌<◌, ◌≤◌}
use native.Mathlib.Omega.{arith}
use lib.ListN.{length, get_or, take, drop, get_or-append}
use lib.Seq.{get_or-append-add}
use lib.Ieee.{Float, nan, binary64, mul}
use Rattle.num_powers.specs.Power.{powers}
use Rattle.num_powers.proofs.Powers.{powers_at}
use Rattle.num_formulas.specs.Formula.{value}
use Rattle.eos_rows.specs.Row.{polynomials, exponentials, gaussians, row39, non_analytics, row40}
use Rattle.eos_rows.specs.Column.{tau_quarters}
use Rattle.eos_rows.specs.declared.Gaussian.{Gaussian}
use Rattle.eos_rows.specs.declared.NonAnalytic.{NonAnalytic}
use Rattle.eos_rows.proofs.Places.{below}
use Rattle.eos_rows.proofs.Table.{five_bells, get_d_map_lt}
use Rattle.eos_isotherm.specs.Isotherm.{quarters, tau_power, tau_powers, bell_at}

-- ---- the quarters of rows 1 to 39: the column of rows 1 to 34, and rows 35 to 39 behind it
abbrev of_gaussians : List ℕ
of_gaussians = map (λ (r : Gaussian). r.q) gaussians

column_length : length tau_quarters ≡ 34
unfolding tau_quarters polynomials exponentials
column_length = refl

module _ (i : ℕ) where
  pub of_column : i < 34 → get_or tau_quarters i 0 ≡ get_or quarters i 0
  unfolding quarters
  of_column h = sym (get_or-append tau_quarters of_gaussians 0 i (rw column_length h))

  pub of_gaussian : 34 ≤ i → i < 39 → (get_or gaussians (i - 34) row39).q ≡ get_or quarters i 0
  unfolding quarters
  of_gaussian h l =
      let p : length tau_quarters + (i - 34) ≡ i = rw column_length (omega arith) in
      sym (get_d_map_lt (λ (r : Gaussian). r.q) gaussians (i - 34) row39 0 (rw five_bells (omega arith)))
      ∙ sym (get_or-append-add tau_quarters of_gaussians (i - 34) 0)
      ∙ ap (λ (j : ℕ). get_or (tau_quarters ++ of_gaussians) j 0) p

pub count : length quarters ≡ 39
unfolding quarters tau_quarters polynomials exponentials gaussians
count = refl

-- no exponent is above 28: one test over the whole table
pub small : (i : ℕ) → get_or quarters i 0 < 113
unfolding quarters tau_quarters polynomials exponentials gaussians
small = below (λ (j : ℕ). j) 113 quarters 0 tt tt

-- the product at a place, from the arrays of powers, is the row's power
pub power_there : (tau quarter : Float) (i j : ℕ) → i < 39 → j ≡ get_or quarters i 0
    → mul binary64 (get_or (powers 28 tau) (j / 4) nan) (get_or (powers 3 quarter) (j % 4) nan) ≡ get_or (tau_powers tau quarter) i nan
unfolding tau_powers tau_power value
power_there tau quarter i j h e =
    let s : j < 113 = rw e (small i) in
    let a = powers_at 28 (j / 4) tau (omega arith) in
    let b = powers_at 3 (j % 4) quarter (omega arith) in
    sym (get_d_map_lt (λ (n : ℕ). value (tau_power tau quarter n)) quarters i 0 nan (rw count h) ∙ rw (← e, ← a, ← b) refl)

-- ---- Table 31 has one D for rows 40 to 42
pub one_D : map (λ (r : NonAnalytic). r.kd) non_analytics ≡ map (λ (r : NonAnalytic). row40.kd) non_analytics
unfolding non_analytics
one_D = refl

-- the numbers of a row's bell: α, β, γ, ε
abbrev bell_numbers : Gaussian → List Float
bell_numbers r = r.alpha ∷ r.beta ∷ r.gamma ∷ r.epsilon ∷ []

-- Table 31's rows 35 to 39 have four bells, each row's where `bell_at` says
pub four_bells : map bell_numbers gaussians
    ≡ map (λ (i : ℕ). get_or (map bell_numbers (take 2 gaussians ++ drop 3 gaussians)) (bell_at i) []) (0 ∷ 1 ∷ 2 ∷ 3 ∷ 4 ∷ [])
unfolding gaussians
four_bells = refl
