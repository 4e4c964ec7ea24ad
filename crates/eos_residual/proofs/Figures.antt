-- A row's figures as code works them, from the columns and arrays at the row's place, are the definition's. Assumes nothing.
use Rattle.std.specs.Prelude.{None}
use mathlib.Core.Path.{◌≡◌, refl, sym, ap, ◌∙◌}
use mathlib.Core.List.{List}
use Prim.Native.Nat.{ℕ, zero, suc, ◌+◌, ◌-◌, ◌<◌}
use native.Mathlib.Omega.{arith}
use lib.Dec.{ltb, ltb→lt}
use lib.ListN.{length, get_or}
use lib.Ieee.{Float, nan, binary64, mul}
use Rattle.num_working.specs.Number.{whole}
use Rattle.num_powers.specs.Power.{powers}
use Rattle.num_powers.proofs.Powers.{powers_at}
use Rattle.num_working.specs.Working.{Worked}
use Rattle.num_formulas.specs.Formula.{Formula, num, ◌⊗◌, ◌^^◌, value, work}
use Rattle.num_formulas.proofs.Formulas.{once}
use Rattle.eos_rows.specs.declared.Gaussian.{Gaussian}
use Rattle.eos_rows.specs.Row.{Exponential, polynomials, row7, exponentials, row34, gaussians, row39}
use Rattle.eos_rows.specs.Column.{coefficients, delta_powers, tau_quarters, decay_powers}
use Rattle.eos_rows.proofs.Places.{everywhere, below}
use Rattle.eos_rows.proofs.Table.{seven, twenty_seven, five_bells, get_d_map_lt, of_polynomial, of_exponential}
use Rattle.eos_isotherm.specs.Isotherm.{bell_at}
use Rattle.eos_isotherm.specs.declared.Isotherm.{Isotherm}
use Rattle.eos_brackets.specs.Derivative.{Derivative, of, five}
use Rattle.eos_brackets.specs.Bracket as Bracket
use Rattle.eos_brackets.specs.declared.Five.{Five}
use Rattle.eos_brackets.proofs.Derivatives.{of_five}
use Rattle.eos_terms.specs.Term.{numbered, polynomial_term, polynomial_bracket, exponential_term, exponential_bracket, gaussian_term, gaussian_bracket, in_quarters, decay, decays, bell, bells}
use Rattle.eos_residual.specs.Sum.{polynomial_figure, polynomial_figures, exponential_figure, exponential_figures, gaussian_figure, gaussian_figures}
use Rattle.eos_residual.proofs.Sums.{At, length_numbered, get_d_numbered}

-- ---- one law for the three kinds: a term and brackets that are the values of those of the row at place i
module _ {A : Type 0} (term : ℕ → A → Formula) (bracket : A → Derivative → Formula) (j : ℕ) (rs : List A) (z : A) where
  abbrev figure : Derivative → ℕ → A → Worked
  figure k n r = work (term n r ⊗ bracket r k)

  placed : (i : ℕ) (r : A) (t : Float) (b : Five) → i < length rs → r ≡ get_or rs i z
      → t ≡ value (term (j + i) r) → b ≡ five (λ k. value (bracket r k))
      → At (λ k. numbered (figure k) j rs) i t (of b)
  unfolding value
  placed i r t b h e p q k =
      let there = get_or rs i z in (
        rw (length_numbered (figure k) j rs) h,
        rw (p, q, of_five (λ m. value (bracket r m)) k, e)
            (once (term (j + i) there ⊗ bracket there k) ∙ sym (get_d_numbered (figure k) j rs i z None h)),
      )

-- ---- each row's exponents have their places in the arrays: one test over a table
delta_small : (i : ℕ) → get_or delta_powers i 0 < 11
unfolding delta_powers polynomials exponentials
delta_small = below (λ (d : ℕ). d) 11 delta_powers 0 tt tt

decay_small : (i : ℕ) → get_or decay_powers i 0 < 7
unfolding decay_powers exponentials
decay_small = below (λ (c : ℕ). c) 7 decay_powers 0 tt tt

decay_some : (i : ℕ) → i < 27 → 0 < get_or decay_powers i 0
unfolding decay_powers exponentials
decay_some i h =
    rw (get_d_map_lt (λ (r : Exponential). r.c) exponentials i row34 0 (rw twenty_seven h))
    (ltb→lt 0 _ (everywhere (λ (r : Exponential). ltb 0 r.c) exponentials row34 tt tt i))

-- by a column that code holds
pub delta_by : {ds : List ℕ} → ds ≡ delta_powers → (i : ℕ) → get_or ds i 0 < 11
delta_by d i = rw d (delta_small i)

-- of a row of 8 to 34 by its columns
pub record Placed (d c : ℕ) : Type 0 where
  pub d_small : d < 11
  pub c_some : 0 < c
  pub c_small : c < 7

pub placed_by : {ds cs : List ℕ} → ds ≡ delta_powers → cs ≡ decay_powers → (i : ℕ) → i < 27 → Placed (get_or ds (7 + i) 0) (get_or cs i 0)
placed_by d c i h = rw (d, c) record { d_small = delta_small (7 + i); c_some = decay_some i h; c_small = decay_small i }

pub gaussian_small : (i : ℕ) → (get_or gaussians i row39).d < 11
unfolding gaussians
gaussian_small = below (λ (r : Gaussian). r.d) 11 gaussians row39 tt tt

-- ---- the exponentials e^(−δᶜ), at c − 1
decays_at : (delta : Float) (c : ℕ) → 0 < c → c < 7 → get_or (decays delta) (c - 1) nan ≡ value (decay delta c)
unfolding decays
decays_at delta zero h l = absurd (omega arith)
decays_at delta (suc zero) h l = refl
decays_at delta (suc (suc zero)) h l = refl
decays_at delta (suc (suc (suc zero))) h l = refl
decays_at delta (suc (suc (suc (suc zero)))) h l = refl
decays_at delta (suc (suc (suc (suc (suc zero))))) h l = refl
decays_at delta (suc (suc (suc (suc (suc (suc zero)))))) h l = refl
decays_at delta (suc (suc (suc (suc (suc (suc (suc c))))))) h l = absurd (omega arith)

module _ (iso : Isotherm) (delta : Float) where
  pub polynomial_length : (k : Derivative) → length (polynomial_figures iso delta k) ≡ 7
  unfolding polynomial_figures
  polynomial_length k = length_numbered (polynomial_figure iso delta k) 0 polynomials ∙ seven

  pub exponential_length : (k : Derivative) → length (exponential_figures iso delta k) ≡ 27
  unfolding exponential_figures
  exponential_length k = length_numbered (exponential_figure iso delta k) 7 exponentials ∙ twenty_seven

  pub gaussian_length : (k : Derivative) → length (gaussian_figures iso delta k) ≡ 5
  unfolding gaussian_figures
  gaussian_length k = length_numbered (gaussian_figure iso delta k) 34 gaussians ∙ five_bells

  bells_at : (i : ℕ) → i < 5 → get_or (bells iso.bell delta) i nan ≡ value (bell delta (get_or iso.bell (bell_at i) nan) (get_or gaussians i row39))
  unfolding bells
  bells_at i h =
      let its : ℕ → Gaussian → Float = λ n r. value (bell delta (get_or iso.bell (bell_at n) nan) r) in
      let z : 0 + i ≡ i = omega arith in
      get_d_numbered its 0 gaussians i row39 nan (rw five_bells h) ∙ ap (λ (n : ℕ). its n (get_or gaussians i row39)) z

  -- ---- what code has of a row at place i, from ys, xs and es or bs
  module _ {ys xs : List Float} (y : iso.powers ≡ ys) (x : powers 10 delta ≡ xs) (i : ℕ) where
    -- (n·δᵈ)·τᵗ, with τᵗ at place j
    abbrev pub start : Float → ℕ → ℕ → Float
    start n k j = mul binary64 (mul binary64 n (get_or xs k nan)) (get_or ys j nan)

    module _ {ns : List Float} {ds qs : List ℕ} (n : ns ≡ coefficients) (d : ds ≡ delta_powers) (q : qs ≡ tau_quarters) where
      pub polynomial_placed : {t : Float} {b : Five} → i < 7 → t ≡ value (in_quarters (get_or qs i 0))
          → b ≡ five (λ k. value (Bracket.polynomial (num (whole (get_or ds i 0))) (num t) k))
          → At (polynomial_figures iso delta) i (start (get_or ns i nan) (get_or ds i 0) i) (of b)
      unfolding polynomial_figures polynomial_term polynomial_bracket coefficients delta_powers tau_quarters Bracket.polynomial value
      polynomial_placed h e f =
          let r = get_or polynomials i row7 in
          let N = of_polynomial (λ s. s.n) (λ s. s.n) i nan h in
          let D = of_polynomial (λ s. s.d) (λ s. s.d) i 0 h in
          let Q = of_polynomial (λ s. s.q) (λ s. s.q) i 0 h in
          let s : r.d < 11 = rw (← D) (delta_small i) in
          let z : 0 + i ≡ i = omega arith in
          placed (λ m. polynomial_term delta (get_or iso.powers m nan)) polynomial_bracket 0 polynomials row7 i r _ _ (rw seven h) refl
          (rw (n, d, N, D, ← x, ← y, z, powers_at 10 r.d delta (omega arith)))
          (rw (f, e, d, q, D, Q))

      pub exponential_placed : {cs : List ℕ} {es : List Float} {t : Float} {b : Five} → cs ≡ decay_powers → decays delta ≡ es → i < 27
          → t ≡ value (in_quarters (get_or qs (7 + i) 0))
          → b ≡ five (λ k. value (Bracket.exponential (num (whole (get_or ds (7 + i) 0))) (num t) (num (whole (get_or cs i 0))) (num (get_or xs (get_or cs i 0) nan)) k))
          → At (exponential_figures iso delta) i (mul binary64 (start (get_or ns (7 + i) nan) (get_or ds (7 + i) 0) (7 + i)) (get_or es (get_or cs i 0 - 1) nan)) (of b)
      unfolding exponential_figures exponential_term exponential_bracket coefficients delta_powers tau_quarters decay_powers Bracket.exponential value
      exponential_placed c g h e f =
          let r = get_or exponentials i row34 in
          let N = of_exponential (λ s. s.n) (λ s. s.n) i nan h in
          let D = of_exponential (λ s. s.d) (λ s. s.d) i 0 h in
          let Q = of_exponential (λ s. s.q) (λ s. s.q) i 0 h in
          let C = get_d_map_lt (λ (s : Exponential). s.c) exponentials i row34 0 (rw twenty_seven h) in
          let u : r.d < 11 = rw (← D) (delta_small (7 + i)) in
          let v : r.c < 7 = rw (← C) (decay_small i) in
          let w : 0 < r.c = rw (← C) (decay_some i h) in
          placed (λ m. exponential_term delta (get_or iso.powers m nan)) (λ s. exponential_bracket (num delta ^^ s.c) s)
          7 exponentials row34 i r _ _ (rw twenty_seven h) refl
          (rw (n, d, c, N, D, C, ← x, ← y, ← g, powers_at 10 r.d delta (omega arith), decays_at delta r.c w v))
          (rw (f, e, d, q, c, D, Q, C, ← x, powers_at 10 r.c delta (omega arith)))

    pub gaussian_placed : {bs : List Float} {r : Gaussian} {t : Float} {b : Five} → bells iso.bell delta ≡ bs → i < 5 → r ≡ get_or gaussians i row39
        → t ≡ value (in_quarters r.q)
        → b ≡ five (λ k. value (Bracket.gaussian (num (whole r.d)) (num t) (num r.alpha) (num r.beta) (num r.gamma) (num r.epsilon)
        (num delta) (num iso.tau) k))
        → At (gaussian_figures iso delta) i (mul binary64 (start r.n r.d (34 + i)) (get_or bs i nan)) (of b)
    unfolding gaussian_figures gaussian_term gaussian_bracket Bracket.gaussian value
    gaussian_placed {r = r} g h e f q =
        let s : r.d < 11 = rw e (gaussian_small i) in
        let z : 34 + i - 34 ≡ i = omega arith in
        placed (λ n. gaussian_term delta (get_or iso.powers n nan) (get_or iso.bell (bell_at (n - 34)) nan)) (gaussian_bracket delta iso.tau)
        34 gaussians row39 i r _ _ (rw five_bells h) e
        (rw (← x, ← y, ← g, powers_at 10 r.d delta (omega arith), bells_at i h, e, z)) (rw (q, f))
