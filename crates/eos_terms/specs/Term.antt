-- The terms and brackets of rows 1 to 39 (docs/ARRANGEMENT.md, sections 2 to 5; 004, Tables 31 and 32); what is worked once for a density. Definitions only.
use Rattle.std.specs.Prelude.{ℕ, suc, List, [], ◌∷◌, map, get_or, Float}
use Rattle.std.specs.Float.{nan}
use Rattle.num_working.specs.Number.{whole}
use Rattle.num_powers.specs.Power.{power, powers}
use Rattle.num_formulas.specs.Formula.{Formula, num, ◌⊕◌, ◌⊖◌, ◌⊗◌, ◌⊘◌, ◌^^◌, minus, e^, value}
use Rattle.eos_brackets.specs.Derivative.{Derivative}
use Rattle.eos_brackets.specs.Bracket as Bracket
use Rattle.eos_rows.specs.Row.{Polynomial, Exponential, gaussians, row39, non_analytics, row40, row42}
use Rattle.eos_rows.specs.declared.Gaussian.{Gaussian}
use Rattle.eos_rows.specs.declared.NonAnalytic.{NonAnalytic}
use Rattle.eos_isotherm.specs.Isotherm.{bell_at}
use Rattle.eos_isotherm.specs.declared.Isotherm.{Isotherm}
use Rattle.eos_non_analytic.specs.Parts.{around, psi, psi_sum}
use Rattle.eos_terms.specs.declared.term.Point.{Point}

-- t = j/4
abbrev pub in_quarters : ℕ → Formula
in_quarters j = num (whole j) ⊘ num (whole 4)

-- the rows of a table, numbered from i on
abbrev pub numbered : {A B : Type 0} → (ℕ → A → B) → ℕ → List A → List B
numbered f i [] = []
numbered f i (r ∷ rs) = f i r ∷ numbered f (suc i) rs

-- ---- rows 1 to 7, with y for τᵗ: the term is (n·δᵈ)·τᵗ
unfoldable pub polynomial_term : Float → Float → Polynomial → Formula
polynomial_term delta y r = num r.n ⊗ num delta ^^ r.d ⊗ num y

unfoldable pub polynomial_bracket : Polynomial → Derivative → Formula
polynomial_bracket r = Bracket.polynomial (num (whole r.d)) (in_quarters r.q)

-- ---- rows 8 to 34: the term is ((n·δᵈ)·τᵗ)·e^(−δᶜ)
unfoldable pub decay : Float → ℕ → Formula
decay delta c = e^ (minus (num delta ^^ c))

unfoldable pub exponential_term : Float → Float → Exponential → Formula
exponential_term delta y r = num r.n ⊗ num delta ^^ r.d ⊗ num y ⊗ decay delta r.c

-- with z for δᶜ
unfoldable pub exponential_bracket : Formula → Exponential → Derivative → Formula
exponential_bracket z r = Bracket.exponential (num (whole r.d)) (in_quarters r.q) (num (whole r.c)) z

-- ---- rows 35 to 39, with z for β·(τ−γ)²: the term is ((n·δᵈ)·τᵗ)·e^(−(α·(δ−ε)² + β·(τ−γ)²))
abbrev pub bell_sum : Formula → Formula → Gaussian → Formula
bell_sum δ z r = let x = δ ⊖ num r.epsilon in num r.alpha ⊗ (x ⊗ x) ⊕ z

unfoldable pub bell : Float → Float → Gaussian → Formula
bell delta z r = e^ (minus (bell_sum (num delta) (num z) r))

unfoldable pub gaussian_term : Float → Float → Float → Gaussian → Formula
gaussian_term delta y z r = num r.n ⊗ num delta ^^ r.d ⊗ num y ⊗ bell delta z r

unfoldable pub gaussian_bracket : Float → Float → Gaussian → Derivative → Formula
gaussian_bracket delta tau r =
    Bracket.gaussian (num (whole r.d)) (in_quarters r.q) (num r.alpha) (num r.beta) (num r.gamma) (num r.epsilon) (num delta) (num tau)

-- ---- what code inside asks for: what is worked once for a state (RULES 4.3), in plain f64
unfoldable pub decays : Float → List Float
decays delta = map (λ (c : ℕ). value (decay delta c)) (1 ∷ 2 ∷ 3 ∷ 4 ∷ 5 ∷ 6 ∷ [])

unfoldable pub bells : List Float → Float → List Float
bells zs delta = numbered (λ (i : ℕ) (r : Gaussian). value (bell delta (get_or zs (bell_at i) nan) r)) 0 gaussians

-- rows 40 and 41 have one Ψ
unfoldable pub psis : Float → Float → List Float
psis z delta = map (λ (r : NonAnalytic). value (psi r (around delta) z)) (row40 ∷ row42 ∷ [])

unfoldable pub point : Isotherm → Float → Point
point iso delta = record { delta = delta; powers = powers 10 delta; decays = decays delta; bells = bells iso.bell delta; psis = psis iso.psi delta }

-- the arguments of the twelve exponentials with their minus sign taken off: six powers of δ, four bells, two Ψ
module _ (iso : Isotherm) (delta : Float) where
  abbrev pub bell_exponent : ℕ → Gaussian → Float
  bell_exponent place r = value (bell_sum (num delta) (num (get_or iso.bell place nan)) r)

  abbrev pub psi_exponent : NonAnalytic → Float
  psi_exponent r = value (psi_sum r (around delta).X (num iso.psi))

  unfoldable pub exponents : List Float
  exponents =
      power delta 1
      ∷ power delta 2
      ∷ power delta 3
      ∷ power delta 4
      ∷ power delta 5
      ∷ power delta 6
      ∷ bell_exponent 0 (get_or gaussians 0 row39)
      ∷ bell_exponent 1 (get_or gaussians 1 row39)
      ∷ bell_exponent 2 (get_or gaussians 3 row39)
      ∷ bell_exponent 3 (get_or gaussians 4 row39)
      ∷ psi_exponent (get_or non_analytics 0 row42)
      ∷ psi_exponent (get_or non_analytics 2 row42)
      ∷ []

-- the point by its twelve exponentials
unfoldable pub point_by : Float → List Float → List Float → Point
point_by delta powers e =
    let at : ℕ → Float = λ i. get_or e i nan in
    record {
      delta = delta;
      powers = powers;
      decays = at 0 ∷ at 1 ∷ at 2 ∷ at 3 ∷ at 4 ∷ at 5 ∷ [];
      bells = at 6 ∷ at 7 ∷ at 7 ∷ at 8 ∷ at 9 ∷ [];
      psis = at 10 ∷ at 11 ∷ [];
    }
