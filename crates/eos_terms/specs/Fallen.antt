-- RULES 4.9 (docs/ARRANGEMENT.md, section 12): how many terms of the residual part fell away. Definitions only.
use Rattle.std.specs.Prelude.{ℕ, ◌+◌, ◌-◌, Bool, false, cond, List, [], ◌∷◌, ◌++◌, map, get_or, Float}
use Rattle.std.specs.List.{sum_by, zip}
use Rattle.std.specs.Float.Ieee as Ieee
use Rattle.std.specs.Float.{nan}
use Rattle.num_working.specs.Working.{or_else}
use Rattle.num_exponential.specs.Exponential.{exponential, fell}
use Rattle.num_formulas.specs.Formula.{Formula, num, one, ◌⊕◌, ◌⊖◌, ◌⊗◌, ◌⊘◌, ◌^^◌, minus, size, e^, root, value, work}
use Rattle.eos_constants.specs.Reduced as Reduced
use Rattle.eos_rows.specs.Row.{Polynomial, Exponential, polynomials, exponentials, gaussians, non_analytics}
use Rattle.eos_rows.specs.declared.Gaussian.{Gaussian}
use Rattle.eos_rows.specs.declared.NonAnalytic.{NonAnalytic}
use Rattle.eos_isotherm.specs.Isotherm.{bell_tau, psi_tau, bell_at}
use Rattle.eos_isotherm.specs.declared.Isotherm.{Isotherm}
use Rattle.eos_non_analytic.specs.Parts.{around, psi, psi_sum}
use Rattle.eos_non_analytic.specs.Figures.{non_analytic_term}
use Rattle.eos_terms.specs.Term.{numbered, polynomial_term, exponential_term, bell_sum, gaussian_term, point}
use Rattle.eos_terms.specs.declared.term.Told.{Told}

-- what the exponential of an argument says: whether it was below −36. Where the argument fails, nothing
unfoldable pub argument_fell : Formula → Bool
argument_fell a = or_else (work a) false (λ x. fell (exponential x))

-- one for each argument whose exponential says so
unfoldable pub count : List Formula → ℕ
count [] = 0
count (a ∷ rest) = cond (argument_fell a) 1 0 + count rest

-- the argument of each row from 8 to 42 but for its minus sign (rows 1 to 7 have none): from δ, from β·(τ−γ)² of a row of 35 to 39, which are numbered from
-- 0 on, and from D·(τ−1)² of one of 40 to 42
unfoldable pub row_sums : Formula → (ℕ → Gaussian → Formula) → (NonAnalytic → Formula) → List Formula
row_sums δ bell psi =
    map (λ (r : Exponential). δ ^^ r.c) exponentials
    ++ (numbered (λ (i : ℕ) (r : Gaussian). bell_sum δ (bell i r) r) 0 gaussians
    ++ map (λ (r : NonAnalytic). psi_sum r ((δ ⊖ one) ⊗ (δ ⊖ one)) (psi r)) non_analytics)

abbrev pub row_arguments : Formula → (ℕ → Gaussian → Formula) → (NonAnalytic → Formula) → List Formula
row_arguments δ bell psi = map (λ (a : Formula). minus a) (row_sums δ bell psi)

-- at a temperature and a density
unfoldable pub fallen_at : Float → Float → ℕ
fallen_at t rho = let tau = value (Reduced.tau t) in count (row_arguments (Reduced.delta rho) (λ (i : ℕ). bell_tau tau) (psi_tau tau))

-- the same by what an isotherm holds of the arguments (`at_isotherm`, proofs/Counts.antt)
unfoldable pub fallen_terms : Isotherm → Float → ℕ
fallen_terms iso delta = count (row_arguments (num delta) (λ (i : ℕ) (r : Gaussian). num (get_or iso.bell (bell_at i) nan)) (λ (r : NonAnalytic). num iso.psi))

-- ---- and by the 42 terms themselves (`of_terms`, proofs/Counts.antt): the arguments of the exponentials that stand in a formula, or in any of some
abbrev pub arguments_in : Formula → List Formula
arguments_in (num x) = []
arguments_in (a ⊕ b) = arguments_in a ++ arguments_in b
arguments_in (a ⊖ b) = arguments_in a ++ arguments_in b
arguments_in (a ⊗ b) = arguments_in a ++ arguments_in b
arguments_in (a ⊘ b) = arguments_in a ++ arguments_in b
arguments_in (a ^^ n) = arguments_in a
arguments_in (minus a) = arguments_in a
arguments_in (size a) = arguments_in a
arguments_in (e^ a) = a ∷ arguments_in a
arguments_in (root e a) = arguments_in a

abbrev pub arguments_of : List Formula → List Formula
arguments_of [] = []
arguments_of (t ∷ ts) = arguments_in t ++ arguments_of ts

-- the terms of the sums, in the table's order
abbrev pub terms : Isotherm → Float → List Formula
terms iso delta =
    numbered (λ (i : ℕ) (r : Polynomial). polynomial_term delta (get_or iso.powers i nan) r) 0 polynomials
    ++ (numbered (λ (i : ℕ) (r : Exponential). exponential_term delta (get_or iso.powers i nan) r) 7 exponentials
    ++ (numbered (λ (i : ℕ) (r : Gaussian). gaussian_term delta (get_or iso.powers i nan) (get_or iso.bell (bell_at (i - 34)) nan) r) 34 gaussians
    ++ map (λ (r : NonAnalytic). non_analytic_term r delta (psi r (around delta) iso.psi)) non_analytics))

-- ---- what code inside asks for: what is worked at a density, with the count where that is told
unfoldable pub at_density : Bool → Isotherm → Float → Told
at_density told iso delta = record { point = point iso delta; fallen = cond told (fallen_terms iso delta) 0 }

-- the rows that an exponential serves, where it says so, by its argument with the minus sign taken off; and of all twelve
unfoldable pub rows_of : Float → ℕ → ℕ
rows_of x rows = cond (fell (exponential (Ieee.neg x))) rows 0

abbrev pub served : List ℕ
served = 9 ∷ 7 ∷ 3 ∷ 6 ∷ 1 ∷ 1 ∷ 1 ∷ 2 ∷ 1 ∷ 1 ∷ 2 ∷ 1 ∷ []

unfoldable pub fallen_rows : List Float → ℕ
fallen_rows x = sum_by (λ (p : Float × ℕ). rows_of p.0 p.1) (zip x served)
