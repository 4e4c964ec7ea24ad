-- The rows that each exponential serves, added up, are the rows that say so, and on the isotherm of a temperature they are those of the definition. Assumes
-- nothing.
use Prim.Native.Nat.{ℕ, zero, suc, ◌+◌, ◌*◌, ◌≤◌, ◌<◌}
use mathlib.Core.Path.{◌≡◌, refl, sym, ap, subst, ◌∙◌}
use mathlib.Core.Bool.{Bool, true, false, cond}
use native.Mathlib.Omega.{arith}
use mathlib.Core.List.{List, [], ◌∷◌, map}
use lib.ListN.{get_or}
use Rattle.std.specs.List.{sum, sum_by, zip}
use Rattle.std.proofs.lemmas.List.Sums.{sum_by-cons}
use lib.Ieee as Ieee
use lib.Ieee.{Float, nan, inf, fin}
use lib.Ieee.Scale.{finite}
use Rattle.num_working.specs.Number.{whole}
use Rattle.num_working.specs.Working.{checked, or_else, Worked}
use Rattle.num_exponential.specs.Exponential.{exponential, steps, fell}
use Rattle.num_formulas.specs.Formula.{Formula, num, one, ◌⊖◌, ◌⊗◌, ◌^^◌, minus, value, work}
use Rattle.num_exponential.proofs.Falls.{says, says_nothing}
use Rattle.num_formulas.proofs.Formulas.{once}
use Rattle.eos_constants.specs.Reduced as Reduced
use Rattle.eos_isotherm.specs.Isotherm.{isotherm, bell_tau, psi_tau, four_bells, bell_at}
use Rattle.eos_isotherm.specs.declared.Isotherm.{Isotherm}
use Rattle.eos_rows.specs.Row.{polynomials, exponentials, gaussians, row39, non_analytics, row40, row41, row42}
use Rattle.eos_rows.specs.declared.Gaussian.{Gaussian}
use Rattle.eos_rows.specs.declared.NonAnalytic.{NonAnalytic}
use Rattle.eos_non_analytic.specs.Parts.{psi_sum}
use Rattle.eos_terms.specs.Term.{decay, polynomial_term, exponential_term, bell_sum, bell, gaussian_term, exponents}
use Rattle.eos_terms.specs.Fallen.{argument_fell, row_sums, row_arguments, count, fallen_at, fallen_terms, arguments_of, terms, rows_of, served, fallen_rows}

-- what the exponential of −x said
abbrev said : Float → Bool
said x = fell (exponential (Ieee.neg x))

-- ---- at most the rows that it serves
some : (b : Bool) (n : ℕ) → cond b n 0 ≤ n
some true n = omega arith
some false n = omega arith

-- ---- what an exponential said of an argument with a minus sign is what the twelve say of it without
refusing : (x : Float) → or_else (checked x) false (λ y. fell (exponential y)) ≡ fell (exponential x)
unfolding exponential steps
refusing nan = refl
refusing (inf s) = refl
refusing (fin s m e) = refl

pub fell_is : (a : Formula) → argument_fell (minus a) ≡ said (value a)
unfolding argument_fell value
fell_is a = ap (λ (w : Worked). or_else w false (λ y. fell (exponential y))) (sym (once (minus a))) ∙ refusing (Ieee.neg (value a))

-- by the argument alone, without its exponential
abbrev pub below : Float → Bool
below x = cond (finite x) (Ieee.lt (Ieee.neg x) (Ieee.neg (whole 36))) false

said_below : (x : Float) (b : Bool) → finite x ≡ b → said x ≡ below x
said_below x true e = says x e ∙ rw e refl
said_below x false e = says_nothing x e ∙ rw e refl

abbrev pub quickly : List Formula → ℕ
quickly [] = 0
quickly (a ∷ rest) = cond (below (value a)) 1 0 + quickly rest

pub quick : (l : List Formula) → count (map (λ (a : Formula). minus a) l) ≡ quickly l
unfolding count
quick [] = refl
quick (a ∷ rest) = rw (fell_is a ∙ said_below (value a) (finite (value a)) refl, quick rest) refl

-- ---- the rows of each kind, by the exponential that serves them
abbrev unit : Bool → ℕ
unit b = cond b 1 0

times : (b : Bool) (n : ℕ) → cond b n 0 ≡ n * unit b
times true n = omega arith
times false n = omega arith

by_rows : (xa xb xc xd xe xf xg xh xi xj xk xl : Float) {a b c d e f g h i j k l : Bool}
    → a ≡ said xa
    → b ≡ said xb
    → c ≡ said xc
    → d ≡ said xd
    → e ≡ said xe
    → f ≡ said xf
    → g ≡ said xg
    → h ≡ said xh
    → i ≡ said xi
    → j ≡ said xj
    → k ≡ said xk
    → l ≡ said xl
    → fallen_rows (xa ∷ xb ∷ xc ∷ xd ∷ xe ∷ xf ∷ xg ∷ xh ∷ xi ∷ xj ∷ xk ∷ xl ∷ [])
    ≡ (unit a + (unit a + (unit a + (unit a + (unit a + (unit a + (unit a + (unit a + (unit a +
    (unit b + (unit b + (unit b + (unit b + (unit b + (unit b + (unit b +
    (unit c + (unit c + (unit c +
    (unit d + (unit d + (unit d + (unit d + (unit d + (unit d + (unit e + (unit f +
    (unit g + (unit h + (unit h + (unit i + (unit j +
    (unit k + (unit k + (unit l + 0)))))))))))))))))))))))))))))))))))
unfolding fallen_rows rows_of
by_rows xa xb xc xd xe xf xg xh xi xj xk xl p1 p2 p3 p4 p5 p6 p7 p8 p9 p10 p11 p12 = rw (p1, p2, p3, p4, p5, p6, p7, p8, p9, p10, p11, p12) (omega (arith, times (said xa) 9, times (said xb) 7, times (said xc) 3, times (said xd) 6, times (said xh) 2, times (said xk) 2))

pub counted : (iso : Isotherm) (delta : Float) → fallen_rows (exponents iso delta) ≡ fallen_terms iso delta
unfolding exponents fallen_terms row_sums count exponentials gaussians non_analytics value
counted iso delta =
    by_rows _ _ _ _ _ _ _ _ _ _ _ _
    (fell_is _) (fell_is _) (fell_is _) (fell_is _) (fell_is _) (fell_is _)
    (fell_is _) (fell_is _) (fell_is _) (fell_is _) (fell_is _) (fell_is _)

-- ---- on the isotherm of a temperature
module _ (δ δ' : Formula) (e : work δ ≡ work δ') where
  decay_alike : (c : ℕ) → argument_fell (minus (δ ^^ c)) ≡ argument_fell (minus (δ' ^^ c))
  unfolding argument_fell work
  decay_alike c = rw e refl

  bell_alike : (z z' : Formula) (r : Gaussian) → work z ≡ work z' → argument_fell (minus (bell_sum δ z r)) ≡ argument_fell (minus (bell_sum δ' z' r))
  unfolding argument_fell work
  bell_alike z z' r f = rw (e, f) refl

  psi_alike : (z z' : Formula) (r : NonAnalytic) → work z ≡ work z'
      → argument_fell (minus (psi_sum r ((δ ⊖ one) ⊗ (δ ⊖ one)) z)) ≡ argument_fell (minus (psi_sum r ((δ' ⊖ one) ⊗ (δ' ⊖ one)) z'))
  unfolding argument_fell work
  psi_alike z z' r f = rw (e, f) refl

-- a formula by its number
by_number : (a : Formula) → work (num (value a)) ≡ work a
unfolding work
by_number a = once a

module _ (δ δ' : Formula) (b b' : ℕ → Gaussian → Formula) (p p' : NonAnalytic → Formula) where
  abbrev gaussian : ℕ → Gaussian
  gaussian i = get_or gaussians i row39

  alike : work δ ≡ work δ'
      → ((i : ℕ) → i < 5 → work (b i (gaussian i)) ≡ work (b' i (gaussian i)))
      → work (p row40) ≡ work (p' row40)
      → work (p row41) ≡ work (p' row41)
      → work (p row42) ≡ work (p' row42)
      → count (row_arguments δ b p) ≡ count (row_arguments δ' b' p')
  unfolding count row_sums exponentials gaussians non_analytics
  alike e f g h k =
      let decays = decay_alike δ δ' e in
      let bells : (i : ℕ) → i < 5 → argument_fell (minus (bell_sum δ (b i (gaussian i)) (gaussian i))) ≡ argument_fell (minus (bell_sum δ' (b' i (gaussian i)) (gaussian i))) =
      λ i l. bell_alike δ δ' e _ _ (gaussian i) (f i l) in
      rw (
        decays 1,
        decays 2,
        decays 3,
        decays 4,
        decays 5,
        decays 6,
        bells 0 (omega arith),
        bells 1 (omega arith),
        bells 2 (omega arith),
        bells 3 (omega arith),
        bells 4 (omega arith),
        psi_alike δ δ' e _ _ row40 g,
        psi_alike δ δ' e _ _ row41 h,
        psi_alike δ δ' e _ _ row42 k,
      ) refl

-- an isotherm holds one number for rows that have the same
bells_held : (t : Float) (i : ℕ) → i < 5 → get_or (isotherm t).bell (bell_at i) nan ≡ value (bell_tau (value (Reduced.tau t)) (get_or gaussians i row39))
unfolding isotherm four_bells gaussians bell_tau
bells_held t zero h = refl
bells_held t (suc zero) h = refl
bells_held t (suc (suc zero)) h = refl
bells_held t (suc (suc (suc zero))) h = refl
bells_held t (suc (suc (suc (suc zero)))) h = refl
bells_held t (suc (suc (suc (suc (suc i))))) h = absurd (omega arith)

psi_held : (t : Float) (r : NonAnalytic) → r.kd ≡ row40.kd → work (num (isotherm t).psi) ≡ work (psi_tau (value (Reduced.tau t)) r)
unfolding isotherm psi_tau
psi_held t r e = rw e (by_number (psi_tau (value (Reduced.tau t)) row40))

pub at_isotherm : (t rho : Float) → fallen_terms (isotherm t) (value (Reduced.delta rho)) ≡ fallen_at t rho
unfolding fallen_terms fallen_at
at_isotherm t rho =
    let tau = value (Reduced.tau t) in
    alike (num (value (Reduced.delta rho))) (Reduced.delta rho)
    (λ (i : ℕ) (r : Gaussian). num (get_or (isotherm t).bell (bell_at i) nan)) (λ (i : ℕ). bell_tau tau)
    (λ (r : NonAnalytic). num (isotherm t).psi) (psi_tau tau)
    (by_number (Reduced.delta rho))
    (λ i h. rw (bells_held t i h) (by_number (bell_tau tau (get_or gaussians i row39))))
    (psi_held t row40 refl) (psi_held t row41 refl) (psi_held t row42 refl)

-- ---- by the terms of the sums: each has at most one exponential, and rows 1 to 7 have none
pub of_terms : (iso : Isotherm) (delta : Float) → count (arguments_of (terms iso delta)) ≡ fallen_terms iso delta
unfolding fallen_terms row_sums polynomials exponentials gaussians non_analytics polynomial_term exponential_term gaussian_term decay bell
of_terms iso delta = refl

-- ---- so never more than 35
rows_at_most : (x : List Float) (n : List ℕ) → sum_by (λ (p : Float × ℕ). rows_of p.0 p.1) (zip x n) ≤ sum n
unfolding rows_of
rows_at_most [] n = omega arith
rows_at_most (x ∷ xs) [] = omega arith
rows_at_most (x ∷ xs) (n ∷ ns) = omega (arith, sum_by-cons, some (said x) n, rows_at_most xs ns)

of_twelve : (x : List Float) → fallen_rows x ≤ 35
unfolding fallen_rows
of_twelve x = rows_at_most x served

pub few : (t rho : Float) → fallen_at t rho ≤ 35
few t rho =
    let delta = value (Reduced.delta rho) in
    subst (λ (n : ℕ). n ≤ 35) (counted (isotherm t) delta ∙ at_isotherm t rho) (of_twelve (exponents (isotherm t) delta))
