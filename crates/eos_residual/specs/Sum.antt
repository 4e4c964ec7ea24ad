-- RULES 4.8 (docs/ARRANGEMENT.md, section 7): the sums of the residual part, from the first row on in the table's order. Definitions only.
use Rattle.std.specs.Prelude.{ℕ, ◌+◌, ◌-◌, drop, ◌≡◌, Bool, T, List, [], ◌∷◌, ◌++◌, get_or, Float, Some, None, Option}
use Rattle.std.specs.Float.{nan}
use Rattle.num_working.specs.Working.{checked, or_else, ◌+ᵂ◌, Worked}
use Rattle.num_formulas.specs.Formula.{num, ◌⊗◌, ◌^^◌, work}
use Rattle.eos_rows.specs.Row.{Polynomial, Exponential, polynomials, exponentials, gaussians}
use Rattle.eos_terms.specs.Term.{numbered, polynomial_term, polynomial_bracket, exponential_term, exponential_bracket, gaussian_term, gaussian_bracket}
use Rattle.eos_terms.specs.Fallen.{fallen_terms}
use Rattle.eos_non_analytic.specs.Figures.{non_analytic_figures}
use Rattle.eos_rows.specs.declared.Gaussian.{Gaussian}
use Rattle.eos_isotherm.specs.Isotherm.{bell_at}
use Rattle.eos_isotherm.specs.declared.Isotherm.{Isotherm}
use Rattle.eos_residual.specs.declared.sum.Residual.{Residual}
use Rattle.eos_brackets.specs.Derivative.{Derivative, Delta, DeltaDelta, Tau, TauTau, DeltaTau, of, asked}
use Rattle.eos_brackets.specs.declared.Five.{Five}

-- all five sums, or none where one of them failed
abbrev pub Sums : Type 0
Sums = Option Five

-- w, and then each figure added to it, in order
unfoldable pub onto : Worked → List Worked → Worked
onto w [] = w
onto w (f ∷ fs) = onto (w +ᵂ f) fs

-- a sum of no rows fails; none is ever asked for
unfoldable pub total : List Worked → Worked
total [] = None
total (f ∷ fs) = onto f fs

-- ---- a row's figure: its term times its bracket, which is worked first. The row at place i of the table, from 0 on, has its τᵗ at place i of the isotherm
module _ (iso : Isotherm) (delta : Float) (k : Derivative) where
  abbrev pub polynomial_figure : ℕ → Polynomial → Worked
  polynomial_figure i r = work (polynomial_term delta (get_or iso.powers i nan) r ⊗ polynomial_bracket r k)

  abbrev pub exponential_figure : ℕ → Exponential → Worked
  exponential_figure i r = work (exponential_term delta (get_or iso.powers i nan) r ⊗ exponential_bracket (num delta ^^ r.c) r k)

  abbrev pub gaussian_figure : ℕ → Gaussian → Worked
  gaussian_figure i r = work (gaussian_term delta (get_or iso.powers i nan) (get_or iso.bell (bell_at (i - 34)) nan) r ⊗ gaussian_bracket delta iso.tau r k)

  -- rows 1 to 7, 8 to 34, 35 to 39
  unfoldable pub polynomial_figures : List Worked
  polynomial_figures = numbered polynomial_figure 0 polynomials

  unfoldable pub exponential_figures : List Worked
  exponential_figures = numbered exponential_figure 7 exponentials

  unfoldable pub gaussian_figures : List Worked
  gaussian_figures = numbered gaussian_figure 34 gaussians

  -- all 42
  unfoldable pub figures : List Worked
  figures = polynomial_figures ++ (exponential_figures ++ (gaussian_figures ++ non_analytic_figures iso delta k))

-- δφ_δ, δ²φ_δδ, τφ_τ, τ²φ_ττ or δτφ_δτ of the residual part
unfoldable pub residual : Isotherm → Float → Derivative → Worked
residual iso delta k = total (figures iso delta k)

-- sums in plain f64: each that is asked for, tested, is what it has to be
abbrev pub Meet : Bool → Five → (Derivative → Worked) → Type 0
Meet all s goal = (k : Derivative) → T (asked all k) → checked (of s k) ≡ goal k

-- what nine rows, from the one at a place on, make of the sums so far: with the rows behind them, each sum that is asked for comes to the same
abbrev pub Nine : Bool → ℕ → Five → Five → (Derivative → List Worked) → Type 0
Nine all first start s figures =
    (k : Derivative) → T (asked all k) → onto (checked (of s k)) (drop (first + 9) (figures k)) ≡ onto (checked (of start k)) (drop first (figures k))

-- the five together
unfoldable pub all_five : (Derivative → Worked) → Sums
all_five sum =
    or_else (sum Delta) None (λ d.
    or_else (sum DeltaDelta) None (λ dd.
    or_else (sum Tau) None (λ t.
    or_else (sum TauTau) None (λ tt.
    or_else (sum DeltaTau) None (λ dt.
    Some (record { d = d; dd = dd; t = t; tt = tt; dt = dt }))))))

unfoldable pub five_sums : Isotherm → Float → Sums
five_sums iso delta = all_five (residual iso delta)

-- with how many terms fell away
unfoldable pub residual_part : Isotherm → Float → Residual
residual_part iso delta = record { sums = five_sums iso delta; fallen = fallen_terms iso delta }
