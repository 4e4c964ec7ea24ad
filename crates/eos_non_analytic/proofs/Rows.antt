-- A sum grows by its row's figure, tested; and what the rows are made of, by the numbers that they share. Assumes nothing.
use mathlib.Core.Path.{◌≡◌, refl, ap, ◌∙◌}
use mathlib.Core.Bool.{Bool}
use lib.Dec.{T}
use lib.Ieee.{Float}
use Rattle.num_working.specs.Working.{checked, ◌+ᵂ◌, Worked}
use Rattle.num_working.proofs.Workings.{checked_add}
use Rattle.num_formulas.specs.Formula.{num, ◌⊗◌, value}
use Rattle.num_formulas.proofs.Formulas.{once}
use Rattle.eos_brackets.specs.Derivative.{Derivative, Delta, DeltaDelta, Tau, TauTau, DeltaTau, of, grown, asked}
use Rattle.eos_brackets.specs.declared.Five.{Five}
use Rattle.eos_brackets.proofs.Derivatives.{of_grown}
use Rattle.eos_rows.specs.declared.NonAnalytic.{NonAnalytic}
use Rattle.eos_isotherm.specs.declared.Isotherm.{Isotherm}
use Rattle.eos_non_analytic.specs.Parts.{Around, Parts, around, parts, psi, near, edge, critical, held_near, held_edge, critical_by}
use Rattle.eos_non_analytic.specs.declared.parts.Near.{Near}
use Rattle.eos_non_analytic.specs.declared.parts.Edge.{Edge}
use Rattle.eos_non_analytic.specs.Figures.{brackets_by, non_analytic_term, non_analytic_bracket, non_analytic_figure}

-- a bracket sees its parts by their values
held : (row : NonAnalytic) (n : Around) (p : Parts) (delta tau : Float) (k : Derivative)
    → value (non_analytic_bracket row (held_near (near n)) (held_edge (edge p)) delta tau k) ≡ value (non_analytic_bracket row n p delta tau k)
unfolding brackets_by value
held row n p delta tau Delta = refl
held row n p delta tau DeltaDelta = refl
held row n p delta tau Tau = refl
held row n p delta tau TauTau = refl
held row n p delta tau DeltaTau = refl

-- what the rows share is seen by its values
pub critical_by_lem : (iso : Isotherm) (delta : Float) → critical_by (near (around delta)) iso.tau ≡ critical iso delta
unfolding critical critical_by value
critical_by_lem iso delta = refl

-- ---- from what code has of a row: of each of the five sums alike
module _ (iso : Isotherm) (delta : Float) (w : NonAnalytic) (x : Near) (y : Edge) (z : Float) where
  abbrev term : Float
  term = value (non_analytic_term w delta (num z))

  abbrev bracket : Derivative → Float
  bracket k = value (non_analytic_bracket w (held_near x) (held_edge y) delta iso.tau k)

  abbrev pub Grown : Bool → Five → Five → Type 0
  Grown all s v = v ≡ grown all s term bracket

  pub figure_added : (all : Bool) (k : Derivative) (row : NonAnalytic) (s v : Five) → T (asked all k)
      → w ≡ row → x ≡ near (around delta) → y ≡ edge (parts row (around delta) iso.tau) → z ≡ value (psi row (around delta) iso.psi)
      → Grown all s v → checked (of v k) ≡ checked (of s k) +ᵂ non_analytic_figure iso delta k row
  unfolding value
  figure_added all k row s v h a b c d e =
      let n = around delta in
      let p = parts row n iso.tau in
      rw (e, of_grown all s term bracket k h, a, b, c, d, held row n p delta iso.tau k)
      (checked_add (of s k) _ ∙ ap (λ (u : Worked). checked (of s k) +ᵂ u)
      (once (non_analytic_term row delta (psi row n iso.psi) ⊗ non_analytic_bracket row n p delta iso.tau k)))
