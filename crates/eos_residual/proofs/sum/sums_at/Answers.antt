-- The four kinds of rows in turn. Assumes nothing.
use mathlib.Core.Path.{◌≡◌, sym, ap, ◌∙◌}
use lib.Ieee.{Float}
use Rattle.num_working.specs.Working.{checked}
use Rattle.eos_brackets.specs.Derivative.{of}
use Rattle.eos_non_analytic.specs.Parts.{critical, critical_by}
use Rattle.eos_non_analytic.specs.Figures.{non_analytic_figures}
use Rattle.eos_non_analytic.specs.declared.parts.Near.{Near}
use Rattle.eos_non_analytic.proofs.Rows.{critical_by_lem}
use Rattle.eos_terms.specs.Term.{point}
use Rattle.eos_terms.specs.Fallen.{at_density}
use Rattle.eos_terms.specs.declared.term.Told.{Told}
use Rattle.eos_terms.proofs.Points.{own}
use Rattle.eos_residual.specs.Sum.{onto, total, polynomial_figures, exponential_figures, gaussian_figures}
use Rattle.eos_residual.proofs.Totals.{in_turn}
use Rattle.eos_residual.proofs.sum.sums_at.Goals as goal
use Rattle.eos_residual.proofs.sum.sums_at.Goals.{After-at_density-t}

-- the point that each kind of rows is given
placed : (c : After-at_density-t) → c.at_density-t.result.point ≡ point c.args.iso c.args.delta
unfolding at_density
placed c = ap (λ (t : Told). t.point) c.at_density-t.ensures

its : (c : After-at_density-t) → c.at_density-t.result.point ≡ point c.args.iso c.at_density-t.result.point.delta
its c = (own _ c.args.delta _ (placed c)).0

pub invariant_of-terms : goal.invariant_of-terms
invariant_of-terms c =
    let a = c.args in
    let t = (goal.at.invariant_of-terms c).After-at_density-t in record {
      pointed = its t;
      near = c.at_critical.ensures
          ∙ ap (λ (x : Near). critical_by x a.iso.tau) c.near_critical-near.ensures
          ∙ critical_by_lem a.iso a.delta
          ∙ ap (critical a.iso) (sym (own a.iso a.delta _ (placed t)).1);
    }

pub returns : goal.returns
unfolding at_density
returns c =
    let a = c.args in
    let d = (own a.iso a.delta _ (placed (goal.at.returns c).After-at_density-t)).1 in (
      λ k h.
          in_turn a.iso a.delta k _ _ _ _
          (c.polynomial_sums-s7.ensures k h ∙ ap (λ (x : Float). total (polynomial_figures a.iso x k)) d)
          (c.exponential_sums-s34.ensures k h ∙ ap (λ (x : Float). onto (checked (of c.polynomial_sums-s7.result k)) (exponential_figures a.iso x k)) d)
          (c.gaussian_sums-s39.ensures k h ∙ ap (λ (x : Float). onto (checked (of c.exponential_sums-s34.result k)) (gaussian_figures a.iso x k)) d)
          (c.non_analytic_sums.ensures k h ∙ ap (λ (x : Float). onto (checked (of c.gaussian_sums-s39.result k)) (non_analytic_figures a.iso x k)) d),
      ap (λ (t : Told). t.fallen) c.at_density-t.ensures,
    )
