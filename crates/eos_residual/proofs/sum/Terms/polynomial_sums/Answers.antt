-- Each turn adds the next row's figures; what is left to add gives the sums that are asked for. Assumes nothing.
use mathlib.Core.Path.{refl}
use native.Mathlib.Omega.{arith}
use Rattle.num_working.specs.Number.{whole}
use Rattle.eos_terms.proofs.Points.{its_powers}
use Rattle.eos_residual.specs.Sum.{polynomial_figures}
use Rattle.eos_residual.proofs.Sums.{dues_first, dues_more, dues_none}
use Rattle.eos_residual.proofs.Figures.{delta_by, polynomial_length, polynomial_placed}
use Rattle.eos_residual.proofs.sum.Terms.polynomial_sums.Goals as goal

pub loop-i-init : goal.loop-i-init
unfolding whole
loop-i-init c = λ iso delta y x.
    dues_first _ (polynomial_figures iso delta) c.times-s.result _ _ c.times-s.ensures
    (polynomial_placed iso delta y x 0 c.coefficients-ns.ensures c.delta_powers-ds.ensures c.tau_quarters-qs.ensures
    (omega arith) c.in_quarters.ensures c.polynomial_brackets-first.ensures)

pub loop-i-preserved : goal.loop-i-preserved
unfolding whole
loop-i-preserved c = λ iso delta y x.
    dues_more _ _ _ _ _ _ _ _ c.grow-s.ensures
    (polynomial_placed iso delta y x _ c.coefficients-ns.ensures c.delta_powers-ds.ensures c.tau_quarters-qs.ensures
    (omega arith) c.in_quarters-in-loop-i.ensures c.polynomial_brackets-brackets.ensures)
    (c.loop-i.invariant iso delta y x)

pub returns : goal.returns
returns c =
    let a = c.args in
    dues_none _ _ _ c.loop-i.i _ (c.loop-i.invariant a.self.now.iso a.self.now.point.delta refl (its_powers a.self.now.iso a.self.now.point a.self.now.pointed))
    (polynomial_length a.self.now.iso a.self.now.point.delta) (omega arith)

pub bounds-xs-d : goal.bounds-xs-d
bounds-xs-d c = delta_by c.delta_powers-ds.ensures 0

pub bounds-xs-d-in-loop-i : goal.bounds-xs-d-in-loop-i
bounds-xs-d-in-loop-i c = delta_by c.delta_powers-ds.ensures c.loop-i.i
