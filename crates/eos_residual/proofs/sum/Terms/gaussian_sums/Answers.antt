-- Each turn adds the next row's figures; what is left to add gives the sums that are asked for. Assumes nothing.
use mathlib.Core.Path.{refl}
use native.Mathlib.Omega.{arith}
use Rattle.num_working.specs.Number.{whole}
use Rattle.eos_terms.proofs.Points.{its_powers, its_bells}
use Rattle.eos_residual.proofs.Sums.{dues_more, dues_none}
use Rattle.eos_residual.proofs.Figures.{gaussian_small, gaussian_length, gaussian_placed}
use Rattle.eos_residual.proofs.sum.Terms.gaussian_sums.Goals as goal

pub loop-i-preserved : goal.loop-i-preserved
unfolding whole
loop-i-preserved c =
    let a = c.args in
    dues_more _ _ _ _ _ _ _ _ c.grow-s.ensures
    (gaussian_placed a.self.now.iso a.self.now.point.delta refl (its_powers a.self.now.iso a.self.now.point a.self.now.pointed) _ (its_bells a.self.now.iso a.self.now.point a.self.now.pointed)
    (omega arith) c.gaussian_row-r.ensures c.in_quarters.ensures c.gaussian_brackets-brackets.ensures)
    c.loop-i.invariant

pub returns : goal.returns
returns c =
    let a = c.args in
    dues_none _ _ _ c.loop-i.i _ c.loop-i.invariant (gaussian_length a.self.now.iso a.self.now.point.delta) (omega arith)

pub bounds-xs-r : goal.bounds-xs-r
bounds-xs-r c = rw c.gaussian_row-r.ensures (gaussian_small c.loop-i.i)
