-- Each turn adds the next row's figures; what is left to add gives the same. Assumes nothing.
use mathlib.Core.Path.{◌≡◌, refl}
use Prim.Native.Nat.{◌+◌}
use native.Mathlib.Omega.{arith}
use Rattle.num_working.specs.Number.{whole}
use Rattle.num_formulas.specs.Formula.{value}
use Rattle.eos_brackets.specs.Bracket.{exponential}
use Rattle.eos_terms.proofs.Points.{its_powers, its_decays}
use Rattle.eos_residual.proofs.Sums.{dues_more}
use Rattle.eos_residual.proofs.Figures.{placed_by, exponential_placed}
use Rattle.eos_residual.proofs.sum.Terms.nine_rows.Goals as goal

pub loop-i-preserved : goal.loop-i-preserved
unfolding exponential value whole
loop-i-preserved g c = λ iso delta y x e.
    dues_more _ _ _ _ _ _ _ _ c.grow_exponential-s.ensures
    (exponential_placed iso delta y x _ c.coefficients-ns.ensures c.delta_powers-ds.ensures c.tau_quarters-qs.ensures c.decay_powers-cs.ensures e
    (omega arith) refl refl)
    (c.loop-i.invariant iso delta y x e)

-- the row that a turn comes to has its exponents' places in the arrays
pub bounds-xs-d : goal.bounds-xs-d
bounds-xs-d g c =
    let h = placed_by c.delta_powers-ds.ensures c.decay_powers-cs.ensures c.loop-i.i (omega arith) in
    h.d_small

pub overflow_sub-term : goal.overflow_sub-term
overflow_sub-term g c =
    let h = placed_by c.delta_powers-ds.ensures c.decay_powers-cs.ensures c.loop-i.i (omega arith) in
    h.c_some

pub bounds-es-z : goal.bounds-es-z
bounds-es-z g c =
    let h = placed_by c.delta_powers-ds.ensures c.decay_powers-cs.ensures c.loop-i.i (omega arith) in
    omega arith

pub bounds-xs-z : goal.bounds-xs-z
bounds-xs-z g c =
    let h = placed_by c.delta_powers-ds.ensures c.decay_powers-cs.ensures c.loop-i.i (omega arith) in
    omega arith

pub returns : goal.returns
returns g c =
    let a = c.args in
    let e : c.loop-i.i ≡ g.row.FIRST + 9 = omega arith in
    λ k h. rw e at (c.loop-i.invariant a.self.now.iso a.self.now.point.delta refl (its_powers a.self.now.iso a.self.now.point a.self.now.pointed) (its_decays a.self.now.iso a.self.now.point a.self.now.pointed) k h)
