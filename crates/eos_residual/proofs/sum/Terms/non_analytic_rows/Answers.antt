-- The three rows one after the other, of each sum that is asked for. Assumes nothing.
use Rattle.eos_residual.proofs.ThreeRows.{three_rows}
use Rattle.eos_residual.proofs.sum.Terms.non_analytic_rows.Goals as goal

pub returns : goal.returns
returns g c =
    let a = c.args in
    λ k h.
    three_rows a.self.now.iso a.self.now.point a.self.now.critical a.self.now.pointed a.self.now.near
    c.non_analytic_row.ensures c.non_analytic_row-2.ensures c.non_analytic_row-3.ensures _ k h
    a.start c.add-s40.result c.add-s41.result c.add.result
    c.add-s40.ensures c.add-s41.ensures c.add.ensures
