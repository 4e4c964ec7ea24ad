-- After i turns the first i lines lie over the output, and each turn puts the next where they end. Assumes nothing.
use native.Mathlib.Omega.{arith}
use Rattle.sheet_report.proofs.Reports.{start, done, fits, at_most, next}
use Rattle.sheet_report.proofs.put_lines.Goals as goal

pub loop-i-init : goal.loop-i-init
loop-i-init c = start _ _

pub put_line-at-requires : goal.put_line-at-requires
put_line-at-requires c = fits c.loop-i.invariant c.requires c.loop-i-test.true

pub overflow_add-at : goal.overflow_add-at
overflow_add-at c = omega (arith, at_most c.loop-i.invariant c.requires c.loop-i-test.true _ _ c.put_line-at.ensures)

pub loop-i-preserved : goal.loop-i-preserved
loop-i-preserved c = next c.loop-i.invariant c.requires c.loop-i-test.true _ _ c.put_line-at.ensures

pub returns : goal.returns
returns c = done c.loop-i.invariant c.requires c.loop-i-test.false
