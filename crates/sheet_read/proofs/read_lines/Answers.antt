-- The lines that were read are in the array as far as it goes, and what is left of the text has the rest. Assumes nothing.
use mathlib.Core.Path.{◌∙◌}
use borrow.Author.Rules.{rules}
use Rattle.sheet_line.proofs.Lines.{of_cylinder}
use Rattle.sheet_read.proofs.Turns.{done, held_more, held_full, bad, more}
use Rattle.sheet_read.proofs.read_lines.Goals as goal
use Rattle.sheet_read.proofs.read_lines.Goals.{then-count-lt32, else-count-lt32}

pub returns-in_err-line : goal.returns-in_err-line
returns-in_err-line c = rw (bad _ _ _ _ _ c.loop-at.invariant c.loop-at-test.true c.in_err-line.ensures) (search rules)

pub loop-at-preserved : goal.loop-at-preserved
loop-at-preserved c =
    let e = c.in_ok-line.ensures in
    let l = of_cylinder _ _ _ e.0 in
    more _ _ _ _ _ c.loop-at.invariant c.loop-at-test.true _ _ l.read e.1 e.2 _
    (elim c.if-count-lt32.branch [
      | then-count-lt32 w ↦ w.lines-is ∙ held_more _ _ _ _ _ c.loop-at.invariant _ _ l.is w.if-count-lt32.true
      | else-count-lt32 w ↦ w.lines-is ∙ held_full _ _ _ _ _ c.loop-at.invariant _ w.if-count-lt32.false
    ])

pub returns : goal.returns
returns c = done _ _ _ _ _ c.loop-at.invariant _ c.loop-at-test.false
