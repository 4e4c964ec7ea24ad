-- No report is longer than the output, so that none is refused. Assumes nothing.
use mathlib.Core.Path.{◌≡◌}
use native.Mathlib.Omega.{arith}
use lib.ListN.{length}
use Rattle.sheet_write.proofs.Writings.{inside}
use borrow.Author.Rules.{rules}
use Rattle.scorer.proofs.report_of.Goals as goal

pub returns-in_default : goal.returns-in_default
returns-in_default c =
    let e = rw c.in_default.is at c.score.ensures in
    let h : length c.args.out.now ≡ 1512 = search rules in
    absurd (omega (arith, e.2, e.3))

pub returns : goal.returns
returns c =
    let e = rw (c.document_01.ensures, c.in-Ok.is) at c.score.ensures in
    record { wrote = e.0; fits = inside e.0 e.1 }
