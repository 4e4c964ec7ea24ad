-- Row by row the sums are the formulas'. Assumes nothing.
use mathlib.Core.Path.{◌∙◌}
use native.Mathlib.Omega.{arith}
use Rattle.eos_ideal.proofs.Rows.{one_more, five_rows, all_five}
use Rattle.eos_ideal.proofs.all_rows.Goals as goal

pub loop-row-preserved : goal.loop-row-preserved
loop-row-preserved c =
    let t = c.table_27-table.result in
    let l = c.loop-row in
    let n = five_rows t c.table_27-table.ensures in
    c.with_row-sums.ensures ∙ one_more c.args.tau l.sums t.rows l.row-index _ (omega arith) l.invariant

pub returns : goal.returns
returns c =
    let l = c.loop-row in
    l.invariant ∙ all_five c.args.tau c.table_27-table.result l.row-index c.table_27-table.ensures (omega arith)
