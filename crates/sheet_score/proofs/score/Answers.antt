-- What is written is the report of what was weighed, of what was read. Assumes nothing.
use Rattle.sheet_score.proofs.Reports.{reported}
use Rattle.sheet_score.proofs.score.Goals as goal

pub returns : goal.returns
returns c =
    rw (← reported, ← c.read_sheet-r.ensures, ← c.weigh_sheet-o.ensures) c.write_report.ensures
