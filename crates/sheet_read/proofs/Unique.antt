-- No second answer meets a public function's promise. Assumes nothing.
use Rattle.std.specs.Prelude.{Option}
use contract.Lifetimes.{Lfts}
use Rattle.num_working.proofs.Unique.{OneAnswer, by_equation}
use Rattle.sheet_read.specs.declared.Sheet.{Sheet}
use Rattle.sheet_read.proofs.read_sheet.Reads as read_sheet

-- however long the text is lent
pub read_sheet_once : (κs : Lfts 1) → OneAnswer (Option Sheet) (read_sheet.Post κs)
read_sheet_once κs a r s x y = by_equation
