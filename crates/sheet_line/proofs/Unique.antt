-- No second answer meets a public function's promise. Assumes nothing.
use Rattle.std.specs.Prelude.{Float, Option}
use contract.Lifetimes.{Lfts}
use Prim.Native.Nat.{ℕ}
use Rattle.num_working.proofs.Unique.{OneAnswer, by_equation}
use Rattle.sheet_text.proofs.Places.{reads_once}
use Rattle.sheet_line.specs.Record.{Record}
use Rattle.sheet_line.specs.declared.cylinder.Cylinder.{Cylinder}
use Rattle.sheet_line.specs.declared.line.Line.{Line}
use Rattle.sheet_line.proofs.cylinder.read_cylinder.Reads as read_cylinder
use Rattle.sheet_line.proofs.record.record_of.Reads as record_of
use Rattle.sheet_line.proofs.line.read_line.Reads as read_line

-- however long the text is lent
pub read_line_once : (κs : Lfts 1) → OneAnswer (Option (Line Float × ℕ)) (read_line.Post κs)
read_line_once κs a r s x y = reads_once _ _ _ r s

pub read_cylinder_once : (κs : Lfts 1) → OneAnswer (Option (Cylinder × ℕ)) (read_cylinder.Post κs)
read_cylinder_once κs a r s x y = reads_once _ _ _ r s

pub record_of_once : OneAnswer Record (record_of.Post tt)
record_of_once a r s x y = by_equation
