-- No second answer meets a public function's promise. Assumes nothing.
use mathlib.Core.Bool.{Bool}
use Rattle.num_working.proofs.Unique.{OneAnswer, by_equation}
use Rattle.door_limits.specs.declared.Ends.{Ends}
use Rattle.door_limits.specs.declared.Limits.{Limits}
use Rattle.door_limits.proofs.document_01.Reads as document_01
use Rattle.door_limits.proofs.is_outside.Reads as is_outside
use Rattle.door_limits.proofs.search_ends.Reads as search_ends

pub document_01_once : OneAnswer Limits (document_01.Post tt)
document_01_once a r s x y = by_equation

pub is_outside_once : OneAnswer Bool (is_outside.Post tt)
is_outside_once a r s x y = by_equation

pub search_ends_once : OneAnswer Ends (search_ends.Post tt)
search_ends_once a r s x y = by_equation
