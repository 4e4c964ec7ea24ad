-- No second answer meets a public function's promise. Assumes nothing.
use mathlib.Core.Bool.{Bool}
use Rattle.num_working.proofs.Unique.{OneAnswer, by_equation}
use Rattle.sheet_outcome.specs.Outcome.{Weighed}
use Rattle.sheet_outcome.specs.declared.Outcome.{Outcome}
use Rattle.sheet_weigh.proofs.is_volume.Reads as is_volume
use Rattle.sheet_weigh.proofs.weigh.Reads as weigh
use Rattle.sheet_weigh.proofs.weigh_sheet.Reads as weigh_sheet

pub is_volume_once : OneAnswer Bool (is_volume.Post tt)
is_volume_once a r s x y = by_equation

pub weigh_once : OneAnswer Weighed (weigh.Post tt)
weigh_once a r s x y = by_equation

pub weigh_sheet_once : OneAnswer Outcome (weigh_sheet.Post tt)
weigh_sheet_once a r s x y = by_equation
