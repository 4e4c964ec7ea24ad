-- No second answer meets a public function's promise. Assumes nothing.
use Rattle.num_working.specs.Working.{Worked}
use Rattle.eos_residual.specs.declared.sum.Residual.{Residual}
use Rattle.num_working.proofs.Unique.{OneAnswer, by_equation}
use Rattle.eos_residual.proofs.sum.slope_at.Reads as slope_at
use Rattle.eos_residual.proofs.sum.residual_part.Reads as residual_part

pub slope_at_once : OneAnswer Worked (slope_at.Post tt)
slope_at_once a r s x y = by_equation

pub residual_part_once : OneAnswer Residual (residual_part.Post tt)
residual_part_once a r s x y = by_equation
