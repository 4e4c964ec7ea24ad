-- No second answer meets a public function's promise. Assumes nothing.
use denote.RattleType.{RattleType}
use denote.Param.Laws.{Laws}
use contract.Lifetimes.{Lfts}
use mir.Syntax.{Dict}
use Rattle.num_working.proofs.Unique.{OneAnswer, by_equation}
use Rattle.num_halving.specs.Halving.{Crossing}
use Rattle.num_halving.specs.declared.Probed.{Ghosts}
use Rattle.num_halving.proofs.halve.Reads as halve

-- of whatever is probed
module _ (P : RattleType) (laws : Laws P) (figure : Ghosts P.Denot) (code : Dict) where
  pub halve_once : (κs : Lfts 2) → OneAnswer Crossing (halve.Post P laws figure code κs)
  halve_once κs a r s x y = by_equation
