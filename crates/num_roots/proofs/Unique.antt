-- No second answer meets a public function's promise. Assumes nothing.
use Rattle.num_working.specs.Working.{Worked}
use Rattle.num_working.proofs.Unique.{OneAnswer, by_equation}
use Rattle.num_roots.specs.declared.side.TwoRoots.{TwoRoots}
use Rattle.num_roots.specs.declared.side.ThreeRoots.{ThreeRoots}
use Rattle.num_roots.proofs.root.root.Reads as root
use Rattle.num_roots.proofs.side.two_roots.Reads as two_roots
use Rattle.num_roots.proofs.side.three_roots.Reads as three_roots

pub root_once : OneAnswer Worked (root.Post tt)
root_once a r s x y = by_equation

pub two_roots_once : OneAnswer TwoRoots (two_roots.Post tt)
two_roots_once a r s x y = by_equation

pub three_roots_once : OneAnswer ThreeRoots (three_roots.Post tt)
three_roots_once a r s x y = by_equation
