-- No second answer meets a public function's promise. Assumes nothing.
use Prim.Native.Nat.{ℕ}
use contract.Lifetimes.{Lfts}
use mir.Syntax.{w8}
use mir.Val.{Fits}
use Rattle.eos_brackets.specs.declared.Five.{Five}
use Rattle.eos_non_analytic.specs.declared.parts.Near.{Near}
use Rattle.eos_non_analytic.specs.declared.parts.Critical.{Critical}
use Rattle.num_working.proofs.Unique.{OneAnswer, by_equation}
use Rattle.eos_non_analytic.proofs.parts.near_critical.Reads as near_critical
use Rattle.eos_non_analytic.proofs.parts.at_critical.Reads as at_critical
use Rattle.eos_non_analytic.proofs.figures.add.Reads as add

pub near_critical_once : OneAnswer Near (near_critical.Post tt)
near_critical_once a r s x y = by_equation

pub at_critical_once : OneAnswer Critical (at_critical.Post tt)
at_critical_once a r s x y = by_equation

pub add_once : (all : ℕ) (flag : Fits w8 all) (l : Lfts 1) → OneAnswer Five (add.Post all flag l)
add_once all flag l a r s x y = by_equation

-- of all five
pub add_figures_once : (flag : Fits w8 1) (l : Lfts 1) → OneAnswer Five (add.Post 1 flag l)
add_figures_once = add_once 1

-- of the first alone
pub add_slope_once : (flag : Fits w8 0) (l : Lfts 1) → OneAnswer Five (add.Post 0 flag l)
add_slope_once = add_once 0
