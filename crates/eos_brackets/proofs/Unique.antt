-- No second answer meets a public function's promise. Assumes nothing.
use lib.Ieee.{Float}
use Rattle.num_working.proofs.Unique.{OneAnswer, by_equation}
use Rattle.eos_brackets.specs.declared.Five.{Five}
use Rattle.eos_brackets.proofs.polynomial_brackets.Reads as polynomial_brackets
use Rattle.eos_brackets.proofs.exponential_brackets.Reads as exponential_brackets
use Rattle.eos_brackets.proofs.first_bracket.Reads as first_bracket
use Rattle.eos_brackets.proofs.gaussian_brackets.Reads as gaussian_brackets
use Rattle.eos_brackets.proofs.times.Reads as times
use Rattle.eos_brackets.proofs.grow_first.Reads as grow_first
use Rattle.eos_brackets.proofs.grow.Reads as grow

pub polynomial_brackets_once : OneAnswer Five (polynomial_brackets.Post tt)
polynomial_brackets_once a r s x y = by_equation

pub exponential_brackets_once : OneAnswer Five (exponential_brackets.Post tt)
exponential_brackets_once a r s x y = by_equation

pub first_bracket_once : OneAnswer Float (first_bracket.Post tt)
first_bracket_once a r s x y = by_equation

pub gaussian_brackets_once : OneAnswer Five (gaussian_brackets.Post tt)
gaussian_brackets_once a r s x y = by_equation

pub times_once : OneAnswer Five (times.Post tt)
times_once a r s x y = by_equation

pub grow_first_once : OneAnswer Five (grow_first.Post tt)
grow_first_once a r s x y = by_equation

pub grow_once : OneAnswer Five (grow.Post tt)
grow_once a r s x y = by_equation
