-- No second answer meets a public function's promise. `Post` is the function's own `ensures`, read at a call. Assumes nothing.
use mathlib.Core.Path.{◌≡◌, sym, ◌∙◌}
use mathlib.Core.Bool.{Bool}
use lib.Ieee.{Float}
use Rattle.num_working.specs.Working.{Worked}
use Rattle.num_working.proofs.checked.Reads as checked
use Rattle.num_working.proofs.is_finite.Reads as is_finite
use Rattle.num_working.proofs.over.Reads as over
use Rattle.num_working.proofs.plain.Reads as plain

-- two answers to one call are equal, whatever else the call left
abbrev pub OneAnswer : {A S : Type 0} (R : Type 0) → (A → R → S → Type 0) → Type 0
OneAnswer {A} {S} R Post = (a : A) (r s : R) (x y : S) → Post a r x → Post a s y → r ≡ s

-- as a promise that is an equation always has it
pub by_equation : {R : Type 0} {r s d : R} → r ≡ d → s ≡ d → r ≡ s
by_equation p q = p ∙ sym q

pub is_finite_once : OneAnswer Bool (is_finite.Post tt)
is_finite_once a r s x y = by_equation

pub checked_once : OneAnswer Worked (checked.Post tt)
checked_once a r s x y = by_equation

pub over_once : OneAnswer Float (over.Post tt)
over_once a r s x y = by_equation

pub plain_once : OneAnswer Float (plain.Post tt)
plain_once a r s x y = by_equation
