-- RULES 4.1 and 4.2: formulas, and how one is worked. A number on the way that is not finite, or a root or an exponential that is refused, fails the whole.
-- Of x⁰, which is 1, nothing is worked (RULES 4.3). Definitions only.
use Rattle.std.specs.Prelude.{ℕ, cond, Float, Some, None}
use Rattle.std.specs.Float.Ieee as Ieee
use Rattle.std.specs.Float.{binary64}
use Rattle.num_working.specs.Number.{whole}
use Rattle.num_working.specs.Working.{checked, over, plain, or_else, ◌+ᵂ◌, ◌-ᵂ◌, ◌*ᵂ◌, ◌/ᵂ◌, Worked}
use Rattle.num_powers.specs.Power.{power, ◌^ᵂ◌}
use Rattle.num_exponential.specs.Exponential.{exponential, answer_alone}
use Rattle.num_roots.specs.Root as Root
use Rattle.num_roots.specs.declared.root.Exponent.{Exponent}

infixl 6 ◌⊕◌ ◌⊖◌
infixl 7 ◌⊗◌ ◌⊘◌
infixl 8 ◌^^◌
pub data Formula : Type 0 where
  num : Float → Formula
  ◌⊕◌ ◌⊖◌ ◌⊗◌ ◌⊘◌ : Formula → Formula → Formula
  ◌^^◌ : Formula → ℕ → Formula
  minus size e^ : Formula → Formula
  root : Exponent → Formula → Formula

abbrev pub one : Formula
one = num (whole 1)

abbrev pub two : Formula
two = num (whole 2)

-- |x| (RULES 4.7; docs/ARRANGEMENT.md, section 6): x, or −x where x is below 0
unfoldable pub absolute : Float → Float
absolute x = cond (Ieee.lt x (whole 0)) (Ieee.neg x) x

-- each operation is rounded once, and they come in the order in which the formula is written; what an exponential says is dropped, since a formula is a
-- number (what becomes of it is said where it is passed on: `fallen`, eos_terms)
unfoldable pub work : Formula → Worked
work (num x) = checked x
work (a ⊕ b) = work a +ᵂ work b
work (a ⊖ b) = work a -ᵂ work b
work (a ⊗ b) = work a *ᵂ work b
work (a ⊘ b) = work a /ᵂ work b
work (a ^^ n) = work a ^ᵂ n
work (minus a) = or_else (work a) None (λ x. Some (Ieee.neg x))
work (size a) = or_else (work a) None (λ x. Some (absolute x))
work (e^ a) = or_else (work a) None (λ x. answer_alone (exponential x))
work (root e a) = or_else (work a) None (Root.root e)

-- the same in plain f64, tested nowhere: what code works, and tests once at the end (`once`, proofs/Formulas.antt)
unfoldable pub value : Formula → Float
value (num x) = x
value (a ⊕ b) = Ieee.add binary64 (value a) (value b)
value (a ⊖ b) = Ieee.sub binary64 (value a) (value b)
value (a ⊗ b) = Ieee.mul binary64 (value a) (value b)
value (a ⊘ b) = over (value a) (value b)
value (a ^^ n) = power (value a) n
value (minus a) = Ieee.neg (value a)
value (size a) = absolute (value a)
value (e^ a) = plain (answer_alone (exponential (value a)))
value (root e a) = plain (Root.root e (value a))
