-- RULES 8.1: the readings of the numerics, as one table. Definitions only.
use Rattle.std.specs.Prelude.{Bool, List, [], ◌∷◌, map, Float, Some}
use Rattle.std.specs.Float.Ieee as Ieee
use Rattle.num_working.specs.Number.{decimal, whole}
use Rattle.num_powers.specs.Power.{power}
use Rattle.num_exponential.specs.Exponential.{exponential, answer_alone, fell}
use Rattle.num_roots.specs.Root.{root}
use Rattle.num_formulas.specs.Formula.{num, size, work}
use Rattle.num_working.specs.Working.{Worked}
use Rattle.num_roots.specs.declared.root.Exponent.{Exponent}

-- a reading that is proved: what is worked, and what it has to be
pub record Starred : Type 0 where
  pub worked : Worked
  pub reads : Worked

infix 4 ◌gives◌
abbrev pub ◌gives◌ : Worked → Worked → Starred
w gives r = record { worked = w; reads = r }

abbrev square_root : Exponent
square_root = record { m = 1; k = 2 }

unfoldable pub readings : List Starred
readings =
    (answer_alone (exponential (whole 0)) gives Some (whole 1))
    ∷ (answer_alone (exponential (Ieee.neg (whole 701))) gives Some (whole 0))
    ∷ (Some (power (whole 2) 10) gives Some (whole 1024))
    ∷ (root square_root (whole 0) gives Some (whole 0))
    ∷ (root square_root (whole 1) gives Some (whole 1))
    ∷ []

-- what the exponential says at −36, at the next f64 below it and below −700; above 36, where what 1 is divided by would say yes; and where it is refused
unfoldable pub sayings : List Bool
sayings =
    map (λ (x : Float). fell (exponential x))
    (Ieee.neg (whole 36) ∷ Ieee.neg (decimal 3600000000000001 14) ∷ Ieee.neg (whole 701) ∷ whole 37 ∷ whole 701 ∷ [])

-- |−1| and |1|, which are no readings of RULES 8.1
unfoldable pub sizes : List Starred
sizes = (work (size (num (Ieee.neg (whole 1)))) gives Some (whole 1)) ∷ (work (size (num (whole 1))) gives Some (whole 1)) ∷ []
