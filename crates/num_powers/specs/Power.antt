-- RULES 4.3: whole powers. Definitions only.
use Rattle.std.specs.Prelude.{ℕ, zero, suc, List, [], ◌∷◌, ◌++◌, Float}
use Rattle.std.specs.Float.Ieee as Ieee
use Rattle.std.specs.Float.{binary64}
use Rattle.num_working.specs.Number.{whole}
use Rattle.num_working.specs.Working.{checked, ◌*ᵂ◌, Worked}

unfoldable pub power : Float → ℕ → Float
power x zero = whole 1
power x (suc zero) = x
power x (suc (suc n)) = Ieee.mul binary64 (power x (suc n)) x

-- the same on a number that was worked: each product has to be finite
infixl 8 ◌^ᵂ◌
unfoldable pub ◌^ᵂ◌ : Worked → ℕ → Worked
w ^ᵂ zero = checked (whole 1)
w ^ᵂ suc zero = w
w ^ᵂ suc (suc n) = (w ^ᵂ suc n) *ᵂ w

-- x⁰ to xⁿ, which are handed on together
unfoldable pub powers : ℕ → Float → List Float
powers zero x = power x zero ∷ []
powers (suc n) x = powers n x ++ power x (suc n) ∷ []
