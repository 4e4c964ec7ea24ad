-- RULES 4.4: e⁻ˣ for a formula that goes on in plain f64. Definitions only.
use Rattle.std.specs.Prelude.{Bool, true, ◌&&◌, List, [], ◌∷◌, Float}
use Rattle.std.specs.Float.Ieee as Ieee
use Rattle.num_working.specs.Number.{decimal, whole}
use Rattle.num_working.specs.Working.{plain}
use Rattle.num_exponential.specs.Exponential.{exponential, answer_alone}

-- what the exponential says is dropped
unfoldable pub decay : Float → Float
decay x = plain (answer_alone (exponential (Ieee.neg x)))

-- ---- what code inside asks for

-- x from 10⁻²⁰⁰ to 700, where the exponential of −x is worked by step 4, and y/k of a y = x/1024 is in the normal range for each k
unfoldable pub in_series : Float → Bool
in_series x = Ieee.le (decimal 1 200) x && Ieee.le x (whole 700)

unfoldable pub every : (Float → Bool) → List Float → Bool
every p [] = true
every p (x ∷ l) = p x && every p l
