-- What code inside works twelve exponentials by: the series and the squarings of RULES 4.4 again, in plain f64, step by step. No public promise cites it.
-- Definitions only.
use Rattle.std.specs.Prelude.{ℕ, zero, suc, List, [], ◌∷◌, Float}
use Rattle.std.specs.Float.Ieee as Ieee
use Rattle.std.specs.Float.{binary64}
use Rattle.num_working.specs.Number.{whole}

-- s becomes 1 − (y/k)·s, with q·h for y/k
unfoldable pub turn : Float → Float → Float → Float
turn h q s = Ieee.sub binary64 (whole 1) (Ieee.mul binary64 (Ieee.mul binary64 q h) s)

-- s becomes 1 − (y/k)·s for k, k − 1, .., 1
unfoldable pub chain : Float → ℕ → Float → Float
chain y zero s = s
chain y (suc k) s = chain y k (Ieee.sub binary64 (whole 1) (Ieee.mul binary64 (Ieee.div binary64 y (whole (suc k))) s))

-- s becomes s·s, n times
unfoldable pub squarings : ℕ → Float → Float
squarings zero s = s
squarings (suc n) s = squarings n (Ieee.mul binary64 s s)

-- f of each pair
unfoldable pub pairs : (Float → Float → Float) → List Float → List Float → List Float
pairs f [] ys = []
pairs f (x ∷ xs) [] = []
pairs f (x ∷ xs) (y ∷ ys) = f x y ∷ pairs f xs ys
