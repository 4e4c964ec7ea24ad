-- What no public promise speaks of: the table that numbers are written by, the two digits of 0, of 1, and so on to 99.
-- Definitions only.
use Rattle.std.specs.Prelude.{ℕ, zero, suc, ◌+◌, ◌/◌, ◌%◌, List, [], ◌∷◌}

-- of k numbers, from i on
unfoldable pub pairs_from : ℕ → ℕ → List ℕ
pairs_from zero i = []
pairs_from (suc k) i = (48 + i / 10) ∷ (48 + i % 10) ∷ pairs_from k (suc i)

unfoldable pub pairs : List ℕ
pairs = pairs_from 100 0
