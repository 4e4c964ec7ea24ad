-- RULES 11: a list in an array of fixed size. Definitions only.
use Rattle.std.specs.Prelude.{ℕ, zero, suc, List, [], ◌∷◌}

-- the first n of a list, and d where there are fewer
unfoldable pub padded : {A : Type 0} → A → ℕ → List A → List A
padded d zero l = []
padded d (suc n) [] = d ∷ padded d n []
padded d (suc n) (x ∷ l) = x ∷ padded d n l
