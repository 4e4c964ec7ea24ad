-- RULES 7: a whole number as text, with as many digits as it needs. Definitions only.
use Rattle.std.specs.Prelude.{ℕ, zero, suc, ◌+◌, ◌/◌, ◌%◌, cond, List, [], ◌∷◌, ◌++◌, ltb}

-- n in decimal; the first argument only bounds the recursion, and n is large enough
unfoldable pub decimal_within : ℕ → ℕ → List ℕ
decimal_within zero n = (48 + n % 10) ∷ []
decimal_within (suc k) n = let front = decimal_within k (n / 10) in cond (ltb n 10) ((48 + n % 10) ∷ []) (front ++ ((48 + n % 10) ∷ []))

unfoldable pub decimal : ℕ → List ℕ
decimal n = decimal_within n n
