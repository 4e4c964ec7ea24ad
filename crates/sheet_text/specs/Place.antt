-- No rule: what the code's answers say of a text. Each is what a parser p reads in the text s from a place on, and says at which place of s the rest begins.
-- Definitions only.
use Rattle.std.specs.Prelude.{ℕ, ◌≤◌, ◌<◌, ◌≡◌, List, length, drop, Some, None, Option}

-- p, read in s from place at on, is a, and what stands in s from place n on is left
abbrev pub Leaves : {A : Type 0} → List ℕ → ℕ → Option (A × List ℕ) → A → ℕ → Type 0
Leaves s at p a n = (p ≡ Some (a, drop n s)) × (at < n) × (n ≤ length s)

-- what a reader answers: p read nothing, or what it read and the place of the rest
abbrev pub Reads : {A : Type 0} → List ℕ → ℕ → Option (A × List ℕ) → Option (A × ℕ) → Type 0
Reads s at p None = p ≡ None
Reads s at p (Some (a, n)) = Leaves s at p a n

-- of one that reads no value, the place alone
abbrev pub PlaceIs : List ℕ → ℕ → Option (Unit {0} × List ℕ) → Option ℕ → Type 0
PlaceIs s at p None = p ≡ None
PlaceIs s at p (Some n) = Leaves s at p tt n
