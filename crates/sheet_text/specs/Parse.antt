-- A tool for RULES 6, and no rule: reading the front of a text. A parser answers what stands at the front, with the rest of the text, or `none` where the
-- front is not in its form. Definitions only.
use Rattle.std.specs.Prelude.{ℕ, cond, List, [], ◌∷◌, eqb, Option, Some, None}

abbrev pub Parser : Type 0 → Type 0
Parser A = List ℕ → Option (A × List ℕ)

-- what f makes of what was read and of the rest
abbrev pub and_then : {A B : Type 0} → Option (A × List ℕ) → (A → List ℕ → Option B) → Option B
and_then None f = None
and_then (Some p) f = f p.0 p.1

-- what p reads, then what f reads of the rest
abbrev pub ◌>>=◌ : {A B : Type 0} → Parser A → (A → Parser B) → Parser B
◌>>=◌ p f s = and_then (p s) f

abbrev pub ◌>>◌ : {A B : Type 0} → Parser A → Parser B → Parser B
◌>>◌ p q s = and_then (p s) (λ a. q)

-- nothing is read
abbrev pub give : {A : Type 0} → A → Parser A
give a s = Some (a, s)

-- the one byte b
unfoldable pub byte : ℕ → Parser (Unit {0})
byte b [] = None
byte b (x ∷ rest) = cond (eqb x b) (Some (tt, rest)) None
