-- RULES 6.2: a field of a line, a blank or a whole number of at most 10 digits, whose first is 0 in `0` alone. Definitions only.
use Rattle.std.specs.Prelude.{ℕ, ◌+◌, ◌-◌, ◌*◌, ◌<◌, Bool, cond, ◌&&◌, List, [], ◌∷◌, leb, eqb, Some, None, Option}
use Rattle.sheet_text.specs.Parse.{Parser, ◌>>=◌, ◌>>◌, give, byte}
use Rattle.sheet_text.specs.Decimal.{decimal}

-- a whole number, or none: a blank
abbrev pub Field : Type 0
Field = Option ℕ

-- ---- as text: a blank is `-`, which is 45

unfoldable pub field_text : Field → List ℕ
field_text None = 45 ∷ []
field_text (Some n) = decimal n

-- of 10 digits at most
abbrev pub Small : Field → Type 0
Small None = Unit {0}
Small (Some n) = n < 10_000_000_000

-- ---- from text

-- a byte that is `0` to `9`
abbrev pub digit : ℕ → Bool
digit b = leb 48 b && leb b 57

-- the digits that follow those of v: none follows a leading 0, and the whole number stays below 10,000,000,000, which is 10 digits at most
unfoldable pub digits_after : ℕ → Parser Field
digits_after v [] = Some (Some v, [])
digits_after v (b ∷ rest) =
    let next = digits_after (v * 10 + (b - 48)) rest in
    cond (digit b)
    (cond (eqb v 0) None (cond (leb 10_000_000_000 (v * 10 + (b - 48))) None next))
    (Some (Some v, b ∷ rest))

unfoldable pub field : Parser Field
field [] = None
field (b ∷ rest) = cond (eqb b 45) (Some (None, rest)) (cond (digit b) (digits_after (b - 48) rest) None)

-- a field and the byte that ends it
unfoldable pub field_to : ℕ → Parser Field
field_to end = do
  f ← field
  byte end
  give f

-- a letter, a space, and a field and the byte that ends it
unfoldable pub field_after : ℕ → ℕ → Parser Field
field_after letter end = do
  byte letter
  byte 32
  field_to end
