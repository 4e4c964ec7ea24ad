-- RULES 14.2: a number as text: its sign, its whole part, a point, and as many digits as it has places. Definitions only.
use Rattle.std.specs.Prelude.{ℕ, zero, suc, ◌+◌, ◌/◌, ◌%◌, Bool, cond, List, [], ◌∷◌, ◌++◌}
use Rattle.sheet_text.specs.Decimal.{decimal}
use Rattle.sheet_write.specs.Writing.{ascii}
use Rattle.desk_units.specs.declared.Shown.{Shown}

-- what is left of n without its last k digits, and these
unfoldable pub front : ℕ → ℕ → ℕ
front zero n = n
front (suc k) n = front k (n / 10)

unfoldable pub last_digits : ℕ → ℕ → List ℕ
last_digits zero n = []
last_digits (suc k) n = last_digits k (n / 10) ++ ((48 + n % 10) ∷ [])

unfoldable pub sign_text : Bool → List ℕ
sign_text below = cond below (ascii "-") (ascii "")

unfoldable pub shown_text : Shown → List ℕ
shown_text s = sign_text s.below ++ decimal (front s.places s.digits) ++ ascii "." ++ last_digits s.places s.digits
