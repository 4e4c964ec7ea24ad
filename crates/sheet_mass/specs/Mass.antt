-- RULES 2.4 and 6.7: a mass that was weighed, in grams, and its milligrams. Definitions only.
use Rattle.std.specs.Prelude.{ℕ, ◌*◌, Bool, cond, ◌&&◌, leb, Some, None, Option}
use Rattle.sheet_mass.specs.declared.Grams.{Grams}
use Rattle.sheet_mass.specs.declared.Milligrams.{Milligrams}

-- a weighed mass, or none where it is out of its range
abbrev pub Scaled : Type 0
Scaled = Option Milligrams

-- so many grams, so many milligrams
abbrev pub as_grams : ℕ → Grams
as_grams n = record { 0 = n }

abbrev pub as_milligrams : ℕ → Milligrams
as_milligrams n = record { 0 = n }

-- RULES 2.4, in g
abbrev pub is_mass : ℕ → Bool
is_mass n = leb 1 n && leb n 9_999_999_999

-- 1000 times as many, in whole numbers
unfoldable pub milligrams_of : Grams → Milligrams
milligrams_of x = as_milligrams (1000 * x.0)

unfoldable pub from_scale : Grams → Scaled
from_scale x = cond (is_mass x.0) (Some (milligrams_of x)) None
