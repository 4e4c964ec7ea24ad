-- RULES 14.2: the numbers of a sheet and of an answer in the units of a person, all by whole numbers. Definitions only.
use Rattle.std.specs.Prelude.{ℕ, zero, suc, ◌+◌, ◌-◌, ◌/◌, ◌%◌, Bool, true, false, cond, ltb, eqb, Float, Some, None, Option}
use Rattle.std.specs.Float.{binary64}
use Rattle.std.specs.Float.Ieee.{mul}
use Rattle.num_working.specs.Number.{whole}
use Rattle.num_whole.specs.Whole.{whole_below, Below}
use Rattle.desk_units.specs.declared.Shown.{Shown}

-- a number that could be had, or none
abbrev pub Figure : Type 0
Figure = Option Shown

-- digits, so many of them behind the point
abbrev pub with : Bool → ℕ → ℕ → Shown
with below places digits = record { below = below; digits = digits; places = places }

-- ---- from a number of the sheet

-- with no 0 at its end, but one place stays
unfoldable pub shortest : ℕ → ℕ → Shown
shortest zero n = with false zero n
shortest (suc zero) n = with false (suc zero) n
shortest (suc (suc k)) n = cond (eqb (n % 10) 0) (shortest (suc k) (n / 10)) (with false (suc (suc k)) n)

abbrev pub negative : Shown → Shown
negative s = with true s.places s.digits

-- from 0.1 mK in C: 0 C are 2,731,500
unfoldable pub celsius : ℕ → Shown
celsius n = cond (ltb n 2_731_500) (negative (shortest 4 (2_731_500 - n))) (shortest 4 (n - 2_731_500))

-- from Pa in bar
unfoldable pub bar : ℕ → Shown
bar n = shortest 5 n

-- from g/m³ in kg/m³, or from mL in L
unfoldable pub thousandth : ℕ → Shown
thousandth n = shortest 3 n

-- ---- from what was answered

unfoldable pub rounded_up : ℕ → ℕ → ℕ
rounded_up by n = cond (eqb (n % by) 0) (n / by) (n / by + 1)

-- a half goes up
unfoldable pub nearest : ℕ → ℕ → ℕ
nearest by n = cond (ltb (n % by) (by / 2)) (n / by) (n / by + 1)

-- from mg in kg: what is held or to spare, rounded down to the gram, and what is needed or missing, rounded up
unfoldable pub kilograms_down : ℕ → Shown
kilograms_down mg = with false 3 (mg / 1000)

unfoldable pub kilograms_up : ℕ → Shown
kilograms_up mg = with false 3 (rounded_up 1000 mg)

-- of the whole number at or below, to the nearest, with so many places; none where there is no such number
abbrev pub figure : ℕ → ℕ → Below → Figure
figure places by (Some n) = Some (with false places (nearest by n))
figure places by None = None

-- of a state, in kg/m³, by its g/m³
unfoldable pub density : Float → Figure
density rho = figure 1 100 (whole_below (mul binary64 rho (whole 1000)))

-- of saturation, from Pa in bar
unfoldable pub pressure : Float → Figure
pressure p = figure 2 1000 (whole_below p)
