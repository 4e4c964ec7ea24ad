-- RULES 12: many states at once, the answers and the figures that a caller in another language lends for them. Definitions only.
use Rattle.std.specs.Prelude.{ℕ, ◌*◌, ◌≡◌, Bool, true, cond, ◌&&◌, List, [], ◌∷◌, ◌++◌, eqb, length, take, drop, Float}
use Rattle.equation.specs.Equation.{of1996}
use Rattle.door_limits.specs.Limits.{document01}
use Rattle.door_pressure.specs.PressureDoor.{pressure_door}
use Rattle.door_conductivity.specs.Conducted.{with_conductivity, Conducted}
use Rattle.interface_figures.specs.Figures.{conducted_number, carried_of}

-- do as many pressures, as many answers and ten times as many figures stand beside the temperatures?
abbrev pub fits : ℕ → ℕ → ℕ → ℕ → Bool
fits temperatures pressures answers figures = eqb pressures temperatures && (eqb answers temperatures && eqb figures (10 * temperatures))

-- and those that are lent?
abbrev pub all_fit : List Float → List Float → List ℕ → List Float → Bool
all_fit ts ps answers figures = fits (length ts) (length ps) (length answers) (length figures)

-- what the door gives each place, with the conductivity
unfoldable pub given : List Float → List Float → List Conducted
given [] ps = []
given (t ∷ ts) [] = []
given (t ∷ ts) (p ∷ ps) = with_conductivity of1996 true (pressure_door of1996 document01 t p) ∷ given ts ps

-- each place's number
unfoldable pub numbers : List Conducted → List ℕ
numbers [] = []
numbers (a ∷ rest) = conducted_number a ∷ numbers rest

-- each place's ten figures, as they are after it
unfoldable pub tens : List Conducted → List Float → List Float
tens [] figures = figures
tens (a ∷ rest) figures = carried_of a (take 10 figures) ++ tens rest (drop 10 figures)

-- 260 and every place as it is given, or 15 and all stays
pub record StatesIn (ts ps : List Float) (answers answers' : List ℕ) (figures figures' : List Float) (r : ℕ) : Type 0 where
  pub number : r ≡ cond (all_fit ts ps answers figures) 260 15
  pub answered : answers' ≡ cond (all_fit ts ps answers figures) (numbers (given ts ps)) answers
  pub figured : figures' ≡ cond (all_fit ts ps answers figures) (tens (given ts ps) figures) figures
