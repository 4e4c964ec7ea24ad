-- RULES 3.2: a line's working, refused by 1, then by 30, then by 2, then by 23, then by what its door says, then by 7 of the product. Definitions only.
use Rattle.refusal.specs.Refused.{refused}
use Rattle.std.specs.Prelude.{ℕ, Bool, cond, ◌&&◌, List, leb, Float, Some, None, Ok, Err}
use Rattle.std.specs.Float.{binary64}
use Rattle.std.specs.Float.Ieee.{mul}
use Rattle.num_working.specs.Number.{whole}
use Rattle.num_whole.specs.Whole.{whole_below, Below}
use Rattle.equation.specs.Equation.{of1996}
use Rattle.door_limits.specs.declared.Limits.{Limits}
use Rattle.door_checks.specs.Check.{Check}
use Rattle.door_answers.specs.Answer.{Answer}
use Rattle.door_pressure.specs.PressureDoor.{pressure_door}
use Rattle.door_density.specs.DensityDoor.{density_door}
use Rattle.sheet_text.specs.Field.{Field}
use Rattle.sheet_mass.specs.Mass.{as_milligrams, from_scale, Scaled}
use Rattle.sheet_line.specs.Line.{Temperature}
use Rattle.sheet_line.specs.declared.line.Reading.{Reading}
use Rattle.sheet_line.specs.declared.line.Line.{Line}
use Rattle.sheet_standing.specs.Standing.{standing}
use Rattle.sheet_outcome.specs.Outcome.{Weighed}

-- ---- a check that is not passed is the line's refusal

abbrev pub if_passed : Check → Weighed → Weighed
if_passed (Err n) w = Err n
if_passed (Ok tt) w = w

-- ---- 1: a field that the line requires is blank

abbrev pub if_number : Field → (ℕ → Weighed) → Weighed
if_number None f = refused 1
if_number (Some n) f = f n

abbrev pub if_kelvin : Temperature → (Float → Weighed) → Weighed
if_kelvin None f = refused 1
if_kelvin (Some t) f = f t

-- ---- 2: the volume is out of its range

-- RULES 2.4, in mL
abbrev pub is_volume : ℕ → Bool
is_volume v = leb 1 v && leb v 1_000_000

abbrev pub in_volume : ℕ → Check
in_volume v = cond (is_volume v) (Ok tt) (refused 2)

unfoldable pub filled : ℕ → Weighed → Weighed
filled v w = cond (is_volume v) w (refused 2)

-- ---- RULES 6.7: what the scale showed; 23 where it is out of its range

abbrev pub on_scale : Scaled → Weighed
on_scale (Some mg) = Ok mg
on_scale None = refused 23

-- ---- RULES 6.5: what the door answers

-- the whole number at or below a product; 7 where the product is below 0, or 2⁵³ and more, or not a number
abbrev pub mass : Below → Weighed
mass (Some mg) = Ok (as_milligrams mg)
mass None = refused 7

-- of ρ times the volume, one product
unfoldable pub milligrams : Float → ℕ → Weighed
milligrams rho v = mass (whole_below (mul binary64 rho (whole v)))

abbrev pub by_answer : Answer → ℕ → Weighed
by_answer (Ok s) v = milligrams s.rho v
by_answer (Err n) v = Err n

-- ---- the line

module _ (L : Limits) where
  -- the door is that of the reading's kind; a mass that was weighed has none, and requires no temperature
  unfoldable pub by_reading : Temperature → ℕ → Reading Float → Weighed
  by_reading k v Reading.Blank = refused 1
  by_reading k v (Reading.Pressure p) = if_kelvin k (λ t. filled v (by_answer (pressure_door of1996 L t p) v))
  by_reading k v (Reading.Density d) = if_kelvin k (λ t. filled v (by_answer (density_door of1996 L t d) v))
  by_reading k v (Reading.Weighed g) = filled v (on_scale (from_scale g))

  unfoldable pub weighed : Line Float → Weighed
  weighed l = if_number l.number (λ _. if_number l.volume (λ v. by_reading l.temperature v l.reading))

  -- ---- the line on its sheet

  -- RULES 6.6: 1 and 30 first; the numbers are the cylinder numbers of the lines before it
  unfoldable pub weighed_after : List ℕ → Line Float → Weighed
  weighed_after before l = if_passed (standing before l) (weighed l)
