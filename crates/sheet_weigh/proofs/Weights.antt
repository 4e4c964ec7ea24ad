-- A line's milligrams are below 2⁵³, whatever its figures are. Assumes nothing.
use Rattle.refusal.specs.Refused.{refused}
use Rattle.std.specs.Prelude.{Some, None, Ok, Err}
use mathlib.Core.Path.{◌≡◌, refl}
use mathlib.Core.List.{List}
use Prim.Native.Nat.{ℕ, ◌^◌, ◌<◌}
use native.Mathlib.Omega.{arith}
use lib.Ieee.{Float, binary64, mul}
use Rattle.num_working.specs.Number.{whole}
use Rattle.num_working.proofs.Cases.{by_test}
use Rattle.num_whole.specs.Whole.{whole_below, Below}
use Rattle.num_whole.proofs.Wholes.{is_at_or_below}
use Rattle.equation.specs.Equation.{of1996}
use Rattle.door_limits.specs.declared.Limits.{Limits}
use Rattle.door_checks.specs.Check.{Check}
use Rattle.door_answers.specs.Answer.{Answer}
use Rattle.door_pressure.specs.PressureDoor.{pressure_door}
use Rattle.door_density.specs.DensityDoor.{density_door}
use Rattle.sheet_text.specs.Field.{Field}
use Rattle.sheet_mass.specs.Mass.{from_scale, Scaled}
use Rattle.sheet_mass.proofs.Masses.{Most, scaled_most}
use Rattle.sheet_line.specs.Line.{Temperature}
use Rattle.sheet_line.specs.declared.line.Reading.{Reading}
use Rattle.sheet_line.specs.declared.line.Line.{Line}
use Rattle.sheet_standing.specs.Standing.{standing}
use Rattle.sheet_outcome.specs.Outcome.{Weighed}
use Rattle.sheet_weigh.specs.Weighing.{if_number, if_kelvin, is_volume, filled, on_scale, mass, milligrams, by_answer, if_passed, by_reading, weighed, weighed_after}

-- one that was refused has none
abbrev pub Under : Weighed → Type 0
Under (Ok mg) = mg.0 < 2 ^ 53
Under (Err n) = Unit {0}

mass_under : (x : Float) (b : Below) → whole_below x ≡ b → Under (mass b)
mass_under x (Some n) e = (is_at_or_below x n e).2
mass_under x None e = tt

answered_under : (a : Answer) (v : ℕ) → Under (by_answer a v)
unfolding milligrams
answered_under (Ok s) v = let x = mul binary64 s.rho (whole v) in mass_under x (whole_below x) refl
answered_under (Err n) v = tt

number_under : (f : Field) (g : ℕ → Weighed) → ((n : ℕ) → Under (g n)) → Under (if_number f g)
number_under None g h = tt
number_under (Some n) g h = h n

kelvin_under : (k : Temperature) (g : Float → Weighed) → ((t : Float) → Under (g t)) → Under (if_kelvin k g)
kelvin_under None g h = tt
kelvin_under (Some t) g h = h t

scaled_under : (s : Scaled) → Most s → Under (on_scale s)
scaled_under (Some mg) h = omega (arith, h)
scaled_under None h = tt

filled_under : (v : ℕ) (w : Weighed) → Under w → Under (filled v w)
unfolding filled
filled_under v w u = by_test Under (is_volume v) w (refused 2) (λ _. u) (λ _. tt)

passed_under : (c : Check) (w : Weighed) → Under w → Under (if_passed c w)
passed_under (Err n) w u = tt
passed_under (Ok tt) w u = u

module _ (L : Limits) where
  reading_under : (k : Temperature) (v : ℕ) (r : Reading Float) → Under (by_reading L k v r)
  unfolding by_reading
  reading_under k v Reading.Blank = tt
  reading_under k v (Reading.Pressure p) = kelvin_under k _ (λ t. filled_under v _ (answered_under (pressure_door of1996 L t p) v))
  reading_under k v (Reading.Density d) = kelvin_under k _ (λ t. filled_under v _ (answered_under (density_door of1996 L t d) v))
  reading_under k v (Reading.Weighed g) = filled_under v _ (scaled_under (from_scale g) (scaled_most g))

  pub weighed_under : (l : Line Float) → Under (weighed L l)
  unfolding weighed
  weighed_under l = number_under l.number _ (λ _. number_under l.volume _ (λ v. reading_under l.temperature v l.reading))

  pub after_under : (before : List ℕ) (l : Line Float) → Under (weighed_after L before l)
  unfolding weighed_after
  after_under before l = passed_under (standing before l) (weighed L l) (weighed_under l)
