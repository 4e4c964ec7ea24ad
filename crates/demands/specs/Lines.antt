-- RULES 10.1: what is demanded of a cylinder's line by itself, as it is written: when each refusal is given, in the order of RULES 3.2 but for 30, and what its
-- milligrams are. Definitions only.
use Rattle.refusal.specs.Refused.{refused}
use Rattle.std.specs.Prelude.{ℕ, ◌*◌, ◌≤◌, ◌<◌, ◌≡◌, Float, Some, None, Ok}
use Rattle.std.specs.Float.{binary64}
use Rattle.std.specs.Float.Ieee.{div, mul}
use Rattle.num_working.specs.Number.{whole}
use Rattle.sheet_text.specs.Field.{Field}
use Rattle.sheet_line.specs.declared.cylinder.Kind.{Kind}
use Rattle.sheet_line.specs.declared.cylinder.Cylinder.{Cylinder}
use Rattle.eos_state.specs.declared.State.{State}
use Rattle.equation.specs.Equation.{of1996}
use Rattle.door_limits.specs.declared.Limits.{Limits}
use Rattle.door_answers.specs.Answer.{Answer}
use Rattle.door_pressure.specs.PressureDoor.{pressure_door}
use Rattle.door_density.specs.DensityDoor.{density_door}
use Rattle.num_whole.specs.Whole.{whole_below}

-- a kind whose value is asked at a door, with a temperature; one that was weighed is asked at none
pub data AtDoor : Kind → Type 0 where
  for_pressure : AtDoor Kind.Pressure
  for_density : AtDoor Kind.Density

-- a field that the line requires is blank: `-` in its place
pub data Dashed (c : Cylinder) : Type 0 where
  in_number : c.number ≡ None → Dashed c
  in_temperature : AtDoor c.kind → c.temperature ≡ None → Dashed c
  in_value : c.value ≡ None → Dashed c
  in_volume : c.volume ≡ None → Dashed c

-- RULES 2.4, in mL
pub record Volume (v : ℕ) : Type 0 where
  pub at_least : 1 ≤ v
  pub at_most : v ≤ 1_000_000

pub data NoVolume (v : ℕ) : Type 0 where
  none : v ≡ 0 → NoVolume v
  too_large : 1_000_000 < v → NoVolume v

-- RULES 2.4, in g
pub record Mass (g : ℕ) : Type 0 where
  pub at_least : 1 ≤ g
  pub at_most : g ≤ 9_999_999_999

pub data NoMass (g : ℕ) : Type 0 where
  no_grams : g ≡ 0 → NoMass g
  too_heavy : 9_999_999_999 < g → NoMass g

-- RULES 6.7: a weighed line with none of its number, value and volume blank, whatever its temperature is
pub record OnScale (c : Cylinder) (v g : ℕ) : Type 0 where
  pub cylinder : ℕ
  pub number : c.number ≡ Some cylinder
  pub kind : c.kind ≡ Kind.Weighed
  pub value : c.value ≡ Some g
  pub volume : c.volume ≡ Some v

-- ρ times the volume
abbrev pub product : State → ℕ → Float
product s v = mul binary64 s.rho (whole v)

module _ (L : Limits) where
  -- RULES 6.4: the door that a kind and its value ask, a pressure being the number itself and a density the number over 1000
  pub data Asked (t : Float) : Kind → Field → Answer → Type 0 where
    by_pressure : (n : ℕ) → Asked t Kind.Pressure (Some n) (pressure_door of1996 L t (whole n))
    by_density : (n : ℕ) → Asked t Kind.Density (Some n) (density_door of1996 L t (div binary64 (whole n) (whole 1000)))

  -- a door's line with none blank: its figures, the temperature being the number over 10000, and what its door answers
  pub record Figures (c : Cylinder) (v : ℕ) (a : Answer) : Type 0 where
    pub cylinder : ℕ
    pub degrees : ℕ
    pub number : c.number ≡ Some cylinder
    pub temperature : c.temperature ≡ Some degrees
    pub volume : c.volume ≡ Some v
    pub asked : Asked (div binary64 (whole degrees) (whole 10000)) c.kind c.value a

  -- when a line by itself is refused, and by which number
  pub data RefusesLine (c : Cylinder) : ℕ → Type 0 where
    blank : Dashed c → RefusesLine c 1
    no_volume : {v : ℕ} {a : Answer} → Figures c v a → NoVolume v → RefusesLine c 2
    no_volume_weighed : {v g : ℕ} → OnScale c v g → NoVolume v → RefusesLine c 2
    no_mass : {v g : ℕ} → OnScale c v g → Volume v → NoMass g → RefusesLine c 23
    by_door : {v n : ℕ} → Figures c v (refused n) → Volume v → RefusesLine c n
    no_product : {v : ℕ} {s : State} → Figures c v (Ok s) → Volume v → whole_below (product s v) ≡ None → RefusesLine c 7

  -- what an answered line's milligrams are: RULES 6.5, the whole number at or below the one product; RULES 6.7, 1000 times the grams
  pub data Weighs (c : Cylinder) : ℕ → Type 0 where
    by_product : {v mg : ℕ} {s : State} → Figures c v (Ok s) → Volume v → whole_below (product s v) ≡ Some mg → Weighs c mg
    by_scale : {v g : ℕ} → OnScale c v g → Volume v → Mass g → Weighs c (1000 * g)
