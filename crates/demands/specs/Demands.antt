-- RULES 10.1: what is demanded of the doors, over any equation and any limits: when each refusal is given, and what an answer means. Definitions only.
use Rattle.refusal.specs.Refused.{refused}
use Rattle.std.specs.Prelude.{ℕ, ◌+◌, ◌<◌, ◌≤◌, ◌≡◌, Bool, true, false, ◌&&◌, not, T, Float, Some, None, Ok}
use Rattle.std.specs.Float.{binary64}
use Rattle.std.specs.Float.Ieee.{eq, lt, le, of_bits, to_bits}
use Rattle.std.specs.Float.Ieee.Scale.{finite}
use Rattle.num_halving.specs.Halving.{Found, NoCrossing, Breaks, halve}
use Rattle.eos_state.specs.State.{eight}
use Rattle.eos_state.specs.declared.Phase.{Phase}
use Rattle.eos_state.specs.declared.Phase.TheVariants.{Vapour, Liquid, Supercritical}
use Rattle.eos_state.specs.declared.State.{State}
use Rattle.equation.specs.Equation.{Equation}
use Rattle.door_limits.specs.Limits.{outside, search_ends}
use Rattle.door_limits.specs.declared.Range.{Range}
use Rattle.door_limits.specs.declared.Limits.{Limits}
use Rattle.door_answers.specs.Answer.{Answer}
use Rattle.door_pressure.specs.Search.{figure}
use Rattle.door_pressure.specs.PressureDoor.{scaled, pressure_door}
use Rattle.door_density.specs.DensityDoor.{density_door}

-- ---- RULES 3.3, the checks on what is asked: 3, 4, 5, each only where none before it holds; and the critical box, 6
module _ (ts xs : Range) (t x : Float) where
  pub data OutOfRange : ℕ → Type 0 where
    no_number : finite t && finite x ≡ false → OutOfRange 3
    no_temperature : finite t && finite x ≡ true → outside ts t ≡ true → OutOfRange 4
    no_value : finite t && finite x ≡ true → outside ts t ≡ false → outside xs x ≡ true → OutOfRange 5

  pub record InRange : Type 0 where
    pub numbers : finite t && finite x ≡ true
    pub temperature : outside ts t ≡ false
    pub value : outside xs x ≡ false

  abbrev pub in_box : Bool
  in_box = not (outside ts t) && not (outside xs x)

-- ---- RULES 5.4: not solid, which is at the melting pressure or below it
pub record Fluid (E : Equation) (t p : Float) : Type 0 where
  pub melting : Float
  pub worked : E.melting_pressure t ≡ Some melting
  pub not_above : lt melting p ≡ false

module _ (E : Equation) (L : Limits) where
  -- ---- RULES 5.1: the pressure door
  module _ (t p : Float) where
    abbrev pub InRangeP : Type 0
    InRangeP = InRange L.asked.temperature L.asked.pressure t p

    abbrev pub in_box_p : Bool
    in_box_p = in_box L.critical.temperature L.critical.pressure t p

    pub record PastP : Type 0 where
      pub ranged : InRangeP
      pub fluid : Fluid E t p
      pub unboxed : in_box_p ≡ false

    -- below the critical temperature: p lower than the vapour pressure there, or higher
    pub data Beside : Phase → Type 0 where
      lower : {s : Float} → le E.critical t ≡ false → E.vapour_pressure t ≡ Some s → eq p s ≡ false → lt p s ≡ true → Beside Vapour
      higher : {s : Float} → le E.critical t ≡ false → E.vapour_pressure t ≡ Some s → eq p s ≡ false → lt p s ≡ false → Beside Liquid

    -- the range for the phase
    pub data Ranged : Phase → Float → Float → Type 0 where
      supercritical : le E.critical t ≡ true → Ranged Supercritical search_ends.from search_ends.to
      vapour : {to : Float} → Beside Vapour → scaled search_ends.vapour (E.vapour_density t) ≡ Some to → Ranged Vapour search_ends.from to
      liquid : {from : Float} → Beside Liquid → scaled search_ends.liquid (E.liquid_density t) ≡ Some from → Ranged Liquid from search_ends.to

    -- when the door refuses, and by which number
    pub data RefusesP : ℕ → Type 0 where
      out_of_range : {n : ℕ} → OutOfRange L.asked.temperature L.asked.pressure t p n → RefusesP n
      melting_fails : InRangeP → E.melting_pressure t ≡ None → RefusesP 7
      solid : {m : Float} → InRangeP → E.melting_pressure t ≡ Some m → lt m p ≡ true → RefusesP 19
      in_critical_box : InRangeP → Fluid E t p → in_box_p ≡ true → RefusesP 6
      line_fails : PastP → le E.critical t ≡ false → E.vapour_pressure t ≡ None → RefusesP 7
      on_line : {s : Float} → PastP → le E.critical t ≡ false → E.vapour_pressure t ≡ Some s → eq p s ≡ true → RefusesP 8
      vapour_fails : PastP → Beside Vapour → scaled search_ends.vapour (E.vapour_density t) ≡ None → RefusesP 7
      liquid_fails : PastP → Beside Liquid → scaled search_ends.liquid (E.liquid_density t) ≡ None → RefusesP 7
      -- demand 3: 9 where the range holds fewer than two floats, or the pressures at both ends are finite and the lower end's is above the one asked or the
      -- upper end's is not
      no_crossing : {phase : Phase} {from to : Float} → PastP → Ranged phase from to → NoCrossing (figure (E.pressure t)) p (to_bits binary64 from) (to_bits binary64 to) → RefusesP 9
      probe_fails : {phase : Phase} {from to : Float} → PastP → Ranged phase from to → to_bits binary64 from < to_bits binary64 to
          → Breaks (figure (E.pressure t)) p (to_bits binary64 from) (to_bits binary64 to) → RefusesP 7
      state_fails : {phase : Phase} {from to : Float} {r : ℕ} → PastP → Ranged phase from to → halve (figure (E.pressure t)) p (to_bits binary64 from) (to_bits binary64 to) ≡ Ok r
          → E.state t phase (of_bits binary64 r) ≡ None → RefusesP 7

    -- what an answer means; Found is demand 3: the density and the next float above it lie in the range for the phase, and the pressure worked at the first is
    -- finite and not above the one asked, at the second finite and above it
    pub record Answered (x : State) : Type 0 where
      pub from : Float
      pub to : Float
      pub bits : ℕ
      pub past : PastP
      pub ranged : Ranged x.phase from to
      pub found : Found (figure (E.pressure t)) p (to_bits binary64 from) (to_bits binary64 to) bits
      pub worked : E.state t x.phase (of_bits binary64 bits) ≡ Some x
      pub temperature : x.t ≡ t
      pub pressure : E.pressure t (of_bits binary64 bits) ≡ Some x.p

  -- ---- RULES 5.2: the density door
  module _ (t rho : Float) where
    abbrev pub InRangeD : Type 0
    InRangeD = InRange L.asked.temperature L.asked.density t rho

    abbrev pub in_box_d : Bool
    in_box_d = in_box L.critical.temperature L.critical.density t rho

    pub record PastD : Type 0 where
      pub ranged : InRangeD
      pub unboxed : in_box_d ≡ false

    -- the phase of a density that is none between the saturated ones
    pub data Phased : Phase → Type 0 where
      above_critical : le E.critical t ≡ true → Phased Supercritical
      as_vapour : {v l : Float} → le E.critical t ≡ false → E.vapour_density t ≡ Some v → E.liquid_density t ≡ Some l → lt v rho ≡ false → Phased Vapour
      as_liquid : {v l : Float} → le E.critical t ≡ false → E.vapour_density t ≡ Some v → E.liquid_density t ≡ Some l → lt v rho ≡ true → lt rho l ≡ false → Phased Liquid

    pub data RefusesD : ℕ → Type 0 where
      out_of_ranges : {n : ℕ} → OutOfRange L.asked.temperature L.asked.density t rho n → RefusesD n
      in_the_box : InRangeD → in_box_d ≡ true → RefusesD 6
      no_vapour : PastD → le E.critical t ≡ false → E.vapour_density t ≡ None → RefusesD 7
      no_liquid : {v : Float} → PastD → le E.critical t ≡ false → E.vapour_density t ≡ Some v → E.liquid_density t ≡ None → RefusesD 7
      between : {v l : Float} → PastD → le E.critical t ≡ false → E.vapour_density t ≡ Some v → E.liquid_density t ≡ Some l → lt v rho ≡ true → lt rho l ≡ true → RefusesD 8
      no_pressure : {phase : Phase} → PastD → Phased phase → E.pressure t rho ≡ None → RefusesD 7
      pressure_outside : {phase : Phase} {p : Float} → PastD → Phased phase → E.pressure t rho ≡ Some p → outside L.asked.pressure p ≡ true → RefusesD 5
      no_melting : {phase : Phase} {p : Float} → PastD → Phased phase → E.pressure t rho ≡ Some p → outside L.asked.pressure p ≡ false → E.melting_pressure t ≡ None → RefusesD 7
      solid_there : {phase : Phase} {p m : Float} → PastD → Phased phase → E.pressure t rho ≡ Some p → outside L.asked.pressure p ≡ false
          → E.melting_pressure t ≡ Some m → lt m p ≡ true → RefusesD 19
      no_state : {phase : Phase} {p : Float} → PastD → Phased phase → E.pressure t rho ≡ Some p → outside L.asked.pressure p ≡ false → Fluid E t p → E.state t phase rho ≡ None → RefusesD 7

    pub record AnsweredD (x : State) : Type 0 where
      pub past : PastD
      pub phased : Phased x.phase
      pub temperature : x.t ≡ t
      pub density : x.rho ≡ rho
      pub pressure : E.pressure t rho ≡ Some x.p
      pub within : outside L.asked.pressure x.p ≡ false
      pub fluid : Fluid E t x.p
      pub stated : E.state t x.phase rho ≡ Some x

-- ---- the demands

abbrev pub Exactly : Type 0 → Type 0 → Type 0
Exactly A B = (A → B) × (B → A)

-- RULES 3.1: the numbers of refusals from one on, a door's from 3 and from 1 those of a line that asks a door, up to 9; and 19
pub data Numbered (first : ℕ) : ℕ → Type 0 where
  to_9 : (n : ℕ) → first ≤ n → n ≤ 9 → Numbered first n
  is_19 : Numbered first 19

-- demand 1: whatever numbers come in, there is an answer or one of a door's refusals, and a refused state carries no figures
pub data Settled (a : Answer) : Type 0 where
  given : (x : State) → a ≡ Ok x → Settled a
  not_given : (n : ℕ) → a ≡ refused n → Numbered 3 n → Settled a

module _ (E : Equation) (L : Limits) where
  -- each refusal exactly under its condition
  abbrev pub PressureRefusals : Type 0
  PressureRefusals = (t p : Float) (n : ℕ) → Exactly (pressure_door E L t p ≡ refused n) (RefusesP E L t p n)

  abbrev pub DensityRefusals : Type 0
  DensityRefusals = (t rho : Float) (n : ℕ) → Exactly (density_door E L t rho ≡ refused n) (RefusesD E L t rho n)

  -- demand 3
  abbrev pub PressureAnswers : Type 0
  PressureAnswers = (t p : Float) (x : State) → pressure_door E L t p ≡ Ok x → Answered E L t p x

  -- that density and the next float above it lie in the range for the phase, as floats
  abbrev pub LiesInRange : Type 0
  LiesInRange = (t p : Float) (x : State) (a : Answered E L t p x) → (x.rho ≡ of_bits binary64 a.bits) × T (le a.from x.rho) × T (le (of_bits binary64 (a.bits + 1)) a.to)

  abbrev pub NoCrossingExactly : Type 0
  NoCrossingExactly = (t p : Float) (phase : Phase) (from to : Float) → PastP E L t p → Ranged E L t p phase from to
      → Exactly (pressure_door E L t p ≡ refused 9) (NoCrossing (figure (E.pressure t)) p (to_bits binary64 from) (to_bits binary64 to))

  abbrev pub DensityAnswers : Type 0
  DensityAnswers = (t rho : Float) (x : State) → density_door E L t rho ≡ Ok x → AnsweredD E L t rho x

  -- RULES 5.3: where the density door answers for what the pressure door gave, none of the eight numbers differs by a bit
  abbrev pub SameEight : Type 0
  SameEight = (t p : Float) (x y : State) → pressure_door E L t p ≡ Ok x → density_door E L t x.rho ≡ Ok y → eight y ≡ eight x

  -- and it never calls that solid
  abbrev pub FluidBothWays : Type 0
  FluidBothWays = (t p : Float) (x : State) → pressure_door E L t p ≡ Ok x → density_door E L t x.rho ≡ refused 19 → ⊥

-- whatever meets a public function's promise (`Post`, its own `ensures`) has it: called with a it answers r, and s is what a holds afterwards
abbrev pub Whatever : {A R S : Type 0} → (A → R → S → Type 0) → (A → R → Type 0) → Type 0
Whatever {A} {R} {S} Post Q = (a : A) (r : R) (s : S) → Post a r s → Q a r
