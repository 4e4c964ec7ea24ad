-- RULES 5.5: the thermal conductivity, on request, of whatever a door answered, over any equation. Definitions only.
use Rattle.refusal.specs.Refused.{refused}
use Rattle.std.specs.Prelude.{ℕ, ◌≡◌, true, false, Float, Some, None, Ok, Err}
use Rattle.num_working.specs.Working.{Worked}
use Rattle.eos_state.specs.declared.State.{State}
use Rattle.equation.specs.Equation.{Equation}
use Rattle.door_limits.specs.declared.Limits.{Limits}
use Rattle.door_answers.specs.Answer.{Answer}
use Rattle.door_pressure.specs.PressureDoor.{pressure_door}
use Rattle.door_density.specs.DensityDoor.{density_door}
use Rattle.door_conductivity.specs.Conducted.{with_conductivity, Conducted}
use Rattle.door_conductivity.specs.declared.Carried.{Carried}
use Rattle.demands.specs.Demands.{Exactly, Numbered}

-- an answer without what it carries on request
abbrev pub without_conductivity : Conducted → Answer
without_conductivity (Err n) = Err n
without_conductivity (Ok c) = Ok c.state

-- not asked for: the door's own answer, bit for bit; no conductivity is carried; and nothing hangs on the equation by which it would be worked
pub record Unasked (E : Equation) (a : Answer) : Type 0 where
  pub same : without_conductivity (with_conductivity E false a) ≡ a
  pub none : (c : Carried) → with_conductivity E false a ≡ Ok c → c.conductivity ≡ None
  pub by_any : (F : Equation) → with_conductivity F false a ≡ with_conductivity E false a

-- nor does the door's own answer hang on it: the same equation with any other conductivity
abbrev pub conducted_by : (Float → Float → Worked) → Equation → Equation
conducted_by conductivity E = record {
  critical = E.critical;
  vapour_pressure = E.vapour_pressure;
  vapour_density = E.vapour_density;
  liquid_density = E.liquid_density;
  melting_pressure = E.melting_pressure;
  pressure = E.pressure;
  state = E.state;
  fallen = E.fallen;
  conductivity = conductivity;
}

module _ (E : Equation) (L : Limits) where
  abbrev pub PressureByAny : Type 0
  PressureByAny = (f : Float → Float → Worked) (t p : Float) → pressure_door (conducted_by f E) L t p ≡ pressure_door E L t p

  abbrev pub DensityByAny : Type 0
  DensityByAny = (f : Float → Float → Worked) (t rho : Float) → density_door (conducted_by f E) L t rho ≡ density_door E L t rho

-- asked for: the door's own refusal, or 7 where the working fails at the T and ρ of its state
pub data RefusesAsked (E : Equation) (a : Answer) : ℕ → Type 0 where
  by_door : {n : ℕ} → a ≡ refused n → RefusesAsked E a n
  no_conductivity : {s : State} → a ≡ Ok s → E.conductivity s.t s.rho ≡ None → RefusesAsked E a 7

-- and answered: the door's own state, bit for bit, with the conductivity at its T and ρ
pub record AnswersAsked (E : Equation) (a : Answer) (c : Carried) : Type 0 where
  pub number : Float
  pub state : a ≡ Ok c.state
  pub worked : E.conductivity c.state.t c.state.rho ≡ Some number
  pub carried : c.conductivity ≡ Some number

abbrev pub AskedRefusals : Equation → Type 0
AskedRefusals E = (a : Answer) (n : ℕ) → Exactly (with_conductivity E true a ≡ refused n) (RefusesAsked E a n)

abbrev pub AskedAnswers : Equation → Type 0
AskedAnswers E = (a : Answer) (c : Carried) → Exactly (with_conductivity E true a ≡ Ok c) (AnswersAsked E a c)

-- demand 1: an answer, or one of a door's refusals
pub data SettledAsked (a : Conducted) : Type 0 where
  given_with : (c : Carried) → a ≡ Ok c → SettledAsked a
  given_none : (n : ℕ) → a ≡ refused n → Numbered 3 n → SettledAsked a

-- RULES 5.3: both doors give the same conductivity
abbrev pub SameConductivity : Equation → Limits → Type 0
SameConductivity E L = (t p : Float) (x y : Carried) → with_conductivity E true (pressure_door E L t p) ≡ Ok x
    → with_conductivity E true (density_door E L t x.state.rho) ≡ Ok y → y.conductivity ≡ x.conductivity
