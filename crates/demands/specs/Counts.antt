-- RULES 4.9 and 5.3: how many terms fell away. An answer's count is the definition's at its temperature and density, whichever door gave it; and but for the
-- count every answer is what it was. Definitions only.
use Rattle.std.specs.Prelude.{◌≡◌, Float, Some, None, Ok, Err}
use Rattle.num_working.specs.Working.{or_else}
use Rattle.num_formulas.specs.Formula.{work}
use Rattle.eos_constants.specs.Reduced.{delta}
use Rattle.eos_isotherm.specs.Isotherm.{isotherm}
use Rattle.eos_residual.specs.Sum.{five_sums}
use Rattle.eos_state.specs.State.{state_ideal, then_sums, Stated}
use Rattle.eos_state.specs.declared.Phase.{Phase}
use Rattle.eos_state.specs.declared.State.{State}
use Rattle.equation.specs.Equation.{Equation, of1996}
use Rattle.door_limits.specs.declared.Limits.{Limits}
use Rattle.door_answers.specs.Answer.{Answer}
use Rattle.door_pressure.specs.PressureDoor.{pressure_door}
use Rattle.door_density.specs.DensityDoor.{density_door}
use Rattle.demands.specs.Then.{Unknown}

module _ (E : Equation) (L : Limits) where
  abbrev pub PressureCounts : Type 0
  PressureCounts = (t p : Float) (x : State) → pressure_door E L t p ≡ Ok x → x.fallen ≡ E.fallen x.t x.rho

  abbrev pub DensityCounts : Type 0
  DensityCounts = (t rho : Float) (x : State) → density_door E L t rho ≡ Ok x → x.fallen ≡ E.fallen x.t x.rho

  -- so both doors give the same
  abbrev pub SameCount : Type 0
  SameCount = (t p : Float) (x y : State) → pressure_door E L t p ≡ Ok x → density_door E L t x.rho ≡ Ok y → y.fallen ≡ x.fallen

-- ---- but for the count: 0 in its place
abbrev pub forgotten : State → State
forgotten x = record { t = x.t; p = x.p; rho = x.rho; u = x.u; h = x.h; cv = x.cv; cp = x.cp; w = x.w; phase = x.phase; fallen = 0 }

abbrev pub forgotten_in : Stated → Stated
forgotten_in None = None
forgotten_in (Some x) = Some (forgotten x)

abbrev pub forgotten_of : Answer → Answer
forgotten_of (Err n) = Err n
forgotten_of (Ok x) = Ok (forgotten x)

-- an equation whose states count nothing
abbrev pub uncounted : Equation → Equation
uncounted E = record {
  critical = E.critical;
  vapour_pressure = E.vapour_pressure;
  vapour_density = E.vapour_density;
  liquid_density = E.liquid_density;
  melting_pressure = E.melting_pressure;
  pressure = E.pressure;
  state = λ t phase rho. forgotten_in (E.state t phase rho);
  fallen = λ t rho. 0;
  conductivity = E.conductivity;
}

-- the state of such a 1996 is, but for the 0, and for T, which stands beside the isotherm now, word for word what it was, of definitions below it whose
-- texts are seen to say what they said
abbrev pub StateBefore : Type 0
StateBefore = (t : Float) (phase : Phase) (rho : Float)
    → (uncounted of1996).state t phase rho
    ≡ or_else (work (delta rho)) Unknown (λ δ. then_sums (five_sums (isotherm t) δ) (state_ideal phase 0 t (isotherm t) rho))

-- and the doors look at no count: whatever is asked, the eight numbers and the phase, or the refusal, are those of the doors with no count
module _ (E : Equation) (L : Limits) where
  abbrev pub PressureButForCount : Type 0
  PressureButForCount = (t p : Float) → forgotten_of (pressure_door E L t p) ≡ pressure_door (uncounted E) L t p

  abbrev pub DensityButForCount : Type 0
  DensityButForCount = (t rho : Float) → forgotten_of (density_door E L t rho) ≡ density_door (uncounted E) L t rho
