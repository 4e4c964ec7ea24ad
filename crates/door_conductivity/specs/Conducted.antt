-- RULES 5.5: what a door answers that may be asked for the thermal conductivity too, over any equation. Definitions only.
use Rattle.refusal.specs.Refused.{refused}
use Rattle.std.specs.Prelude.{Bool, cond, Some, None, Ok, Err, Result, Option, Float}
use Rattle.num_working.specs.Working.{or_else}
use Rattle.eos_state.specs.declared.State.{State}
use Rattle.equation.specs.Equation.{Equation}
use Rattle.door_answers.specs.Answer.{Answer}
use Rattle.refusal.specs.declared.Refusal.{Refusal}
use Rattle.door_conductivity.specs.declared.Carried.{Carried}

-- none where it was not asked for
abbrev pub Conductivity : Type 0
Conductivity = Option Float

abbrev pub Conducted : Type 0
Conducted = Result Carried Refusal

abbrev pub carrying : State → Conductivity → Conducted
carrying s conductivity = Ok (record { state = s; conductivity = conductivity })

-- where it is asked for: at the state's T and ρ, or 7 where its working fails
unfoldable pub conducting : Equation → State → Conducted
conducting E s = or_else (E.conductivity s.t s.rho) (refused 7) (λ x. carrying s (Some x))

-- after all steps of the door: its refusal stays; of its state nothing is worked where it isn't asked for
abbrev pub with_conductivity : Equation → Bool → Answer → Conducted
with_conductivity E asked (Err n) = Err n
with_conductivity E asked (Ok s) = cond asked (conducting E s) (carrying s None)
