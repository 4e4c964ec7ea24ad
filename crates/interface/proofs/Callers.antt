-- What a caller may take from the promises of the two functions that give all that a state carries, what stands in the figures, by how many are lent; and
-- from that of many states at once. Assumes nothing.
use Rattle.std.specs.Prelude.{Some, Ok}
use mathlib.Core.Path.{◌≡◌, refl}
use mathlib.Core.List.{List}
use Prim.Native.Nat.{ℕ, ◌*◌, ◌≤◌, ◌<◌}
use contract.Lifetimes.{Lfts}
use denote.MutBor.{MutBor}
use lib.ListN.{length, get_or}
use lib.Ieee.{Float, nan}
use Rattle.eos_state.specs.declared.State.{State}
use Rattle.equation.specs.Equation.{of1996}
use Rattle.door_limits.specs.Limits.{document01}
use Rattle.door_answers.specs.Answer.{Answer}
use Rattle.door_pressure.specs.PressureDoor.{pressure_door}
use Rattle.door_density.specs.DensityDoor.{density_door}
use Rattle.door_conductivity.specs.Conducted.{conducting, with_conductivity}
use Rattle.interface_figures.specs.Figures.{asked, CarriedIn, CountedIn}
use Rattle.interface_figures.proofs.Callers.{unasked, ten_ask, tenth}
use Rattle.interface_figures.proofs.Unique.{one_handed}
use Rattle.interface_states.proofs.Places.{ten}
use Rattle.interface_states.proofs.Callers.{worked, place, unworked}
use Rattle.interface_states.proofs.Unique.{AnswersAndFigures}
use Rattle.interface.proofs.makhroeng_state_from_pressure.Reads as state_from_pressure
use Rattle.interface.proofs.makhroeng_state_from_density.Reads as state_from_density
use Rattle.interface.proofs.makhroeng_states_from_pressure.Reads as states_from_pressure

-- ---- of the two functions: whatever meets the promise of one that writes into its third argument

abbrev Figures : {A S T U : Type 0} → (A → ℕ → S × (T × (MutBor (List Float) × U)) → Type 0) → (A → ℕ → List Float → Type 0) → Type 0
Figures {A} {S} {T} {U} Post Q = (a : A) (r : ℕ) (x : S × (T × (MutBor (List Float) × U))) → Post a r x → Q a r x.1.1.0.now

-- with fewer than ten lent the door's answer with its count
pub state_from_pressure_unasked : (κs : Lfts 1) → Figures (state_from_pressure.Post κs) (λ a r new. length a.1.1.0.now < 10
    → CountedIn a.1.1.0.now new (pressure_door of1996 document01 a.0 a.1.0) r)
state_from_pressure_unasked κs a r x p h = unasked of1996 _ _ (pressure_door of1996 document01 a.0 a.1.0) r h p

pub state_from_density_unasked : (κs : Lfts 1) → Figures (state_from_density.Post κs) (λ a r new. length a.1.1.0.now < 10
    → CountedIn a.1.1.0.now new (density_door of1996 document01 a.0 a.1.0) r)
state_from_density_unasked κs a r x p h = unasked of1996 _ _ (density_door of1996 document01 a.0 a.1.0) r h p

-- with ten the conductivity of the door's state in the tenth place
asked_tenth : (old new : List Float) (a : Answer) (r : ℕ) → 10 ≤ length old → CarriedIn old new (with_conductivity of1996 (asked old) a) r
    → (s : State) (x : Float) → a ≡ Ok s → of1996.conductivity s.t s.rho ≡ Some x → get_or new 9 nan ≡ x
unfolding conducting
asked_tenth old new a r h p s x e w =
    tenth old new (record { state = s; conductivity = Some x }) x r refl (rw (e, ten_ask old h, w) at p) h

pub state_from_pressure_tenth : (κs : Lfts 1) → Figures (state_from_pressure.Post κs) (λ a r new. 10 ≤ length a.1.1.0.now
    → (s : State) (x : Float) → pressure_door of1996 document01 a.0 a.1.0 ≡ Ok s → of1996.conductivity s.t s.rho ≡ Some x → get_or new 9 nan ≡ x)
state_from_pressure_tenth κs a r x p h s k e w = asked_tenth _ _ _ r h p s k e w

pub state_from_density_tenth : (κs : Lfts 1) → Figures (state_from_density.Post κs) (λ a r new. 10 ≤ length a.1.1.0.now
    → (s : State) (x : Float) → density_door of1996 document01 a.0 a.1.0 ≡ Ok s → of1996.conductivity s.t s.rho ≡ Some x → get_or new 9 nan ≡ x)
state_from_density_tenth κs a r x p h s k e w = asked_tenth _ _ _ r h p s k e w

-- ---- of many states

-- whatever meets its promise, and whatever meets that of one state
abbrev AfterMany : {A S T U : Type 0} → (A → ℕ → AnswersAndFigures S T U → Type 0) → (A → ℕ → List ℕ → List Float → Type 0) → Type 0
AfterMany {A} {S} {T} {U} Post Q = (a : A) (r : ℕ) (x : AnswersAndFigures S T U) → Post a r x → Q a r x.1.1.0.now x.1.1.1.0.now

-- where the lengths fit, it returns 260, and makhroeng_state_from_pressure, where it is lent ten figures as they stand at a place, with the temperature and
-- the pressure there, returns the answer of that place and leaves the figures of that place
pub states_from_pressure_place : (κs : Lfts 4) (κ : Lfts 1) → AfterMany (states_from_pressure.Post κs) (λ a r answers figures.
    length a.1.0.now ≡ length a.0.now → length a.1.1.0.now ≡ length a.0.now
    → length a.1.1.1.0.now ≡ 10 * length a.0.now
    → (r ≡ 260) × ((i : ℕ) (d : Float) → i < length a.0.now → Figures (state_from_pressure.Post κ) (λ b s left.
    b.0 ≡ get_or a.0.now i d → b.1.0 ≡ get_or a.1.0.now i d → b.1.1.0.now ≡ ten i a.1.1.1.0.now
    → (s ≡ get_or answers i 0) × (left ≡ ten i figures))))
states_from_pressure_place κs κ a r x p even room tenfold = (
  worked p even room tenfold,
  λ i d h b s y q t e f. one_handed (rw (t, e, f) at q) (place p even room tenfold i d h),
)

-- and where one doesn't, it returns 15, and all is as it was
pub states_from_pressure_unworked : (κs : Lfts 4) → AfterMany (states_from_pressure.Post κs) (λ a r answers figures.
    ((length a.1.0.now ≡ length a.0.now)
    × ((length a.1.1.0.now ≡ length a.0.now) × (length a.1.1.1.0.now ≡ 10 * length a.0.now)) → ⊥)
    → (r ≡ 15) × ((answers ≡ a.1.1.0.now) × (figures ≡ a.1.1.1.0.now)))
states_from_pressure_unworked κs a r x p = unworked p
