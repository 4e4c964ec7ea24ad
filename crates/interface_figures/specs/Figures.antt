-- RULES 12: what a caller in another language gets of a door or of saturation, a number back and figures in what it lent. Definitions only.
use Rattle.std.specs.Prelude.{ℕ, ◌≡◌, Bool, cond, List, [], ◌∷◌, ◌++◌, leb, ltb, length, take, drop, Float, Some, None, Ok, Err}
use Rattle.num_working.specs.Number.{whole}
use Rattle.eos_state.specs.State.{eight}
use Rattle.eos_state.specs.declared.Phase.{Phase}
use Rattle.eos_state.specs.declared.State.{State}
use Rattle.door_answers.specs.Answer.{Answer}
use Rattle.door_conductivity.specs.declared.Carried.{Carried}
use Rattle.door_conductivity.specs.Conducted.{Conductivity, Conducted}
use Rattle.door_saturation.specs.declared.Saturation.{Saturation}
use Rattle.door_saturation.specs.Saturation.{Saturated}

-- where fewer are lent than the answer has at least: 15, whatever the answer is, and the figures, which were `old`, stay
-- else the answer's number, and the figures become `given`
pub record HandedIn (least : ℕ) (old new given : List Float) (n r : ℕ) : Type 0 where
  pub number : r ≡ cond (ltb (length old) least) 15 n
  pub figures : new ≡ cond (ltb (length old) least) old given

-- vapour, liquid, supercritical: above every refusal number
abbrev pub phase_number : Phase → ℕ
phase_number Phase.Vapour = 256
phase_number Phase.Liquid = 257
phase_number Phase.Supercritical = 258

-- T, p, ρ, u, h, cᵥ, cₚ and w over the front of the figures: those after the eighth stay
unfoldable pub with_eight : State → List Float → List Float
with_eight s figures = eight s ++ drop 8 figures

-- ---- a door

abbrev pub number_of : Answer → ℕ
number_of (Ok s) = phase_number s.phase
number_of (Err n) = n.0

abbrev pub figures_of : Answer → List Float → List Float
figures_of (Ok s) figures = with_eight s figures
figures_of (Err n) figures = figures

-- the phase's number and the eight numbers, or the refusal's number and the figures stay
abbrev pub AnsweredIn : List Float → List Float → Answer → ℕ → Type 0
AnsweredIn old new a = HandedIn 8 old new (figures_of a old) (number_of a)

-- ---- a door, with all that a state carries

-- numbers over the front of the figures as far as there is room: figures after them stay
unfoldable pub laid_over : List Float → List Float → List Float
laid_over numbers figures = take (length figures) numbers ++ drop (length numbers) figures

-- the eight numbers, then how many terms fell away
abbrev pub counted : State → List Float
counted s = eight s ++ (whole s.fallen ∷ [])

-- then the thermal conductivity, where it was asked for
abbrev pub on_request : Conductivity → List Float
on_request None = []
on_request (Some x) = x ∷ []

abbrev pub carried : Carried → List Float
carried c = counted c.state ++ on_request c.conductivity

abbrev pub conducted_number : Conducted → ℕ
conducted_number (Ok c) = phase_number c.state.phase
conducted_number (Err n) = n.0

abbrev pub carried_of : Conducted → List Float → List Float
carried_of (Ok c) figures = laid_over (carried c) figures
carried_of (Err n) figures = figures

-- whoever lends ten asks for the conductivity
unfoldable pub asked : List Float → Bool
asked figures = leb 10 (length figures)

-- as AnsweredIn, with all that the state carries in place of its eight numbers
abbrev pub CarriedIn : List Float → List Float → Conducted → ℕ → Type 0
CarriedIn old new a = HandedIn 8 old new (carried_of a old) (conducted_number a)

-- the same of a door that isn't asked for the conductivity: what is handed over where fewer than ten are lent (`unasked`, proofs/Callers.antt)
abbrev pub counted_of : Answer → List Float → List Float
counted_of (Ok s) figures = laid_over (counted s) figures
counted_of (Err n) figures = figures

abbrev pub CountedIn : List Float → List Float → Answer → ℕ → Type 0
CountedIn old new a = HandedIn 8 old new (counted_of a old) (number_of a)

-- ---- saturation

-- the vapour pressure, the saturated vapour density and the saturated liquid density over the front of the figures: those after the third stay
unfoldable pub with_three : Saturation → List Float → List Float
with_three s figures = s.pressure ∷ s.vapour ∷ s.liquid ∷ drop 3 figures

abbrev pub saturated_number : Saturated → ℕ
saturated_number (Ok s) = 259
saturated_number (Err n) = n.0

abbrev pub saturated_of : Saturated → List Float → List Float
saturated_of (Ok s) figures = with_three s figures
saturated_of (Err n) figures = figures

abbrev pub SaturatedIn : List Float → List Float → Saturated → ℕ → Type 0
SaturatedIn old new s = HandedIn 3 old new (saturated_of s old) (saturated_number s)
