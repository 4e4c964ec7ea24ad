-- An answer's state was worked at its temperature and density, so its count is the equation's there, of any equation that is lawful; and no step of a door
-- looks at a count, of any equation. Over any limits, of 1996, and of the public functions. Assumes nothing.
use Rattle.refusal.specs.Refused.{refused}
use Rattle.num_halving.specs.declared.Missed.TheVariants.{Nowhere, Broke}
use Rattle.std.specs.Prelude.{Some, None, Ok, Err}
use Prim.Native.Nat.{ℕ}
use mathlib.Core.Path.{◌≡◌, refl, sym, ap, ◌∙◌}
use mathlib.Core.Bool.{Bool, true, false, cond, ◌&&◌, not}
use lib.Ieee.{Float, binary64, eq, lt, le, of_bits, to_bits}
use Rattle.num_working.specs.Working.{or_else, Worked}
use Rattle.num_halving.specs.Halving.{halve, Crossing}
use Rattle.num_formulas.specs.Formula.{work}
use Rattle.eos_constants.specs.Reduced.{delta}
use Rattle.eos_isotherm.specs.Isotherm.{isotherm}
use Rattle.eos_isotherm.specs.declared.Isotherm.{Isotherm}
use Rattle.eos_brackets.specs.declared.Five.{Five}
use Rattle.eos_terms.specs.Fallen.{fallen_at, fallen_terms}
use Rattle.eos_residual.specs.Sum.{five_sums, Sums}
use Rattle.eos_ideal.specs.Ideal.{ideal_part}
use Rattle.eos_pressure.specs.Pressure.{pressure_formula}
use Rattle.eos_state.specs.State as state
use Rattle.eos_state.specs.State.{state_of, state_ideal, then_sums, Stated}
use Rattle.eos_state.specs.declared.Phase.{Phase}
use Rattle.eos_state.specs.declared.Phase.TheVariants.{Vapour, Liquid, Supercritical}
use Rattle.eos_state.specs.declared.State.{State}
use Rattle.equation.specs.Equation.{Equation, Lawful, of1996, curve, state_on}
use Rattle.equation.proofs.Laws.{lawful}
use Rattle.door_limits.specs.Limits.{outside, search_ends}
use Rattle.door_limits.specs.declared.Limits.{Limits}
use Rattle.door_checks.specs.Check.{ranged, boxed, solid, Check}
use Rattle.door_answers.specs.Answer.{passed, answer_with, Answer}
use Rattle.door_pressure.specs.Search.{figure, found, searched}
use Rattle.door_pressure.specs.PressureDoor as pressure
use Rattle.door_pressure.proofs.from_pressure.Reads as from_pressure
use Rattle.door_density.specs.DensityDoor as density
use Rattle.door_density.proofs.from_density.Reads as from_density
use Rattle.demands.specs.Demands.{Whatever}
use Rattle.demands.specs.Counts.{PressureCounts, DensityCounts, SameCount, forgotten_in, forgotten_of, uncounted, StateBefore, PressureButForCount, DensityButForCount}
use Rattle.demands.proofs.PressureDoors.{pressure_answers}
use Rattle.demands.proofs.DensityDoors.{density_answers}

-- ---- the count of an answer
at_its_own : (f : Float → Float → ℕ) (x : State) (t rho : Float) → x.t ≡ t → x.rho ≡ rho → x.fallen ≡ f t rho → x.fallen ≡ f x.t x.rho
at_its_own f x t rho e d h = h ∙ (λ i. f (sym e i) (sym d i))

module _ (E : Equation) (L : Limits) (lawful : Lawful E) where
  pub pressure_counts : PressureCounts E L
  pressure_counts t p x e =
      let a = pressure_answers E L lawful t p x e in
      let d = of_bits binary64 a.bits in
      at_its_own E.fallen x t d a.temperature (lawful.density t x.phase d x a.worked) (lawful.fallen t x.phase d x a.worked)

  pub density_counts : DensityCounts E L
  density_counts t rho x e =
      let a = density_answers E L lawful t rho x e in
      at_its_own E.fallen x t rho a.temperature a.density (lawful.fallen t x.phase rho x a.stated)

  pub same_count : SameCount E L
  same_count t p x y e f =
      let a = pressure_answers E L lawful t p x e in
      let b = density_answers E L lawful t x.rho y f in
      lawful.fallen t y.phase x.rho y b.stated ∙ ap (λ (s : Float). E.fallen s x.rho) (sym a.temperature) ∙ sym (pressure_counts t p x e)

pub from_pressure_counts : Whatever (from_pressure.Post tt) (λ a r. (x : State) → r ≡ Ok x → x.fallen ≡ fallen_at x.t x.rho)
unfolding of1996
from_pressure_counts a r s h x e = pressure_counts of1996 a.0 lawful a.1.0 a.1.1.0 x (sym h ∙ e)

pub from_density_counts : Whatever (from_density.Post tt) (λ a r. (x : State) → r ≡ Ok x → x.fallen ≡ fallen_at x.t x.rho)
unfolding of1996
from_density_counts a r s h x e = density_counts of1996 a.0 lawful a.1.0 a.1.1.0 x (sym h ∙ e)

pub from_density_same_count : Whatever (from_pressure.Post tt) (λ a r. (x : State) → r ≡ Ok x
    → Whatever (from_density.Post tt) (λ b q. b.0 ≡ a.0 → b.1.0 ≡ a.1.0 → b.1.1.0 ≡ x.rho → (y : State) → q ≡ Ok y → y.fallen ≡ x.fallen))
from_density_same_count a r s h x e b q u k o f g y l =
    same_count of1996 a.0 lawful a.1.0 a.1.1.0 x y (sym h ∙ e) (rw (← o, ← f, ← g) (sym k ∙ l))

-- ---- but for the count
stated_else : (w : Worked) (f g : Float → Stated) → ((x : Float) → forgotten_in (f x) ≡ g x) → forgotten_in (or_else w None f) ≡ or_else w None g
stated_else None f g h = refl
stated_else (Some x) f g h = h x

after_sums : (v : Sums) (f g : Five → Stated) → ((s : Five) → forgotten_in (f s) ≡ g s) → forgotten_in (then_sums v f) ≡ then_sums v g
after_sums None f g h = refl
after_sums (Some s) f g h = h s

of_state : (s : Stated) → forgotten_of (answer_with s) ≡ answer_with (forgotten_in s)
of_state None = refl
of_state (Some x) = refl

-- an answer that was, but for its count, that one
record Was (before now : Answer) : Type 0 where
  pub is : forgotten_of now ≡ before

after_check : (c : Check) {a b : Answer} → Was b a → Was (passed c b) (passed c a)
after_check (Err n) h = record { is = refl }
after_check (Ok tt) h = h

after_test : (t : Bool) {a b x y : Answer} → Was x a → Was y b → Was (cond t x y) (cond t a b)
after_test true h k = h
after_test false h k = k

after_working : (w : Worked) (n : ℕ) (f g : Float → Answer) → ((x : Float) → Was (g x) (f x)) → Was (or_else w (refused n) g) (or_else w (refused n) f)
after_working None n f g h = record { is = refl }
after_working (Some x) n f g h = h x

refuses : (n : ℕ) → Was (refused n) (refused n)
refuses n = record { is = refl }

after_search : (s : Float → Stated) (c : Crossing) → Was (found (λ rho. forgotten_in (s rho)) c) (found s c)
after_search s (Ok b) = record { is = of_state (s (of_bits binary64 b)) }
after_search s (Err Nowhere) = refuses 9
after_search s (Err Broke) = refuses 7

-- ---- the state of 1996
ideal_before : (phase : Phase) (n : ℕ) (t : Float) (iso : Isotherm) (rho : Float) (sums : Five)
    → forgotten_in (state_ideal phase n t iso rho sums) ≡ state_ideal phase 0 t iso rho sums
unfolding state_ideal state_of
ideal_before phase n t iso rho sums =
    stated_else (ideal_part iso.tau).first _ _ (λ i1. stated_else (ideal_part iso.tau).second _ _ (λ i2.
    stated_else (work (pressure_formula t rho sums.d)) _ _ (λ p. stated_else (work (state.energy t sums i1)) _ _ (λ u.
    stated_else (work (state.enthalpy t sums i1)) _ _ (λ h. stated_else (work (state.heat_v sums i2)) _ _ (λ cv.
    stated_else (work (state.heat_p sums i2)) _ _ (λ cp. stated_else (work (state.sound t sums i2)) _ _ (λ w. refl))))))))

pub state_before : StateBefore
unfolding of1996 state_on curve state.state_on
state_before t phase rho =
    stated_else (work (delta rho)) _ _ (λ δ. after_sums (five_sums (isotherm t) δ) _ _ (ideal_before phase (fallen_terms (isotherm t) δ) t (isotherm t) rho))

-- ---- the doors
module _ (E : Equation) (L : Limits) where
  module _ (t p : Float) where
    search_was : (phase : Phase) (from to : Float)
        → Was (searched (E.pressure t) (λ rho. forgotten_in (E.state t phase rho)) from to p) (searched (E.pressure t) (E.state t phase) from to p)
    unfolding searched
    search_was phase from to = after_search (E.state t phase) (halve (figure (E.pressure t)) p (to_bits binary64 from) (to_bits binary64 to))

    pressure_was : Was (pressure.pressure_door (uncounted E) L t p) (pressure.pressure_door E L t p)
    unfolding pressure.pressure_door pressure.thawed pressure.unboxed pressure.entered pressure.beneath pressure.vapour pressure.liquid
    pressure_was =
        after_check (ranged L.asked.temperature L.asked.pressure t p)
        (after_check (solid (E.melting_pressure t) p)
        (after_check (boxed L.critical.temperature L.critical.pressure t p)
        (after_test (le E.critical t) (search_was Supercritical search_ends.from search_ends.to)
        (after_working (E.vapour_pressure t) 7 _ _ (λ s. after_test (eq p s) (refuses 8) (after_test (lt p s)
        (after_working (pressure.scaled search_ends.vapour (E.vapour_density t)) 7 _ _ (search_was Vapour search_ends.from))
        (after_working (pressure.scaled search_ends.liquid (E.liquid_density t)) 7 _ _ (λ from. search_was Liquid from search_ends.to))))))))

  module _ (t rho : Float) where
    phase_was : (phase : Phase) → Was (density.in_phase (uncounted E) L phase t rho) (density.in_phase E L phase t rho)
    unfolding density.in_phase
    phase_was phase =
        after_working (E.pressure t rho) 7 _ _ (λ p. after_test (outside L.asked.pressure p) (refuses 5)
        (after_check (solid (E.melting_pressure t) p) (record { is = of_state (E.state t phase rho) })))

    density_was : Was (density.density_door (uncounted E) L t rho) (density.density_door E L t rho)
    unfolding density.density_door density.unboxed density.entered density.beneath
    density_was =
        after_check (ranged L.asked.temperature L.asked.density t rho)
        (after_check (boxed L.critical.temperature L.critical.density t rho)
        (after_test (le E.critical t) (phase_was Supercritical)
        (after_working (E.vapour_density t) 7 _ _ (λ v. after_working (E.liquid_density t) 7 _ _ (λ l.
        after_test (lt v rho && lt rho l) (refuses 8) (after_test (not (lt v rho)) (phase_was Vapour) (phase_was Liquid)))))))

  pub pressure_but_for_count : PressureButForCount E L
  pressure_but_for_count t p = (pressure_was t p).is

  pub density_but_for_count : DensityButForCount E L
  density_but_for_count t rho = (density_was t rho).is

pub from_pressure_but_for_count : Whatever (from_pressure.Post tt) (λ a r. forgotten_of r ≡ pressure.pressure_door (uncounted of1996) a.0 a.1.0 a.1.1.0)
from_pressure_but_for_count a r s h = rw h (pressure_but_for_count of1996 a.0 a.1.0 a.1.1.0)

pub from_density_but_for_count : Whatever (from_density.Post tt) (λ a r. forgotten_of r ≡ density.density_door (uncounted of1996) a.0 a.1.0 a.1.1.0)
from_density_but_for_count a r s h = rw h (density_but_for_count of1996 a.0 a.1.0 a.1.1.0)
