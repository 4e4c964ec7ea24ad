-- RULES 10.1, over any lawful equation and any limits, of 1996, and of the public functions: whatever meets a door's promise has them. Assumes nothing.
use Rattle.refusal.specs.Refused.{refused}
use Rattle.std.specs.Prelude.{Some, Ok, Err}
use Prim.Native.Nat.{ℕ, ◌+◌}
use mathlib.Core.Path.{◌≡◌, refl, sym, subst, ◌∙◌}
use native.Mathlib.Omega.{arith}
use lib.Dec.{T}
use lib.Ieee.{Float, binary64, le, of_bits, to_bits}
use lib.Ieee.Bits.{of_bits-to_bits}
use Rattle.num_halving.specs.Halving.{NoCrossing}
use Rattle.num_laws.proofs.Orders.{bits_mono}
use Rattle.eos_state.specs.State.{eight}
use Rattle.eos_state.specs.declared.Phase.{Phase}
use Rattle.eos_state.specs.declared.State.{State}
use Rattle.equation.specs.Equation.{Equation, Lawful, of1996}
use Rattle.equation.proofs.Laws.{lawful}
use Rattle.door_limits.specs.declared.Range.{Range}
use Rattle.door_limits.specs.declared.Limits.{Limits}
use Rattle.door_answers.specs.Answer.{Answer}
use Rattle.door_pressure.specs.Search.{figure}
use Rattle.door_pressure.specs.PressureDoor.{pressure_door}
use Rattle.door_pressure.proofs.from_pressure.Reads as from_pressure
use Rattle.door_pressure.proofs.Searches.{bits_below}
use Rattle.door_density.specs.DensityDoor.{density_door}
use Rattle.door_density.proofs.from_density.Reads as from_density
use Rattle.demands.specs.Demands as demands
use Rattle.demands.specs.Demands.{Whatever, Exactly, OutOfRange, no_number, no_temperature, no_value, PastP, Ranged, RefusesP, out_of_range, melting_fails, in_critical_box, line_fails, on_line, vapour_fails, liquid_fails, no_crossing, probe_fails, state_fails, Answered, RefusesD, out_of_ranges, in_the_box, no_vapour, no_liquid, between, no_pressure, pressure_outside, no_melting, solid_there, no_state, AnsweredD, Numbered, to_9, is_19, Settled, given, not_given, SameEight, LiesInRange}
use Rattle.demands.proofs.PressureDoors.{ends, pressure_refusals, pressure_answers, no_crossing_exactly}
use Rattle.demands.proofs.DensityDoors.{density_refusals, density_answers}

-- ---- DEMAND 1: every input is answered or refused, and each refusal is given exactly under its condition
pub from_pressure_refuses : Whatever (from_pressure.Post tt) (λ a r. (n : ℕ) → Exactly (r ≡ refused n) (RefusesP of1996 a.0 a.1.0 a.1.1.0 n))
from_pressure_refuses a r s h n =
    let w = pressure_refusals of1996 a.0 lawful a.1.0 a.1.1.0 n in
    (λ e. w.0 (sym h ∙ e), λ q. h ∙ w.1 q)

pub from_density_refuses : Whatever (from_density.Post tt) (λ a r. (n : ℕ) → Exactly (r ≡ refused n) (RefusesD of1996 a.0 a.1.0 a.1.1.0 n))
from_density_refuses a r s h n =
    let w = density_refusals of1996 a.0 lawful a.1.0 a.1.1.0 n in
    (λ e. w.0 (sym h ∙ e), λ q. h ∙ w.1 q)

-- so no other number is given
of_checks : {temperature value : Range} {t x : Float} {n : ℕ} → OutOfRange temperature value t x n → Numbered 3 n
of_checks (no_number e) = to_9 3 (omega arith) (omega arith)
of_checks (no_temperature e f) = to_9 4 (omega arith) (omega arith)
of_checks (no_value e f g) = to_9 5 (omega arith) (omega arith)

of_pressure : {E : Equation} {L : Limits} {t p : Float} {n : ℕ} → RefusesP E L t p n → Numbered 3 n
of_pressure (out_of_range b) = of_checks b
of_pressure (melting_fails r e) = to_9 7 (omega arith) (omega arith)
of_pressure (demands.solid r e h) = is_19
of_pressure (in_critical_box r f e) = to_9 6 (omega arith) (omega arith)
of_pressure (line_fails q c e) = to_9 7 (omega arith) (omega arith)
of_pressure (on_line q c e f) = to_9 8 (omega arith) (omega arith)
of_pressure (vapour_fails q b e) = to_9 7 (omega arith) (omega arith)
of_pressure (liquid_fails q b e) = to_9 7 (omega arith) (omega arith)
of_pressure (no_crossing q r e) = to_9 9 (omega arith) (omega arith)
of_pressure (probe_fails q r e f) = to_9 7 (omega arith) (omega arith)
of_pressure (state_fails q r e f) = to_9 7 (omega arith) (omega arith)

of_density : {E : Equation} {L : Limits} {t rho : Float} {n : ℕ} → RefusesD E L t rho n → Numbered 3 n
of_density (out_of_ranges b) = of_checks b
of_density (in_the_box r e) = to_9 6 (omega arith) (omega arith)
of_density (no_vapour q c e) = to_9 7 (omega arith) (omega arith)
of_density (no_liquid q c e f) = to_9 7 (omega arith) (omega arith)
of_density (between q c e f g h) = to_9 8 (omega arith) (omega arith)
of_density (no_pressure q r e) = to_9 7 (omega arith) (omega arith)
of_density (pressure_outside q r e f) = to_9 5 (omega arith) (omega arith)
of_density (no_melting q r e f m) = to_9 7 (omega arith) (omega arith)
of_density (solid_there q r e f m h) = is_19
of_density (no_state q r e f m g) = to_9 7 (omega arith) (omega arith)

settled : (r : Answer) → ((n : ℕ) → r ≡ refused n → Numbered 3 n) → Settled r
settled (Ok x) h = given x refl
settled (Err n) h = not_given n.0 refl (h n.0 refl)

pub pressure_settles : (L : Limits) (t p : Float) → Settled (pressure_door of1996 L t p)
pressure_settles L t p = settled _ (λ n e. of_pressure ((pressure_refusals of1996 L lawful t p n).0 e))

pub density_settles : (L : Limits) (t rho : Float) → Settled (density_door of1996 L t rho)
density_settles L t rho = settled _ (λ n e. of_density ((density_refusals of1996 L lawful t rho n).0 e))

pub from_pressure_settles : Whatever (from_pressure.Post tt) (λ a r. Settled r)
from_pressure_settles a r s h = rw h (pressure_settles a.0 a.1.0 a.1.1.0)

pub from_density_settles : Whatever (from_density.Post tt) (λ a r. Settled r)
from_density_settles a r s h = rw h (density_settles a.0 a.1.0 a.1.1.0)

-- ---- DEMAND 3: the density and the next float lie in the range, and the pressure passes the one asked for between them; 9 exactly where there is no crossing
pub from_pressure_answers : Whatever (from_pressure.Post tt) (λ a r. (x : State) → r ≡ Ok x → Answered of1996 a.0 a.1.0 a.1.1.0 x)
from_pressure_answers a r s h x e = pressure_answers of1996 a.0 lawful a.1.0 a.1.1.0 x (sym h ∙ e)

pub from_pressure_nowhere : Whatever (from_pressure.Post tt) (λ a r.
    let t = a.1.0 in
    let p = a.1.1.0 in
    (phase : Phase) (from to : Float) → PastP of1996 a.0 t p → Ranged of1996 a.0 t p phase from to
    → Exactly (r ≡ refused 9) (NoCrossing (figure (of1996.pressure t)) p (to_bits binary64 from) (to_bits binary64 to)))
from_pressure_nowhere a r s h phase from to past ranged =
    let w = no_crossing_exactly of1996 a.0 lawful a.1.0 a.1.1.0 phase from to past ranged in
    (λ e. w.0 (sym h ∙ e), λ q. h ∙ w.1 q)

pub from_density_answers : Whatever (from_density.Post tt) (λ a r. (x : State) → r ≡ Ok x → AnsweredD of1996 a.0 a.1.0 a.1.1.0 x)
from_density_answers a r s h x e = density_answers of1996 a.0 lawful a.1.0 a.1.1.0 x (sym h ∙ e)

module _ (E : Equation) (L : Limits) (lawful : Lawful E) where
  -- the range, as floats
  pub lies_in_range : LiesInRange E L
  lies_in_range t p x a =
      let h = ends E L lawful t p a.ranged in
      let top = bits_below a.to h.second.nonneg h.second.fits in
      let u = a.found.from in
      let v = a.found.to in
      let r = lawful.density t x.phase (of_bits binary64 a.bits) x a.worked in
      let low = (bits_mono (to_bits binary64 a.from) a.bits u (omega arith)).order in
      let high = (bits_mono (a.bits + 1) (to_bits binary64 a.to) v top).order in (
        r,
        subst (λ (y : Float). T (le y x.rho)) (of_bits-to_bits binary64 a.from h.first.fits) (rw r low),
        subst (λ (y : Float). T (le (of_bits binary64 (a.bits + 1)) y)) (of_bits-to_bits binary64 a.to h.second.fits) high,
      )

  -- ---- where both doors answer for one temperature and density, none of the eight numbers differs by a bit
  pub doors_agree : SameEight E L
  doors_agree t p x y e f =
      let a = pressure_answers E L lawful t p x e in
      let b = density_answers E L lawful t x.rho y f in
      let r = lawful.density t x.phase (of_bits binary64 a.bits) x a.worked in
      lawful.same t x.phase y.phase x.rho x y (subst (λ (d : Float). E.state t x.phase d ≡ Some x) (sym r) a.worked) b.stated

pub from_density_agrees : Whatever (from_pressure.Post tt) (λ a r. (x : State) → r ≡ Ok x
    → Whatever (from_density.Post tt) (λ b q. b.0 ≡ a.0 → b.1.0 ≡ a.1.0 → b.1.1.0 ≡ x.rho → (y : State) → q ≡ Ok y → eight y ≡ eight x))
from_density_agrees a r s h x e b q u k o f g y l =
    doors_agree of1996 a.0 lawful a.1.0 a.1.1.0 x y (sym h ∙ e) (rw (← o, ← f, ← g) (sym k ∙ l))
