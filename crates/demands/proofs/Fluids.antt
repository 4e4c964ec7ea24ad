-- What the pressure door answers, the density door never calls solid: the pressure worked at the density found is not above the one asked, and that is not
-- above the melting pressure. Over any lawful equation and any limits, and of the public functions. Assumes nothing.
use Rattle.refusal.specs.Refused.{refused}
use Rattle.std.specs.Prelude.{Some, Ok}
use Prim.Native.Nat.{ℕ}
use mathlib.Core.Path.{◌≡◌, refl, sym, ap, ◌∙◌}
use mathlib.Core.Bool.{true, true≢false}
use native.Mathlib.Omega.{arith}
use lib.Ieee.{Float, binary64, lt, of_bits}
use lib.Ieee.Scale.{finite}
use Rattle.num_laws.proofs.Comparisons.{not_above_through}
use Rattle.eos_state.specs.declared.State.{State}
use Rattle.equation.specs.Equation.{Equation, Lawful, of1996}
use Rattle.equation.proofs.Laws.{lawful}
use Rattle.door_limits.specs.declared.Range.{Range}
use Rattle.door_limits.specs.declared.Limits.{Limits}
use Rattle.door_pressure.proofs.from_pressure.Reads as from_pressure
use Rattle.door_density.proofs.from_density.Reads as from_density
use Rattle.demands.specs.Demands.{Whatever, OutOfRange, no_number, no_temperature, no_value, Answered, FluidBothWays, RefusesD, out_of_ranges, in_the_box, no_vapour, no_liquid, between, no_pressure, pressure_outside, no_melting, solid_there, no_state}
use Rattle.demands.proofs.Checks.{second}
use Rattle.demands.proofs.PressureDoors.{pressure_answers}
use Rattle.demands.proofs.DensityDoors.{density_refusals}

-- what 19 of the density door says
pub record SolidThere (E : Equation) (t rho : Float) : Type 0 where
  pub pressure : Float
  pub melting : Float
  pub there : E.pressure t rho ≡ Some pressure
  pub line : E.melting_pressure t ≡ Some melting
  pub above : lt melting pressure ≡ true

no_check : {ts xs : Range} {t x : Float} {n : ℕ} → OutOfRange ts xs t x n → n ≡ 19 → ⊥
no_check (no_number e) q = omega arith
no_check (no_temperature e f) q = omega arith
no_check (no_value e f g) q = omega arith

of_19 : {E : Equation} {L : Limits} {t rho : Float} {n : ℕ} → RefusesD E L t rho n → n ≡ 19 → SolidThere E t rho
of_19 (out_of_ranges b) q = absurd (no_check b q)
of_19 (in_the_box r e) q = absurd (omega arith)
of_19 (no_vapour past cold e) q = absurd (omega arith)
of_19 (no_liquid past cold e f) q = absurd (omega arith)
of_19 (between past cold e f g h) q = absurd (omega arith)
of_19 (no_pressure past phased e) q = absurd (omega arith)
of_19 (pressure_outside past phased e o) q = absurd (omega arith)
of_19 (no_melting past phased e o m) q = absurd (omega arith)
of_19 (solid_there {phase} {p} {m} past phased e o w h) q = record { pressure = p; melting = m; there = e; line = w; above = h }
of_19 (no_state past phased e o f s) q = absurd (omega arith)

module _ (E : Equation) (L : Limits) (lawful : Lawful E) where
  at_the_density : (t p : Float) (x : State) (a : Answered E L t p x) → SolidThere E t x.rho → ⊥
  at_the_density t p x a s =
      let f = a.past.fluid in
      let n = a.found.here in
      let r = lawful.density t x.phase (of_bits binary64 a.bits) x a.worked in
      let w : E.pressure t x.rho ≡ Some n.number = rw r n.worked in
      let same : s.pressure ≡ n.number = cc in
      let line : s.melting ≡ f.melting = cc in
      let asked = second (finite t) (finite p) a.past.ranged.numbers in
      true≢false (sym s.above ∙ ap (λ (y : Float). lt s.melting y) same ∙ ap (λ (y : Float). lt y n.number) line
      ∙ not_above_through n.number p f.melting asked n.stands f.not_above)

  pub fluid_both_ways : FluidBothWays E L
  fluid_both_ways t p x e s = at_the_density t p x (pressure_answers E L lawful t p x e) (of_19 ((density_refusals E L lawful t x.rho 19).0 s) refl)

pub from_density_fluid : Whatever (from_pressure.Post tt) (λ a r. (x : State) → r ≡ Ok x
    → Whatever (from_density.Post tt) (λ b q. b.0 ≡ a.0 → b.1.0 ≡ a.1.0 → b.1.1.0 ≡ x.rho → q ≡ refused 19 → ⊥))
from_density_fluid a r s h x e b q u k o f g l =
    fluid_both_ways of1996 a.0 lawful a.1.0 a.1.1.0 x (sym h ∙ e) (rw (← o, ← f, ← g) (sym k ∙ l))
