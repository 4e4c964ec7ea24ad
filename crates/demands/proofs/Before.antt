-- With the melting line every answer is what it was, or 19, or 7 where there is no melting pressure, which within the limits of RULES 2.2 there is: both
-- doors take the same steps, and the check of the line is one of them. Assumes nothing.
use Rattle.refusal.specs.Refused.{refused}
use Rattle.std.specs.Prelude.{Some, None, Ok, Err}
use mathlib.Core.Path.{◌≡◌, refl}
use mathlib.Core.Bool.{Bool, true, false, cond, ◌&&◌, not, true≢false}
use lib.Ieee.{Float, nan, inf, fin, lt, le}
use lib.Ieee.Scale.{finite}
use Rattle.num_working.specs.Number.{decimal, whole}
use Rattle.num_working.specs.Working.{or_else, Worked}
use Rattle.num_working.proofs.Cases.{never}
use Rattle.eos_melting.proofs.Meltings.{Melts, never_fails}
use Rattle.eos_state.specs.declared.Phase.{Phase}
use Rattle.eos_state.specs.declared.Phase.TheVariants.{Vapour, Liquid, Supercritical}
use Rattle.equation.specs.Equation.{Equation, of1996}
use Rattle.door_limits.specs.Limits.{document01, outside}
use Rattle.door_limits.specs.declared.Range.{Range}
use Rattle.door_limits.specs.declared.Limits.{Limits}
use Rattle.door_checks.specs.Check as check
use Rattle.door_checks.specs.Check.{ranged, boxed, Check}
use Rattle.door_answers.specs.Answer.{passed, answer_with, Answer}
use Rattle.door_pressure.specs.PressureDoor as pressure
use Rattle.door_pressure.proofs.from_pressure.Reads as from_pressure
use Rattle.door_density.specs.DensityDoor as density
use Rattle.door_density.proofs.from_density.Reads as from_density
use Rattle.demands.specs.Demands.{Whatever, InRange}
use Rattle.demands.specs.Before.{never_solid, Kept, same, solid, no_melting, AsBefore, unchanged, now_solid, PressureDoorBefore, InPhaseBefore, PressureKept, DensityKept, PressureAsBefore, DensityAsBefore}
use Rattle.demands.proofs.Checks.{stops, passes, finds, melts, first}

-- no pressure is above the infinity
unreached : (p : Float) → check.solid (Some (inf false)) p ≡ Ok tt
unfolding check.solid lt
unreached nan = refl
unreached (inf true) = refl
unreached (inf false) = refl
unreached (fin s m e) = refl

-- ---- a step that both take keeps what is kept after it
module _ {w : Worked} where
  after_check : (c : Check) {a b : Answer} → Kept w a b → Kept w (passed c a) (passed c b)
  after_check (Err n) k = same refl
  after_check (Ok tt) k = k

  after_test : (t : Bool) {a b x y : Answer} → Kept w a x → Kept w b y → Kept w (cond t a b) (cond t x y)
  after_test true h k = h
  after_test false h k = k

  after_working : (v : Worked) (z : Answer) (f g : Float → Answer) → ((x : Float) → Kept w (f x) (g x)) → Kept w (or_else v z f) (or_else v z g)
  after_working None z f g h = same refl
  after_working (Some x) z f g h = h x

module _ (E : Equation) (L : Limits) where
  -- the check of the line, and then what is the same
  after_line : (t p : Float) (a : Answer) → Kept (E.melting_pressure t) (passed (check.solid (E.melting_pressure t) p) a) (passed (check.solid (Some (inf false)) p) a)
  after_line t p a =
      rw (unreached p) (melts E t p (λ (n : Answer). Kept (E.melting_pressure t) n a) a (λ e. no_melting e refl) (λ m e h. solid refl) (λ f. same refl))

  -- ---- the pressure door
  pub pressure_door_before : PressureDoorBefore E L
  unfolding pressure.pressure_door pressure.thawed pressure.unboxed pressure.entered pressure.beneath pressure.vapour pressure.liquid
  pressure_door_before t p = rw (unreached p) refl

  thawed_kept : (t p : Float) → Kept (E.melting_pressure t) (pressure.thawed E L t p) (pressure.thawed (never_solid E) L t p)
  unfolding pressure.thawed pressure.unboxed pressure.entered pressure.beneath pressure.vapour pressure.liquid
  thawed_kept t p = after_line t p (pressure.unboxed E L t p)

  pub pressure_kept : PressureKept E L
  unfolding pressure.pressure_door
  pressure_kept t p = after_check (ranged L.asked.temperature L.asked.pressure t p) (thawed_kept t p)

  -- ---- the density door
  by_pressure : (v : Worked) (q : Float → Bool) (a : Answer) → or_else v (refused 7) (λ p. cond (q p) (refused 5) (passed (check.solid (Some (inf false)) p) a))
      ≡ or_else v (refused 7) (λ p. cond (q p) (refused 5) a)
  by_pressure None q a = refl
  by_pressure (Some p) q a = rw (unreached p) refl

  pub in_phase_before : InPhaseBefore E L
  unfolding density.in_phase
  in_phase_before phase t rho = by_pressure (E.pressure t rho) (outside L.asked.pressure) (answer_with (E.state t phase rho))

  phase_kept : (phase : Phase) (t rho : Float) → Kept (E.melting_pressure t) (density.in_phase E L phase t rho) (density.in_phase (never_solid E) L phase t rho)
  unfolding density.in_phase
  phase_kept phase t rho =
      after_working (E.pressure t rho) _ _ _ (λ p. after_test (outside L.asked.pressure p) (same refl) (after_line t p (answer_with (E.state t phase rho))))

  beneath_kept : (t rho : Float) → Kept (E.melting_pressure t) (density.beneath E L t rho) (density.beneath (never_solid E) L t rho)
  unfolding density.beneath
  beneath_kept t rho =
      after_working (E.vapour_density t) _ _ _ (λ v. after_working (E.liquid_density t) _ _ _ (λ l.
      after_test (lt v rho && lt rho l) (same refl) (after_test (not (lt v rho)) (phase_kept Vapour t rho) (phase_kept Liquid t rho))))

  unboxed_kept : (t rho : Float) → Kept (E.melting_pressure t) (density.unboxed E L t rho) (density.unboxed (never_solid E) L t rho)
  unfolding density.unboxed density.entered
  unboxed_kept t rho =
      after_check (boxed L.critical.temperature L.critical.density t rho)
      (after_test (le E.critical t) (phase_kept Supercritical t rho) (beneath_kept t rho))

  pub density_kept : DensityKept E L
  unfolding density.density_door
  density_kept t rho = after_check (ranged L.asked.temperature L.asked.density t rho) (unboxed_kept t rho)

-- ---- 1996, within the limits: past the checks the melting pressure doesn't fail

both_false : (a b : Bool) → cond a true b ≡ false → (a ≡ false) × (b ≡ false)
both_false true b e = absurd (true≢false e)
both_false false b e = (refl, e)

in_limits : (xs : Range) (t x : Float) → InRange document01.asked.temperature xs t x → Melts t
unfolding document01
in_limits xs t x r =
    let s = both_false (lt t (decimal 216592 3)) (lt (whole 523) t) r.temperature in
    never_fails t s.0 s.1 (first (finite t) (finite x) r.numbers)

melted : {t : Float} {a b : Answer} → Melts t → Kept (of1996.melting_pressure t) a b → AsBefore a b
unfolding of1996
melted m (same e) = unchanged e
melted m (solid e) = now_solid e
melted m (no_melting f e) = let w = m.worked in never (cc)

past_checks : (xs : Range) (t x : Float) {a b : Answer} → Kept (of1996.melting_pressure t) a b
    → AsBefore (passed (ranged document01.asked.temperature xs t x) a) (passed (ranged document01.asked.temperature xs t x) b)
past_checks xs t x k = elim (finds document01.asked.temperature xs t x) [
  | stops n e _ ↦ rw e (unchanged refl)
  | passes e r ↦ rw e (melted (in_limits xs t x r) k)
]

pub pressure_as_before : PressureAsBefore
unfolding pressure.pressure_door
pressure_as_before t p = past_checks document01.asked.pressure t p (thawed_kept of1996 document01 t p)

pub density_as_before : DensityAsBefore
unfolding density.density_door
density_as_before t rho = past_checks document01.asked.density t rho (unboxed_kept of1996 document01 t rho)

pub from_pressure_as_before : Whatever (from_pressure.Post tt) (λ a r.
    a.0 ≡ document01 → AsBefore r (pressure.pressure_door (never_solid of1996) document01 a.1.0 a.1.1.0))
from_pressure_as_before a r s h l = rw (h, l) (pressure_as_before a.1.0 a.1.1.0)

pub from_density_as_before : Whatever (from_density.Post tt) (λ a r.
    a.0 ≡ document01 → AsBefore r (density.density_door (never_solid of1996) document01 a.1.0 a.1.1.0))
from_density_as_before a r s h l = rw (h, l) (density_as_before a.1.0 a.1.1.0)
