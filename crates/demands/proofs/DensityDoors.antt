-- The density door, over any equation and any limits: each refusal exactly under its condition, and what an answer means. Assumes nothing.
use Rattle.refusal.specs.Refused.{refused}
use Rattle.std.specs.Prelude.{Some, None, Ok}
use Prim.Native.Nat.{ℕ}
use mathlib.Core.Path.{◌≡◌, refl, sym, ap, subst, ◌∙◌}
use mathlib.Core.Bool.{Bool, true, false, cond, ◌&&◌, not}
use native.Mathlib.Omega.{arith}
use lib.Ieee.{Float, lt, le}
use Rattle.num_working.proofs.Cases.{by_test, by_working}
use Rattle.eos_state.specs.declared.Phase.{Phase}
use Rattle.eos_state.specs.declared.Phase.TheVariants.{Vapour, Liquid, Supercritical}
use Rattle.eos_state.specs.declared.State.{State}
use Rattle.eos_state.specs.State.{Stated}
use Rattle.equation.specs.Equation.{Equation, Lawful}
use Rattle.door_limits.specs.Limits.{outside}
use Rattle.door_limits.specs.declared.Limits.{Limits}
use Rattle.door_checks.specs.Check.{solid, boxed, Check}
use Rattle.door_answers.specs.Answer.{passed, answer_with, Answer}
use Rattle.door_density.specs.DensityDoor.{in_phase, beneath, entered, unboxed, density_door}
use Rattle.demands.specs.Demands.{Fluid, InRangeD, in_box_d, PastD, Phased, above_critical, as_vapour, as_liquid, RefusesD, out_of_ranges, in_the_box, no_vapour, no_liquid, between, no_pressure, pressure_outside, no_melting, solid_there, no_state, AnsweredD, DensityRefusals, DensityAnswers}
use Rattle.demands.proofs.Checks.{same_number, stops, passes, finds, stops_back, passes_back, melts}

module _ (E : Equation) (L : Limits) (lawful : Lawful E) (t rho : Float) where
  -- ---- an answer of the door, explained
  pub data Explains (a : Answer) : Type 0 where
    refuses : (n : ℕ) → a ≡ refused n → RefusesD E L t rho n → Explains a
    answers : (x : State) → a ≡ Ok x → AnsweredD E L t rho x → Explains a

  module _ (past : PastD E L t rho) where
    of_state : (phase : Phase) → Phased E L t rho phase → (p : Float) → E.pressure t rho ≡ Some p → outside L.asked.pressure p ≡ false → Fluid E t p
        → (s : Stated) → E.state t phase rho ≡ s → Explains (answer_with s)
    of_state phase phased p e o fluid None q = refuses 7 refl (no_state past phased e o fluid q)
    of_state phase phased p e o fluid (Some y) q =
        let k = sym (lawful.phase t phase rho y q) in
        let f = lawful.pressure t phase rho y q in
        let same : p ≡ y.p = cc in
        answers y refl
        (record {
          past = past;
          phased = subst (λ (h : Phase). Phased E L t rho h) k phased;
          temperature = lawful.temperature t phase rho y q;
          density = lawful.density t phase rho y q;
          pressure = lawful.pressure t phase rho y q;
          within = subst (λ (z : Float). outside L.asked.pressure z ≡ false) same o;
          fluid = subst (Fluid E t) same fluid;
          stated = subst (λ (h : Phase). E.state t h rho ≡ Some y) k q;
        })

    of_phase : (phase : Phase) → Phased E L t rho phase → Explains (in_phase E L phase t rho)
    unfolding in_phase
    of_phase phase phased =
        by_working Explains (E.pressure t rho) _ _ (λ e. refuses 7 refl (no_pressure past phased e))
        (λ p e. by_test Explains (outside L.asked.pressure p) _ _ (λ o. refuses 5 refl (pressure_outside past phased e o))
        (λ o. melts E t p Explains (answer_with (E.state t phase rho)) (λ m. refuses 7 refl (no_melting past phased e o m))
        (λ m w h. refuses 19 refl (solid_there past phased e o w h)) (λ fluid. of_state phase phased p e o fluid (E.state t phase rho) refl)))

    sides : le E.critical t ≡ false → (v l : Float) → E.vapour_density t ≡ Some v → E.liquid_density t ≡ Some l
        → (a b : Bool) → lt v rho ≡ a → lt rho l ≡ b
        → Explains (cond (a && b) (refused 8) (cond (not a) (in_phase E L Vapour t rho) (in_phase E L Liquid t rho)))
    sides cold v l e f true true g h = refuses 8 refl (between past cold e f g h)
    sides cold v l e f true false g h = of_phase Liquid (as_liquid cold e f g h)
    sides cold v l e f false b g h = of_phase Vapour (as_vapour cold e f g)

    of_beneath : le E.critical t ≡ false → Explains (beneath E L t rho)
    unfolding beneath
    of_beneath cold =
        by_working Explains (E.vapour_density t) _ _ (λ e. refuses 7 refl (no_vapour past cold e))
        (λ v e. by_working Explains (E.liquid_density t) _ _ (λ f. refuses 7 refl (no_liquid past cold e f))
        (λ l f. sides cold v l e f (lt v rho) (lt rho l) refl refl))

    of_entered : Explains (entered E L t rho)
    unfolding entered
    of_entered = by_test Explains (le E.critical t) _ _ (λ e. of_phase Supercritical (above_critical e)) of_beneath

  of_unboxed : InRangeD E L t rho → Explains (unboxed E L t rho)
  unfolding unboxed boxed
  of_unboxed r =
      by_test (λ (c : Check). Explains (passed c (entered E L t rho))) (in_box_d E L t rho) (refused 6) (Ok tt) (λ e. refuses 6 refl (in_the_box r e))
      (λ e. of_entered (record { ranged = r; unboxed = e }))

  pub explained : Explains (density_door E L t rho)
  unfolding density_door
  explained = elim (finds L.asked.temperature L.asked.density t rho) [
    | stops n e b ↦ refuses n (ap (λ (c : Check). passed c (unboxed E L t rho)) e) (out_of_ranges b)
    | passes e r ↦ subst (λ (c : Check). Explains (passed c (unboxed E L t rho))) (sym e) (of_unboxed r)
  ]

  -- ---- and back
  enters : PastD E L t rho → density_door E L t rho ≡ entered E L t rho
  unfolding density_door unboxed boxed
  enters past = rw (passes_back L.asked.temperature L.asked.density t rho past.ranged, past.unboxed) refl

  has_phase : {phase : Phase} → PastD E L t rho → Phased E L t rho phase → density_door E L t rho ≡ in_phase E L phase t rho
  unfolding entered beneath
  has_phase past (above_critical h) = enters past ∙ rw h refl
  has_phase past (as_vapour cold e f g) = enters past ∙ rw (cold, e, f, g) refl
  has_phase past (as_liquid cold e f g h) = enters past ∙ rw (cold, e, f, g, h) refl

  pub refuses_back : {n : ℕ} → RefusesD E L t rho n → density_door E L t rho ≡ refused n
  unfolding density_door unboxed boxed entered beneath in_phase solid
  refuses_back (out_of_ranges b) = ap (λ (c : Check). passed c (unboxed E L t rho)) (stops_back L.asked.temperature L.asked.density t rho b)
  refuses_back (in_the_box r e) = rw (passes_back L.asked.temperature L.asked.density t rho r, e) refl
  refuses_back (no_vapour past cold e) = enters past ∙ rw (cold, e) refl
  refuses_back (no_liquid past cold e f) = enters past ∙ rw (cold, e, f) refl
  refuses_back (between past cold e f g h) = enters past ∙ rw (cold, e, f, g, h) refl
  refuses_back (no_pressure past phased e) = has_phase past phased ∙ rw e refl
  refuses_back (pressure_outside past phased e o) = has_phase past phased ∙ rw (e, o) refl
  refuses_back (no_melting past phased e o m) = has_phase past phased ∙ rw (e, o, m) refl
  refuses_back (solid_there past phased e o m h) = has_phase past phased ∙ rw (e, o, m, h) refl
  refuses_back (no_state past phased e o fluid q) = has_phase past phased ∙ rw (e, o, fluid.worked, fluid.not_above, q) refl

-- ---- the demands
module _ (E : Equation) (L : Limits) (lawful : Lawful E) where
  pub density_refusals : DensityRefusals E L
  density_refusals t rho n = (go (explained E L lawful t rho), refuses_back E L lawful t rho)
    where
      go : Explains E L lawful t rho (density_door E L t rho) → density_door E L t rho ≡ refused n → RefusesD E L t rho n
      go (refuses m f w) e = let q : m ≡ n = same_number (sym f ∙ e) in subst (RefusesD E L t rho) q w
      go (answers x f a) e = let z : ◌≡◌ {A = ℕ} 0 1 = cc in absurd (omega arith)

  pub density_answers : DensityAnswers E L
  density_answers t rho x e = go (explained E L lawful t rho)
    where
      go : Explains E L lawful t rho (density_door E L t rho) → AnsweredD E L t rho x
      go (refuses n f w) = let z : ◌≡◌ {A = ℕ} 0 1 = cc in absurd (omega arith)
      go (answers y f a) = let q : y ≡ x = cc in subst (AnsweredD E L t rho) q a
