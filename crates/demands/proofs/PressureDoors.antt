-- The pressure door, over any equation and any limits: each refusal exactly under its condition, and what an answer means. Assumes nothing.
use Rattle.refusal.specs.Refused.{refused}
use Rattle.num_halving.specs.declared.Missed.TheVariants.{Nowhere, Broke}
use Rattle.std.specs.Prelude.{Some, None, Ok, Err}
use Prim.Native.Nat.{ℕ, ◌^◌, ◌≤◌}
use mathlib.Core.Path.{◌≡◌, refl, sym, ap, subst, ◌∙◌}
use mathlib.Core.Bool.{false}
use native.Mathlib.Omega.{arith}
use lib.Ieee.{Float, binary64, eq, lt, le, of_bits, to_bits}
use Rattle.num_working.specs.Working.{Worked}
use Rattle.num_working.proofs.Cases.{by_test, by_working}
use Rattle.num_halving.specs.Halving.{NoCrossing, halve, Crossing}
use Rattle.num_halving.proofs.Halvings.{answer, nowhere, nowhere_back, breaks, breaks_back}
use Rattle.eos_state.specs.declared.Phase.{Phase}
use Rattle.eos_state.specs.declared.Phase.TheVariants.{Vapour, Liquid, Supercritical}
use Rattle.eos_state.specs.declared.State.{State}
use Rattle.eos_state.specs.State.{Stated}
use Rattle.equation.specs.Equation.{Equation, Lawful}
use Rattle.door_limits.specs.Limits.{search_ends}
use Rattle.door_limits.specs.declared.Limits.{Limits}
use Rattle.door_checks.specs.Check.{solid, boxed, Check}
use Rattle.door_answers.specs.Answer.{passed, answer_with, Answer}
use Rattle.door_pressure.specs.Search.{figure, found, searched}
use Rattle.door_pressure.specs.PressureDoor.{scaled, vapour, liquid, beneath, entered, unboxed, thawed, pressure_door}
use Rattle.door_pressure.proofs.Doors.{Reached, searchable, scaled_reached}
use Rattle.door_pressure.proofs.Searches.{bits_below}
use Rattle.demands.specs.Demands as demands
use Rattle.demands.specs.Demands.{Fluid, InRangeP, in_box_p, PastP, Beside, lower, higher, Ranged, supercritical, RefusesP, out_of_range, melting_fails, in_critical_box, line_fails, on_line, vapour_fails, liquid_fails, no_crossing, probe_fails, state_fails, Answered, PressureRefusals, PressureAnswers, NoCrossingExactly}
use Rattle.demands.proofs.Checks.{same_number, stops, passes, finds, stops_back, passes_back, melts, thawed_back}

-- ---- the ends of a range have no minus sign, and are numbers that an f64 holds
pub record Ends (from to : Float) : Type 0 where
  pub first : Reached from
  pub second : Reached to

pub ends : (E : Equation) (L : Limits) → Lawful E → (t p : Float) {phase : Phase} {from to : Float} → Ranged E L t p phase from to → Ends from to
ends E L lawful t p (supercritical h) = record { first = searchable.from; second = searchable.to }
ends E L lawful t p (demands.vapour b e) =
    record { first = searchable.from; second = scaled_reached search_ends.vapour _ _ searchable.vapour (lawful.vapour t) e }
ends E L lawful t p (demands.liquid b e) =
    record { first = scaled_reached search_ends.liquid _ _ searchable.liquid (lawful.liquid t) e; second = searchable.to }

module _ (E : Equation) (L : Limits) (lawful : Lawful E) (t p : Float) where
  -- ---- an answer of the door, explained
  pub data Explains (a : Answer) : Type 0 where
    refuses : (n : ℕ) → a ≡ refused n → RefusesP E L t p n → Explains a
    answers : (x : State) → a ≡ Ok x → Answered E L t p x → Explains a

  -- no search runs past the bits of −0
  top : {phase : Phase} {from to : Float} → Ranged E L t p phase from to → to_bits binary64 to ≤ 2 ^ 63
  top {phase} {from} {to} r = let e = (ends E L lawful t p r).second in let b = bits_below to e.nonneg e.fits in omega arith

  module _ (past : PastP E L t p) where
    module _ (phase : Phase) (from to : Float) (ranged : Ranged E L t p phase from to) where
      abbrev f : ℕ → Worked
      f = figure (E.pressure t)

      abbrev lo : ℕ
      lo = to_bits binary64 from

      abbrev hi : ℕ
      hi = to_bits binary64 to

      of_state : (r : ℕ) → halve f p lo hi ≡ Ok r → (s : Stated) → E.state t phase (of_bits binary64 r) ≡ s → Explains (answer_with s)
      of_state r e None q = refuses 7 refl (state_fails past ranged e q)
      of_state r e (Some y) q =
          let k = sym (lawful.phase t phase (of_bits binary64 r) y q) in
          answers y refl
          (record {
            from = from;
            to = to;
            bits = r;
            past = past;
            ranged = subst (λ (h : Phase). Ranged E L t p h from to) k ranged;
            found = answer f p lo hi r (top ranged) e;
            worked = subst (λ (h : Phase). E.state t h (of_bits binary64 r) ≡ Some y) k q;
            temperature = lawful.temperature t phase (of_bits binary64 r) y q;
            pressure = lawful.pressure t phase (of_bits binary64 r) y q;
          })

      of_crossing : (c : Crossing) → halve f p lo hi ≡ c → Explains (found (E.state t phase) c)
      of_crossing (Ok r) e = of_state r e (E.state t phase (of_bits binary64 r)) refl
      of_crossing (Err Nowhere) e = refuses 9 refl (no_crossing past ranged (nowhere f p lo hi (top ranged) e))
      of_crossing (Err Broke) e = let b = breaks f p lo hi (top ranged) e in refuses 7 refl (probe_fails past ranged b.0 b.1)

      of_search : Explains (searched (E.pressure t) (E.state t phase) from to p)
      unfolding searched
      of_search = of_crossing (halve f p lo hi) refl

    of_vapour : Beside E L t p Vapour → Explains (vapour E t p)
    unfolding vapour
    of_vapour b =
        by_working Explains (scaled search_ends.vapour (E.vapour_density t)) _ _ (λ e. refuses 7 refl (vapour_fails past b e))
        (λ to e. of_search Vapour search_ends.from to (demands.vapour b e))

    of_liquid : Beside E L t p Liquid → Explains (liquid E t p)
    unfolding liquid
    of_liquid b =
        by_working Explains (scaled search_ends.liquid (E.liquid_density t)) _ _ (λ e. refuses 7 refl (liquid_fails past b e))
        (λ from e. of_search Liquid from search_ends.to (demands.liquid b e))

    of_beneath : le E.critical t ≡ false → Explains (beneath E t p)
    unfolding beneath
    of_beneath cold =
        by_working Explains (E.vapour_pressure t) _ _ (λ e. refuses 7 refl (line_fails past cold e))
        (λ s e. by_test Explains (eq p s) _ _ (λ q. refuses 8 refl (on_line past cold e q))
        (λ off. by_test Explains (lt p s) _ _ (λ q. of_vapour (lower cold e off q)) (λ q. of_liquid (higher cold e off q))))

    of_entered : Explains (entered E t p)
    unfolding entered
    of_entered = by_test Explains (le E.critical t) _ _ (λ e. of_search Supercritical search_ends.from search_ends.to (supercritical e)) of_beneath

  of_unboxed : InRangeP E L t p → Fluid E t p → Explains (unboxed E L t p)
  unfolding unboxed boxed
  of_unboxed r f =
      by_test (λ (c : Check). Explains (passed c (entered E t p))) (in_box_p E L t p) (refused 6) (Ok tt) (λ e. refuses 6 refl (in_critical_box r f e))
      (λ e. of_entered (record { ranged = r; fluid = f; unboxed = e }))

  of_thawed : InRangeP E L t p → Explains (thawed E L t p)
  unfolding thawed
  of_thawed r =
      melts E t p Explains (unboxed E L t p) (λ e. refuses 7 refl (melting_fails r e)) (λ m e h. refuses 19 refl (demands.solid r e h)) (of_unboxed r)

  pub explained : Explains (pressure_door E L t p)
  unfolding pressure_door
  explained = elim (finds L.asked.temperature L.asked.pressure t p) [
    | stops n e b ↦ refuses n (ap (λ (c : Check). passed c (thawed E L t p)) e) (out_of_range b)
    | passes e r ↦ subst (λ (c : Check). Explains (passed c (thawed E L t p))) (sym e) (of_thawed r)
  ]

  -- ---- and back
  enters : PastP E L t p → pressure_door E L t p ≡ entered E t p
  unfolding pressure_door thawed unboxed boxed
  enters past =
      rw (passes_back L.asked.temperature L.asked.pressure t p past.ranged, thawed_back E t p past.fluid, past.unboxed) refl

  goes_beneath : {phase : Phase} → PastP E L t p → Beside E L t p phase → pressure_door E L t p ≡ beneath E t p
  unfolding entered
  goes_beneath past (lower cold e off q) = enters past ∙ rw cold refl
  goes_beneath past (higher cold e off q) = enters past ∙ rw cold refl

  searches : {phase : Phase} {from to : Float} → PastP E L t p → Ranged E L t p phase from to
      → pressure_door E L t p ≡ searched (E.pressure t) (E.state t phase) from to p
  unfolding entered beneath vapour liquid
  searches past (supercritical h) = enters past ∙ rw h refl
  searches past (demands.vapour (lower cold e off q) w) = enters past ∙ rw (cold, e, off, q, w) refl
  searches past (demands.liquid (higher cold e off q) w) = enters past ∙ rw (cold, e, off, q, w) refl

  pub refuses_back : {n : ℕ} → RefusesP E L t p n → pressure_door E L t p ≡ refused n
  unfolding pressure_door thawed solid unboxed boxed entered beneath vapour liquid searched
  refuses_back (out_of_range b) = ap (λ (c : Check). passed c (thawed E L t p)) (stops_back L.asked.temperature L.asked.pressure t p b)
  refuses_back (melting_fails r e) = rw (passes_back L.asked.temperature L.asked.pressure t p r, e) refl
  refuses_back (demands.solid r e h) = rw (passes_back L.asked.temperature L.asked.pressure t p r, e, h) refl
  refuses_back (in_critical_box r f e) = rw (passes_back L.asked.temperature L.asked.pressure t p r, thawed_back E t p f, e) refl
  refuses_back (line_fails past cold e) = enters past ∙ rw (cold, e) refl
  refuses_back (on_line past cold e q) = enters past ∙ rw (cold, e, q) refl
  refuses_back (vapour_fails past (lower cold e off q) w) = enters past ∙ rw (cold, e, off, q, w) refl
  refuses_back (liquid_fails past (higher cold e off q) w) = enters past ∙ rw (cold, e, off, q, w) refl
  refuses_back (no_crossing {phase} {from} {to} past ranged n) =
      searches past ranged ∙ ap (found (E.state t phase)) (nowhere_back (figure (E.pressure t)) p (to_bits binary64 from) (to_bits binary64 to) n)
  refuses_back (probe_fails {phase} {from} {to} past ranged h b) =
      searches past ranged ∙ ap (found (E.state t phase)) (breaks_back (figure (E.pressure t)) p (to_bits binary64 from) (to_bits binary64 to) h (top ranged) b)
  refuses_back (state_fails {phase} past ranged e q) = searches past ranged ∙ ap (found (E.state t phase)) e ∙ ap answer_with q

-- ---- the demands
module _ (E : Equation) (L : Limits) (lawful : Lawful E) where
  pub pressure_refusals : PressureRefusals E L
  pressure_refusals t p n = (go (explained E L lawful t p), refuses_back E L lawful t p)
    where
      go : Explains E L lawful t p (pressure_door E L t p) → pressure_door E L t p ≡ refused n → RefusesP E L t p n
      go (refuses m f w) e = let q : m ≡ n = same_number (sym f ∙ e) in subst (RefusesP E L t p) q w
      go (answers x f a) e = let z : ◌≡◌ {A = ℕ} 0 1 = cc in absurd (omega arith)

  pub pressure_answers : PressureAnswers E L
  pressure_answers t p x e = go (explained E L lawful t p)
    where
      go : Explains E L lawful t p (pressure_door E L t p) → Answered E L t p x
      go (refuses n f w) = let z : ◌≡◌ {A = ℕ} 0 1 = cc in absurd (omega arith)
      go (answers y f a) = let q : y ≡ x = cc in subst (Answered E L t p) q a

  -- where the search is reached, 9 exactly where there is no crossing
  pub no_crossing_exactly : NoCrossingExactly E L
  unfolding searched
  no_crossing_exactly t p phase from to past ranged =
      (λ e. is_nowhere (sym (searches E L lawful t p past ranged) ∙ e), λ n. refuses_back E L lawful t p (no_crossing past ranged n))
    where
      of_state : (s : Stated) → answer_with s ≡ refused 9 → ⊥
      of_state None e = let z : ◌≡◌ {A = ℕ} 7 9 = same_number e in omega arith
      of_state (Some y) e = let z : ◌≡◌ {A = ℕ} 0 1 = cc in omega arith

      of_crossing : (c : Crossing) → halve (figure (E.pressure t)) p (to_bits binary64 from) (to_bits binary64 to) ≡ c
          → found (E.state t phase) c ≡ refused 9 → NoCrossing (figure (E.pressure t)) p (to_bits binary64 from) (to_bits binary64 to)
      of_crossing (Ok r) e g = absurd (of_state (E.state t phase (of_bits binary64 r)) g)
      of_crossing (Err Nowhere) e g = nowhere (figure (E.pressure t)) p (to_bits binary64 from) (to_bits binary64 to) (top E L lawful t p ranged) e
      of_crossing (Err Broke) e g = let z : ◌≡◌ {A = ℕ} 7 9 = same_number g in absurd (omega arith)

      is_nowhere : searched (E.pressure t) (E.state t phase) from to p ≡ refused 9
          → NoCrossing (figure (E.pressure t)) p (to_bits binary64 from) (to_bits binary64 to)
      is_nowhere g = of_crossing (halve (figure (E.pressure t)) p (to_bits binary64 from) (to_bits binary64 to)) refl g
