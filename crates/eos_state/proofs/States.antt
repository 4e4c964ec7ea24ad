-- The pressure of a state is bit for bit the pressure alone; its temperature, density and phase are those asked for, and its count that of the terms that
-- fell away there; its numbers don't hang on the phase; and what fails with the temperature. Assumes nothing.
use Rattle.std.specs.Prelude.{Some, None}
use Prim.Native.Nat.{ℕ}
use mathlib.Core.Path.{◌≡◌, refl, ap, ◌∙◌}
use lib.Ieee.{Float}
use Rattle.num_working.specs.Working.{checked, or_else, Worked}
use Rattle.num_working.proofs.Cases.{by_working, never}
use Rattle.num_working.proofs.Workings.{checked_number}
use Rattle.num_formulas.specs.Formula.{value, work}
use Rattle.num_formulas.proofs.Formulas.{once}
use Rattle.eos_constants.specs.Reduced.{delta}
use Rattle.eos_brackets.specs.Derivative.{Derivative, Delta, DeltaDelta, Tau, TauTau, DeltaTau}
use Rattle.eos_brackets.specs.declared.Five.{Five}
use Rattle.eos_isotherm.specs.Isotherm.{quarter_of, isotherm}
use Rattle.eos_isotherm.specs.declared.Isotherm.{Isotherm}
use Rattle.eos_terms.specs.Fallen.{fallen_terms}
use Rattle.eos_residual.specs.Sum.{residual, all_five, five_sums, Sums}
use Rattle.eos_residual.proofs.Failures.{failed_with_temperature}
use Rattle.eos_ideal.specs.Ideal.{ideal_part}
use Rattle.eos_pressure.specs.Pressure.{pressure_formula, pressure_on}
use Rattle.eos_state.specs.State.{energy, enthalpy, heat_v, heat_p, sound, stated, state_of, state_ideal, then_sums, state_on, eight, Stated}
use Rattle.eos_state.specs.declared.Phase.{Phase}
use Rattle.eos_state.specs.declared.State.{State}

-- ---- what a state says of how it was worked, with q for another phase
pub record Keeps (t rho : Float) (p : Worked) (n : ℕ) (phase q : Phase) (a b : Stated) : Type 0 where
  pub pressure : (x : State) → a ≡ Some x → p ≡ Some x.p
  pub temperature : (x : State) → a ≡ Some x → x.t ≡ t
  pub density : (x : State) → a ≡ Some x → x.rho ≡ rho
  pub carried : (x : State) → a ≡ Some x → x.phase ≡ phase
  pub counted : (x : State) → a ≡ Some x → x.fallen ≡ n
  pub same : (x y : State) → a ≡ Some x → b ≡ Some y → eight y ≡ eight x

-- where nothing was worked there is nothing to say
impossible : {A : Type 0} (x : State) → None ≡ Some x → A
impossible x e = never (cc)

none : (t rho : Float) (p : Worked) (n : ℕ) (phase q : Phase) (b : Stated) → Keeps t rho p n phase q None b
none t rho p n phase q b = record {
  pressure = λ x e. impossible x e;
  temperature = λ x e. impossible x e;
  density = λ x e. impossible x e;
  carried = λ x e. impossible x e;
  counted = λ x e. impossible x e;
  same = λ x y e f. impossible x e;
}

module _ (t rho : Float) (n : ℕ) (phase q : Phase) where
  abbrev Kept : Worked → Stated → Stated → Type 0
  Kept p a b = Keeps t rho p n phase q a b

  -- ---- of Table 3
  kept_stated : (p u h cv cp w : Worked) → Kept p (stated phase n t rho p u h cv cp w) (stated q n t rho p u h cv cp w)
  kept_stated None u h cv cp w = none t rho None n phase q _
  kept_stated (Some p) None h cv cp w = none t rho (Some p) n phase q _
  kept_stated (Some p) (Some u) None cv cp w = none t rho (Some p) n phase q _
  kept_stated (Some p) (Some u) (Some h) None cp w = none t rho (Some p) n phase q _
  kept_stated (Some p) (Some u) (Some h) (Some cv) None w = none t rho (Some p) n phase q _
  kept_stated (Some p) (Some u) (Some h) (Some cv) (Some cp) None = none t rho (Some p) n phase q _
  kept_stated (Some p) (Some u) (Some h) (Some cv) (Some cp) (Some w) = record {
    pressure = λ x e. cc;
    temperature = λ x e. cc;
    density = λ x e. cc;
    carried = λ x e. cc;
    counted = λ x e. cc;
    same = λ x y e f. cc;
  }

  kept_of : (sums : Five) (i1 i2 : Float) → Kept (work (pressure_formula t rho sums.d)) (state_of phase n t rho sums i1 i2) (state_of q n t rho sums i1 i2)
  unfolding state_of
  kept_of sums i1 i2 =
      kept_stated (work (pressure_formula t rho sums.d)) (work (energy t sums i1)) (work (enthalpy t sums i1))
      (work (heat_v sums i2))
      (work (heat_p sums i2))
      (work (sound t sums i2))

  -- ---- with the ideal part
  kept_with : (sums : Five) (v w : Worked) → Kept (work (pressure_formula t rho sums.d))
      (or_else v None (λ i1. or_else w None (λ i2. state_of phase n t rho sums i1 i2)))
      (or_else v None (λ i1. or_else w None (λ i2. state_of q n t rho sums i1 i2)))
  kept_with sums None w = none t rho _ n phase q _
  kept_with sums (Some i1) None = none t rho _ n phase q _
  kept_with sums (Some i1) (Some i2) = kept_of sums i1 i2

-- ---- the first of the five sums is the one that a pressure needs
module _ (v : Derivative → Worked) (s : Five) (e : all_five v ≡ Some s) where
  first_from : (a b c d f : Worked) → v Delta ≡ a → v DeltaDelta ≡ b → v Tau ≡ c → v TauTau ≡ d → v DeltaTau ≡ f → v Delta ≡ Some s.d
  unfolding all_five
  first_from None b c d f g h i j k = let y = rw g at e in never (cc)
  first_from (Some a) None c d f g h i j k = let y = rw (g, h) at e in never (cc)
  first_from (Some a) (Some b) None d f g h i j k = let y = rw (g, h, i) at e in never (cc)
  first_from (Some a) (Some b) (Some c) None f g h i j k = let y = rw (g, h, i, j) at e in never (cc)
  first_from (Some a) (Some b) (Some c) (Some d) None g h i j k = let y = rw (g, h, i, j, k) at e in never (cc)
  first_from (Some a) (Some b) (Some c) (Some d) (Some f) g h i j k = let y = rw (g, h, i, j, k) at e in let m : a ≡ s.d = cc in g ∙ ap Some m

  first_sum : v Delta ≡ Some s.d
  first_sum = first_from (v Delta) (v DeltaDelta) (v Tau) (v TauTau) (v DeltaTau) refl refl refl refl refl

-- ---- on an isotherm
module _ (t : Float) (iso : Isotherm) (phase q : Phase) (rho : Float) where
  kept_sums : (δ : Float) (v : Sums) → five_sums iso δ ≡ v
      → Keeps t rho (or_else (residual iso δ Delta) None (λ a. work (pressure_formula t rho a))) (fallen_terms iso δ) phase q
      (then_sums v (state_ideal phase (fallen_terms iso δ) t iso rho)) (then_sums v (state_ideal q (fallen_terms iso δ) t iso rho))
  unfolding five_sums state_ideal
  kept_sums δ None e = none t rho _ _ phase q _
  kept_sums δ (Some s) e = rw (first_sum (residual iso δ) s e) (kept_with t rho (fallen_terms iso δ) phase q s (ideal_part iso.tau).first (ideal_part iso.tau).second)

  kept_from : (w : Worked) → checked (value (delta rho)) ≡ w
      → Keeps t rho (or_else w None (λ δ. or_else (residual iso δ Delta) None (λ a. work (pressure_formula t rho a))))
      (fallen_terms iso (value (delta rho))) phase q
      (or_else w None (λ δ. then_sums (five_sums iso δ) (state_ideal phase (fallen_terms iso δ) t iso rho)))
      (or_else w None (λ δ. then_sums (five_sums iso δ) (state_ideal q (fallen_terms iso δ) t iso rho)))
  kept_from None e = none t rho _ _ phase q _
  kept_from (Some δ) e = rw (checked_number (value (delta rho)) δ e).0 (kept_sums δ (five_sums iso δ) refl)

  -- THE PRESSURE OF A STATE IS THE PRESSURE ALONE, bit for bit; T, ρ and the phase are those asked for, the count is that of the terms that fell away there;
  -- another phase has the same eight numbers
  pub kept : Keeps t rho (pressure_on t iso rho) (fallen_terms iso (value (delta rho))) phase q (state_on t iso phase rho) (state_on t iso q rho)
  unfolding pressure_on state_on
  kept = kept_from (work (delta rho)) (once (delta rho))

-- ---- where τ or its quarter root fails there is no state
pub no_state : (t : Float) (phase : Phase) (rho : Float) → work (quarter_of t) ≡ None → state_on t (isotherm t) phase rho ≡ None
unfolding state_on five_sums all_five
no_state t phase rho e =
    by_working (λ s. s ≡ None) (work (delta rho)) _ _ (λ _. refl) (λ d _. rw (failed_with_temperature t d Delta e) refl)
