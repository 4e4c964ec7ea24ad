-- What is worked on request is worked of the door's answer and after it, so that nothing else of an answer hangs on it. Over any equation, of 1996, and of
-- the public functions. Assumes nothing.
use Rattle.refusal.specs.declared.Refusal.{Refusal}
use Rattle.refusal.specs.Refused.{refused}
use Rattle.std.specs.Prelude.{Some, None, Ok, Err}
use Prim.Native.Nat.{ℕ}
use mathlib.Core.Path.{◌≡◌, refl, sym, ap, ◌∙◌}
use mathlib.Core.Bool.{Bool, true, false}
use native.Mathlib.Omega.{arith}
use lib.Ieee.{Float}
use Rattle.num_working.specs.Working.{or_else, Worked}
use Rattle.num_working.proofs.Cases.{never}
use Rattle.eos_conductivity.specs.Conductivity.{conductivity_at}
use Rattle.eos_state.specs.declared.State.{State}
use Rattle.equation.specs.Equation.{Equation, Lawful, of1996}
use Rattle.equation.proofs.Laws.{lawful}
use Rattle.door_limits.specs.declared.Limits.{Limits}
use Rattle.door_answers.specs.Answer.{Answer}
use Rattle.door_pressure.specs.PressureDoor as pressure
use Rattle.door_pressure.specs.PressureDoor.{pressure_door}
use Rattle.door_pressure.proofs.from_pressure.Reads as from_pressure
use Rattle.door_density.specs.DensityDoor as density
use Rattle.door_density.specs.DensityDoor.{density_door}
use Rattle.door_density.proofs.from_density.Reads as from_density
use Rattle.door_conductivity.specs.Conducted.{carrying, conducting, with_conductivity, Conductivity, Conducted}
use Rattle.door_conductivity.specs.declared.Carried.{Carried}
use Rattle.door_conductivity.proofs.with_conductivity.Reads as with_conductivity_reads
use Rattle.demands.specs.Demands.{Whatever, Exactly, Settled, given, not_given, to_9}
use Rattle.demands.specs.Conductivities.{without_conductivity, Unasked, PressureByAny, DensityByAny, RefusesAsked, by_door, no_conductivity, AnswersAsked, AskedRefusals, AskedAnswers, SettledAsked, given_with, given_none, SameConductivity}
use Rattle.demands.proofs.Checks.{same_number}
use Rattle.demands.proofs.PressureDoors.{pressure_answers}
use Rattle.demands.proofs.DensityDoors.{density_answers}

-- ---- not asked for
pub not_asked : (E : Equation) (a : Answer) → Unasked E a
not_asked E (Err n) = record { same = refl; none = λ c e. never (cc); by_any = λ F. refl }
not_asked E (Ok s) = record { same = refl; none = λ c e. cc; by_any = λ F. refl }

-- no step of a door looks at it
module _ (E : Equation) (L : Limits) where
  pub pressure_by_any : PressureByAny E L
  unfolding pressure.pressure_door pressure.thawed pressure.unboxed pressure.entered pressure.beneath pressure.vapour pressure.liquid
  pressure_by_any f t p = refl

  pub density_by_any : DensityByAny E L
  unfolding density.density_door density.unboxed density.entered density.beneath density.in_phase
  density_by_any f t rho = refl

-- ---- asked for
module _ (E : Equation) where
  -- of a state, by what its conductivity was worked to
  refused_back : (s : State) (w : Worked) → E.conductivity s.t s.rho ≡ w → (n : ℕ) → RefusesAsked E (Ok s) n
      → or_else w (refused 7) (λ x. carrying s (Some x)) ≡ refused n
  refused_back s w e n (by_door h) = never (cc)
  refused_back s None e n (no_conductivity h k) = refl
  refused_back s (Some x) e n (no_conductivity h k) = never (cc)

  refused_of : (s : State) (w : Worked) → E.conductivity s.t s.rho ≡ w → (n : ℕ)
      → or_else w (refused 7) (λ x. carrying s (Some x)) ≡ refused n → RefusesAsked E (Ok s) n
  refused_of s None e n h = let m : 7 ≡ n = same_number h in rw (← m) (no_conductivity refl e)
  refused_of s (Some x) e n h = never (cc)

  door_back : (m : Refusal) (n : ℕ) → RefusesAsked E (Err m) n → ◌≡◌ {A = Conducted} (Err m) (refused n)
  door_back m n (by_door h) = cc
  door_back m n (no_conductivity h k) = never (cc)

  pub asked_refusals : AskedRefusals E
  unfolding conducting
  asked_refusals (Err m) n = (λ h. by_door {n = n} (cc), door_back m n)
  asked_refusals (Ok s) n =
      (refused_of s (E.conductivity s.t s.rho) refl n, refused_back s (E.conductivity s.t s.rho) refl n)

  answered_of : (s : State) (w : Worked) → E.conductivity s.t s.rho ≡ w → (c : Carried)
      → or_else w (refused 7) (λ x. carrying s (Some x)) ≡ Ok c → AnswersAsked E (Ok s) c
  answered_of s None e c h = never (cc)
  answered_of s (Some x) e c h = let i : s ≡ c.state = cc in record { number = x; state = cc; worked = rw (← i) e; carried = cc }

  answered_back : (s : State) (c : Carried) → AnswersAsked E (Ok s) c
      → or_else (E.conductivity s.t s.rho) (refused 7) (λ x. carrying s (Some x)) ≡ Ok c
  answered_back s c p =
      let h = p.state in
      let i : s ≡ c.state = cc in
      rw (i, p.worked) (ap (λ (k : Conductivity). carrying c.state k) (sym p.carried))

  pub asked_answers : AskedAnswers E
  unfolding conducting
  asked_answers (Err m) c = (λ h. never (cc), λ p. let h = p.state in never (cc))
  asked_answers (Ok s) c = (answered_of s (E.conductivity s.t s.rho) refl c, answered_back s c)

-- ---- of 1996: no other number is given, asked for or not
settles : (a : Answer) → Settled a → (asked : Bool) → SettledAsked (with_conductivity of1996 asked a)
unfolding conducting
settles a (not_given n e h) asked = given_none n (rw e refl) h
settles a (given x e) false = given_with (record { state = x; conductivity = None }) (rw e refl)
settles a (given x e) true = rw e (worked (of1996.conductivity x.t x.rho))
  where
    worked : (w : Worked) → SettledAsked (or_else w (refused 7) (λ k. carrying x (Some k)))
    worked None = given_none 7 refl (to_9 7 (omega arith) (omega arith))
    worked (Some k) = given_with _ refl

-- ---- both doors give the same
module _ (E : Equation) (L : Limits) (lawful : Lawful E) where
  pub same_conductivity : SameConductivity E L
  same_conductivity t p x y e f =
      let a = (asked_answers E (pressure_door E L t p) x).0 e in
      let b = (asked_answers E (density_door E L t x.state.rho) y).0 f in
      let c = pressure_answers E L lawful t p x.state a.state in
      let d = density_answers E L lawful t x.state.rho y.state b.state in
      let u = a.worked in
      let v = b.worked in
      let h = c.temperature in
      let k = d.temperature in
      let l = d.density in
      let m : a.number ≡ b.number = cc in
      b.carried ∙ ap (λ (n : Float). Some n) (sym m) ∙ sym a.carried

-- ---- of what the function promises: asked for, not asked for, and what a conductivity is that is carried
pub with_conductivity_asked : Whatever (with_conductivity_reads.Post tt) (λ a r. a.0 ≡ true
    → ((n : ℕ) → Exactly (r ≡ refused n) (RefusesAsked of1996 a.1.0 n)) × ((c : Carried) → Exactly (r ≡ Ok c) (AnswersAsked of1996 a.1.0 c)))
with_conductivity_asked a r s h k =
    let e : r ≡ with_conductivity of1996 true a.1.0 = rw k at h in
    rw e (asked_refusals of1996 a.1.0, asked_answers of1996 a.1.0)

pub with_conductivity_unasked : Whatever (with_conductivity_reads.Post tt) (λ a r. a.0 ≡ false → without_conductivity r ≡ a.1.0)
with_conductivity_unasked a r s h k = rw (h, k) (not_asked of1996 a.1.0).same

carries : (asked : Bool) (a : Answer) (c : Carried) (x : Float) → with_conductivity of1996 asked a ≡ Ok c → c.conductivity ≡ Some x
    → of1996.conductivity c.state.t c.state.rho ≡ Some x
carries false a c x e k = let n = (not_asked of1996 a).none c e in never (cc)
carries true a c x e k =
    let p = (asked_answers of1996 a c).0 e in
    let q = p.carried in
    let i : p.number ≡ x = cc in
    p.worked ∙ ap Some i

pub with_conductivity_carries : Whatever (with_conductivity_reads.Post tt) (λ a r. (c : Carried) (x : Float) → r ≡ Ok c → c.conductivity ≡ Some x
    → conductivity_at c.state.t c.state.rho ≡ Some x)
unfolding of1996
with_conductivity_carries a r s h c x e k = carries a.0 a.1.0 c x (sym h ∙ e) k

pub with_conductivity_settles : Whatever (with_conductivity_reads.Post tt) (λ a r. Settled a.1.0 → SettledAsked r)
with_conductivity_settles a r s h k = rw h (settles a.1.0 k a.0)

pub from_density_same_conductivity : Whatever (from_pressure.Post tt) (λ a r.
    Whatever (with_conductivity_reads.Post tt) (λ b q. b.0 ≡ true → b.1.0 ≡ r → (x : Carried) → q ≡ Ok x
    → Whatever (from_density.Post tt) (λ d u. d.0 ≡ a.0 → d.1.0 ≡ a.1.0 → d.1.1.0 ≡ x.state.rho
    → Whatever (with_conductivity_reads.Post tt) (λ e v. e.0 ≡ true → e.1.0 ≡ u → (y : Carried) → v ≡ Ok y → y.conductivity ≡ x.conductivity))))
from_density_same_conductivity a r s₁ h b q s₂ k b₀ b₁ x i d u s₃ l d₀ d₁ d₂ e v s₄ m e₀ e₁ y j =
    same_conductivity of1996 a.0 lawful a.1.0 a.1.1.0 x y
    (rw (← h, ← b₁, ← b₀) (sym k ∙ i))
    (rw (← d₀, ← d₁, ← d₂, ← l, ← e₁, ← e₀) (sym m ∙ j))
