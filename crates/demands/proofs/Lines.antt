-- A line: each refusal exactly under its condition, and what its milligrams are. Assumes nothing.
use Rattle.refusal.specs.Refused as refusal
use Rattle.std.specs.Prelude.{Some, None, Ok, Err}
use Prim.Native.Nat.{ℕ, ◌*◌}
use mathlib.Core.Path.{◌≡◌, refl, ap, subst, ◌∙◌}
use mathlib.Core.Bool.{true, false, cond}
use native.Mathlib.Omega.{arith}
use lib.Ieee.{Float, binary64, div}
use Rattle.num_working.specs.Number.{whole}
use Rattle.sheet_text.specs.Field.{Field}
use Rattle.sheet_mass.specs.Mass.{as_grams, as_milligrams, is_mass, milligrams_of, from_scale, Scaled}
use Rattle.sheet_line.specs.Record.{recorded_of}
use Rattle.sheet_line.specs.Line.{temperature_of, reading_of, line_of}
use Rattle.sheet_line.specs.declared.cylinder.Kind.{Kind}
use Rattle.sheet_line.specs.declared.cylinder.Cylinder.{Cylinder}
use Rattle.eos_state.specs.declared.State.{State}
use Rattle.equation.specs.Equation.{of1996}
use Rattle.door_limits.specs.declared.Limits.{Limits}
use Rattle.door_answers.specs.Answer.{Answer}
use Rattle.door_pressure.specs.PressureDoor.{pressure_door}
use Rattle.door_density.specs.DensityDoor.{density_door}
use Rattle.num_whole.specs.Whole.{whole_below, Below}
use Rattle.num_working.proofs.Cases.{by_test}
use Rattle.sheet_weigh.specs.Weighing.{if_number, is_volume, filled, on_scale, mass, milligrams, by_answer, by_reading, weighed}
use Rattle.sheet_outcome.specs.Outcome.{Weighed}
use Rattle.sheet_report.proofs.Reports.{number_of}
use Rattle.demands.specs.Demands.{Exactly}
use Rattle.demands.proofs.Checks.{same_number}
use Rattle.demands.proofs.Ranges.{Outside, below_one, above_top, inside, outside, is_inside, is_outside}
use Rattle.demands.specs.Lines as lines
use Rattle.demands.specs.Lines.{AtDoor, for_pressure, for_density, Dashed, in_number, in_temperature, in_value, in_volume, Asked, by_pressure, by_density, Figures, Volume, NoVolume, none, too_large, Mass, NoMass, no_grams, too_heavy, OnScale, product, RefusesLine, no_volume, no_volume_weighed, no_mass, by_door, no_product, Weighs, by_product, by_scale}

-- ---- the volume

in_volume_range : (v : ℕ) → is_volume v ≡ true → Volume v
in_volume_range v e = let r = inside 1_000_000 v e in record { at_least = r.0; at_most = r.1 }

out_of_volume_range : {v : ℕ} → Outside 1_000_000 v → NoVolume v
out_of_volume_range (below_one e) = none e
out_of_volume_range (above_top h) = too_large h

is_volume_lem : {v : ℕ} → Volume v → is_volume v ≡ true
is_volume_lem {v} r = is_inside 1_000_000 v r.at_least r.at_most

is_no_volume : {v : ℕ} → NoVolume v → is_volume v ≡ false
is_no_volume {v} (none e) = is_outside 1_000_000 v (below_one e)
is_no_volume {v} (too_large h) = is_outside 1_000_000 v (above_top h)

-- ---- the mass that was weighed

in_mass_range : (g : ℕ) → is_mass g ≡ true → Mass g
in_mass_range g e = let r = inside 9_999_999_999 g e in record { at_least = r.0; at_most = r.1 }

out_of_mass_range : {g : ℕ} → Outside 9_999_999_999 g → NoMass g
out_of_mass_range (below_one e) = no_grams e
out_of_mass_range (above_top h) = too_heavy h

is_mass_lem : {g : ℕ} → Mass g → is_mass g ≡ true
is_mass_lem {g} r = is_inside 9_999_999_999 g r.at_least r.at_most

is_no_mass : {g : ℕ} → NoMass g → is_mass g ≡ false
is_no_mass {g} (no_grams e) = is_outside 9_999_999_999 g (below_one e)
is_no_mass {g} (too_heavy h) = is_outside 9_999_999_999 g (above_top h)

pub not_weighed : {k : Kind} → AtDoor k → k ≡ Kind.Weighed → ⊥
not_weighed for_pressure e = let z : ◌≡◌ {A = ℕ} 0 1 = cc in omega arith
not_weighed for_density e = let z : ◌≡◌ {A = ℕ} 0 1 = cc in omega arith

-- ---- what a line comes to, by its parts

module _ (L : Limits) where
  pub data Comes (c : Cylinder) : Weighed → Type 0 where
    refused : {n : ℕ} → RefusesLine L c n → Comes c (refusal.refused n)
    weighs : {mg : ℕ} → Weighs L c mg → Comes c (Ok (as_milligrams mg))

  module _ (c : Cylinder) where
    of_product : {v : ℕ} (s : State) (b : Below) → Figures L c v (Ok s) → Volume v → whole_below (product s v) ≡ b → Comes c (mass b)
    of_product s (Some mg) f r e = weighs (by_product f r e)
    of_product s None f r e = refused (no_product f r e)

    of_answer : {v : ℕ} (a : Answer) → Figures L c v a → Volume v → Comes c (by_answer a v)
    unfolding milligrams
    of_answer {v} (Ok s) f r = of_product s (whole_below (product s v)) f r refl
    of_answer (Err n) f r = refused (by_door f r)

    of_scale : {v : ℕ} (g : ℕ) → OnScale c v g → Volume v → Comes c (on_scale (from_scale (as_grams g)))
    unfolding from_scale milligrams_of
    of_scale g f r =
        by_test (λ (s : Scaled). Comes c (on_scale s)) (is_mass g) (Some (as_milligrams (1000 * g))) None
        (λ e. weighs (by_scale f r (in_mass_range g e))) (λ e. refused (no_mass f r (out_of_mass_range (outside 9_999_999_999 g e))))

    of_volume : {v : ℕ} (w : Weighed) → (Volume v → Comes c w) → (NoVolume v → RefusesLine L c 2) → Comes c (filled v w)
    unfolding filled
    of_volume {v} w f out =
        by_test (Comes c) (is_volume v) w (refusal.refused 2) (λ r. f (in_volume_range v r))
        (λ r. refused (out (out_of_volume_range (outside 1_000_000 v r))))

    at_door : {v : ℕ} (a : Answer) → Figures L c v a → Comes c (filled v (by_answer a v))
    at_door {v} a f = of_volume (by_answer a v) (of_answer a f) (no_volume f)

    of_parts : (n : Field) → c.number ≡ n → (g : Field) → c.volume ≡ g → (k : Field) → c.temperature ≡ k → (d : Kind) → c.kind ≡ d
        → (x : Field) → c.value ≡ x → Comes c (if_number n (λ _. if_number g (λ v. by_reading L (temperature_of k) v (reading_of (recorded_of d x)))))
    unfolding by_reading
    of_parts None e g h k f d p x q = refused (lines.blank (in_number e))
    of_parts (Some n) e None h k f d p x q = refused (lines.blank (in_volume h))
    of_parts (Some n) e (Some v) h k f d p None q = refused (lines.blank (in_value q))
    of_parts (Some n) e (Some v) h None f Kind.Pressure p (Some x) q = refused (lines.blank (in_temperature (rw p for_pressure) f))
    of_parts (Some n) e (Some v) h None f Kind.Density p (Some x) q = refused (lines.blank (in_temperature (rw p for_density) f))
    of_parts (Some n) e (Some v) h (Some k) f Kind.Pressure p (Some x) q =
        let t = div binary64 (whole k) (whole 10000) in
        let a = pressure_door of1996 L t (whole x) in
        at_door a (record { cylinder = n; degrees = k; number = e; temperature = f; volume = h; asked = rw (p, q) (by_pressure x) })
    of_parts (Some n) e (Some v) h (Some k) f Kind.Density p (Some x) q =
        let t = div binary64 (whole k) (whole 10000) in
        let a = density_door of1996 L t (div binary64 (whole x) (whole 1000)) in
        at_door a (record { cylinder = n; degrees = k; number = e; temperature = f; volume = h; asked = rw (p, q) (by_density x) })
    of_parts (Some n) e (Some v) h k f Kind.Weighed p (Some x) q =
        let s : OnScale c v x = record { cylinder = n; number = e; kind = p; value = q; volume = h } in
        of_volume (on_scale (from_scale (as_grams x))) (of_scale x s) (no_volume_weighed s)

    pub comes : Comes c (weighed L (line_of c))
    unfolding weighed
    comes = of_parts c.number refl c.volume refl c.temperature refl c.kind refl c.value refl

    -- ---- DEMAND 2: a blank is refused by 1, whatever the other fields are, and never read as a number

    of_number : (n : Field) (f : ℕ → Weighed) → ((k : ℕ) → f k ≡ refusal.refused 1) → if_number n f ≡ refusal.refused 1
    of_number None f h = refl
    of_number (Some n) f h = h n

    no_temperature : (v : ℕ) (d : Kind) (x : Field) → AtDoor d → by_reading L None v (reading_of (recorded_of d x)) ≡ refusal.refused 1
    unfolding by_reading
    no_temperature v d None a = refl
    no_temperature v Kind.Pressure (Some x) a = refl
    no_temperature v Kind.Density (Some x) a = refl
    no_temperature v Kind.Weighed (Some x) a = absurd (not_weighed a refl)

    pub dash_refused : Dashed c → weighed L (line_of c) ≡ refusal.refused 1
    unfolding weighed by_reading
    dash_refused (in_number e) = rw e
    dash_refused (in_volume e) = rw e (of_number c.number _ (λ _. refl))
    dash_refused (in_value e) = rw e (of_number c.number _ (λ _. of_number c.volume _ (λ _. refl)))
    dash_refused (in_temperature a e) = rw e (of_number c.number _ (λ _. of_number c.volume _ (λ v. no_temperature v c.kind c.value a)))

    -- ---- and where none is, the door is asked, or the scale

    at_the_door : (t : Float) (d : Kind) (x : Field) (a : Answer) (v : ℕ) → Asked L t d x a
        → by_reading L (Some t) v (reading_of (recorded_of d x)) ≡ filled v (by_answer a v)
    unfolding by_reading
    at_the_door t d x a v (by_pressure n) = refl
    at_the_door t d x a v (by_density n) = refl

    figured : {v : ℕ} {a : Answer} → Figures L c v a → weighed L (line_of c) ≡ cond (is_volume v) (by_answer a v) (refusal.refused 2)
    unfolding weighed filled
    figured {v} {a} f =
        rw (f.number, f.volume, f.temperature)
        (at_the_door (div binary64 (whole f.degrees) (whole 10000)) c.kind c.value a v f.asked)

    scaled : {v g : ℕ} → OnScale c v g → weighed L (line_of c) ≡ cond (is_volume v) (on_scale (from_scale (as_grams g))) (refusal.refused 2)
    unfolding weighed by_reading filled
    scaled f = rw (f.number, f.volume, f.kind, f.value)

    line_refused : {n : ℕ} → RefusesLine L c n → weighed L (line_of c) ≡ refusal.refused n
    unfolding milligrams from_scale
    line_refused (lines.blank b) = dash_refused b
    line_refused (no_volume f r) = figured f ∙ rw (is_no_volume r)
    line_refused (no_volume_weighed f r) = scaled f ∙ rw (is_no_volume r)
    line_refused (no_mass f r m) = scaled f ∙ rw (is_volume_lem r, is_no_mass m)
    line_refused (by_door f r) = figured f ∙ rw (is_volume_lem r)
    line_refused (no_product f r e) = figured f ∙ rw (is_volume_lem r, e)

    line_weighed : {mg : ℕ} → Weighs L c mg → weighed L (line_of c) ≡ Ok (as_milligrams mg)
    unfolding milligrams from_scale milligrams_of
    line_weighed (by_product f r e) = figured f ∙ rw (is_volume_lem r, e)
    line_weighed (by_scale f r m) = scaled f ∙ rw (is_volume_lem r, is_mass_lem m)

  -- ---- each refusal exactly under its condition, and the milligrams exactly as they are defined

  refuses : (c : Cylinder) (w : Weighed) (k : ℕ) → Comes c w → w ≡ refusal.refused k → RefusesLine L c k
  refuses c w k (refused {n} r) e = let q : n ≡ k = same_number e in subst (RefusesLine L c) q r
  refuses c w k (weighs x) e = let z : ◌≡◌ {A = ℕ} 0 1 = cc in absurd (omega arith)

  is_weighed : (c : Cylinder) (w : Weighed) (k : ℕ) → Comes c w → w ≡ Ok (as_milligrams k) → Weighs L c k
  is_weighed c w k (weighs {mg} x) e = subst (Weighs L c) (ap number_of e) x
  is_weighed c w k (refused r) e = let z : ◌≡◌ {A = ℕ} 0 1 = cc in absurd (omega arith)

  pub line_refusals : (c : Cylinder) (n : ℕ) → Exactly (weighed L (line_of c) ≡ refusal.refused n) (RefusesLine L c n)
  line_refusals c n = (refuses c (weighed L (line_of c)) n (comes c), line_refused c)

  pub line_answers : (c : Cylinder) (mg : ℕ) → Exactly (weighed L (line_of c) ≡ Ok (as_milligrams mg)) (Weighs L c mg)
  line_answers c mg = (is_weighed c (weighed L (line_of c)) mg (comes c), line_weighed c)
