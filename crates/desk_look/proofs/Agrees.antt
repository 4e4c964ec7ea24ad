-- What is explained of a line never differs from the report: its milligrams or its refusal are those that were weighed. Assumes nothing.
use Rattle.refusal.specs.Refused.{refused}
use Rattle.std.specs.Prelude.{Float, Some, None, Ok, Err}
use Prim.Native.Nat.{ℕ}
use mathlib.Core.Path.{◌≡◌, refl, ap}
use mathlib.Core.List.{List}
use Rattle.num_working.proofs.Cases.{by_test}
use Rattle.eos_state.specs.declared.State.{State}
use Rattle.equation.specs.Equation.{of1996}
use Rattle.door_limits.specs.declared.Limits.{Limits}
use Rattle.door_checks.specs.Check.{Check}
use Rattle.door_answers.specs.Answer.{Answer}
use Rattle.door_pressure.specs.PressureDoor.{pressure_door}
use Rattle.door_density.specs.DensityDoor.{density_door}
use Rattle.sheet_text.specs.Field.{Field}
use Rattle.sheet_mass.specs.Mass.{from_scale}
use Rattle.sheet_mass.specs.declared.Grams.{Grams}
use Rattle.sheet_mass.specs.declared.Milligrams.{Milligrams}
use Rattle.sheet_line.specs.Line.{Temperature}
use Rattle.sheet_line.specs.declared.line.Reading.{Reading}
use Rattle.sheet_line.specs.declared.line.Line.{Line}
use Rattle.sheet_outcome.specs.Outcome.{Weighed}
use Rattle.sheet_standing.specs.Standing.{standing}
use Rattle.sheet_weigh.specs.Weighing.{is_volume, filled, on_scale, milligrams, by_answer, by_reading, if_number, weighed, if_passed, weighed_after}
use Rattle.desk_look.specs.Held.{held, seen, looked, look}
use Rattle.desk_look.specs.declared.held.Look.{Look}

-- a line's milligrams, or the number of its refusal
abbrev pub weighs : Look → Weighed
weighs (Look.Mass h) = Ok h.mg
weighs (Look.Weighed x) = Ok x.mg
weighs (Look.Refused n) = Err n

module _ (L : Limits) where
  -- a door's reading: what it comes to is refused, or it is of the state that is told with it
  module _ (k : Temperature) (volume : Field) (r : Reading Float) where
    abbrev Agrees : Weighed → Type 0
    Agrees w = weighs (looked L w k volume r) ≡ w

    of_state : (s : State) → ((mg : Milligrams) → seen L mg k volume r ≡ held mg (Ok s)) → (w : Weighed) → Agrees w
    of_state s e (Ok mg) = ap weighs (e mg)
    of_state s e (Err n) = refl

    of_answer : (v : ℕ) (a : Answer) → ((mg : Milligrams) → seen L mg k volume r ≡ held mg a) → Agrees (by_answer a v)
    of_answer v (Ok s) e = of_state s e (milligrams s.rho v)
    of_answer v (Err n) e = refl

    of_volume : (v : ℕ) (w : Weighed) → Agrees w → Agrees (filled v w)
    unfolding filled
    of_volume v w h = by_test Agrees (is_volume v) w (refused 2) (λ _. h) (λ _. refl)

  of_scale : (k : Temperature) (volume : Field) (g : Grams) (w : Weighed) → weighs (looked L w k volume (Reading.Weighed g)) ≡ w
  of_scale k volume g (Ok mg) = refl
  of_scale k volume g (Err n) = refl

  of_reading : (v : ℕ) (k : Temperature) (volume : Field) (r : Reading Float) → weighs (looked L (by_reading L k v r) k volume r) ≡ by_reading L k v r
  unfolding by_reading
  of_reading v k volume Reading.Blank = refl
  of_reading v None volume (Reading.Pressure p) = refl
  of_reading v None volume (Reading.Density d) = refl
  of_reading v (Some t) volume (Reading.Pressure p) =
      let k = Some t in
      let r = Reading.Pressure p in
      of_volume k volume r v _ (of_answer k volume r v (pressure_door of1996 L t p) (λ mg. refl))
  of_reading v (Some t) volume (Reading.Density d) =
      let k = Some t in
      let r = Reading.Density d in
      of_volume k volume r v _ (of_answer k volume r v (density_door of1996 L t d) (λ mg. refl))
  of_reading v k volume (Reading.Weighed g) = of_scale k volume g (filled v (on_scale (from_scale g)))

  of_fields : (number volume : Field) (k : Temperature) (r : Reading Float)
      → (let w = if_number number (λ _. if_number volume (λ v. by_reading L k v r)) in weighs (looked L w k volume r) ≡ w)
  of_fields None volume k r = refl
  of_fields (Some n) None k r = refl
  of_fields (Some n) (Some v) k r = of_reading v k (Some v) r

  of_check : (c : Check) (l : Line Float) → weighs (look L (if_passed c (weighed L l)) l) ≡ if_passed c (weighed L l)
  unfolding look weighed
  of_check (Err n) l = refl
  of_check (Ok tt) l = of_fields l.number l.volume l.temperature l.reading

  -- THE EXPLANATION OF A LINE IS THAT OF ITS REPORT
  pub same_as_report : (before : List ℕ) (l : Line Float) → weighs (look L (weighed_after L before l) l) ≡ weighed_after L before l
  unfolding weighed_after
  same_as_report before l = of_check (standing before l) l
