-- What a caller may take from the promise: where the lengths fit, each place is what is handed over of one state, and where they don't, all stays.
-- Assumes nothing.
use Rattle.std.specs.Prelude.{Ok, Err}
use mathlib.Core.Path.{◌≡◌, refl, sym, ap, ◌∙◌}
use mathlib.Core.List.{List, [], ◌∷◌}
use Prim.Native.Nat.{ℕ, zero, suc, ◌+◌, ◌*◌, ◌<◌}
use native.Mathlib.Omega.{arith}
use borrow.Author.Tests.{le-ltb, le-leb}
use lib.ListN.{length, get_or, take, drop, length-drop}
use lib.Seq.{take_at, drop_at, drop-drop}
use lib.Ieee.{Float}
use Rattle.equation.specs.Equation.{of1996}
use Rattle.door_limits.specs.Limits.{document01}
use Rattle.door_pressure.specs.PressureDoor.{pressure_door}
use Rattle.door_conductivity.specs.Conducted.{with_conductivity, Conducted}
use Rattle.interface_figures.specs.Figures.{laid_over, conducted_number, carried, carried_of, asked, CarriedIn}
use Rattle.interface_states.specs.States.{given, numbers, tens, StatesIn}
use Rattle.interface_states.proofs.Fitting.{so_fits, fitting, no_fit}
use Rattle.interface_states.proofs.Places.{at, ten, ten_length}

-- what is handed over is as long as what was lent
laid_length : (xs l : List Float) → length (laid_over xs l) ≡ length l
unfolding laid_over
laid_length [] [] = refl
laid_length [] (z ∷ l) = refl
laid_length (x ∷ xs) [] = refl
laid_length (x ∷ xs) (z ∷ l) = ap suc (laid_length xs l)

carried_length : (a : Conducted) (l : List Float) → length (carried_of a l) ≡ length l
carried_length (Err n) l = refl
carried_length (Ok c) l = laid_length (carried c) l

-- ---- of what is given

number_at : (ts ps : List Float) (i : ℕ) (d : Float) → length ps ≡ length ts → i < length ts
    → get_or (numbers (given ts ps)) i 0 ≡ conducted_number (at (get_or ts i d) (get_or ps i d))
unfolding given numbers
number_at [] ps i d e h = absurd (omega (arith, h))
number_at (t ∷ ts) [] i d e h = absurd (omega (arith, e))
number_at (t ∷ ts) (p ∷ ps) zero d e h = refl
number_at (t ∷ ts) (p ∷ ps) (suc i) d e h = number_at ts ps i d (omega (arith, e)) (omega (arith, h))

-- the next place's are the first behind ten
ten_behind : (i : ℕ) (figures : List Float) → ten (suc i) figures ≡ ten i (drop 10 figures)
ten_behind i figures =
    let e : 10 * suc i ≡ 10 + 10 * i = omega arith in
    ap (take 10) (ap (λ (k : ℕ). drop k figures) e ∙ sym (drop-drop (10 * i) 10 figures))

ten_at : (ts ps figures : List Float) (i : ℕ) (d : Float) → length ps ≡ length ts → length figures ≡ 10 * length ts → i < length ts
    → ten i (tens (given ts ps) figures) ≡ carried_of (at (get_or ts i d) (get_or ps i d)) (ten i figures)
unfolding given tens
ten_at [] ps figures i d e f h = absurd (omega (arith, h))
ten_at (t ∷ ts) [] figures i d e f h = absurd (omega (arith, e))
ten_at (t ∷ ts) (p ∷ ps) figures zero d e f h = take_at (carried_of (at t p) (ten 0 figures)) _ 10 (carried_length (at t p) (ten 0 figures) ∙ ten_length _ 0 figures f h)
ten_at (t ∷ ts) (p ∷ ps) figures (suc i) d e f h =
    let first = carried_length (at t p) (ten 0 figures) ∙ ten_length _ 0 figures f (omega arith) in
    ten_behind i _ ∙ ap (ten i) (drop_at (carried_of (at t p) (ten 0 figures)) _ 10 first)
    ∙ ten_at ts ps (drop 10 figures) i d (omega (arith, e)) (rw (length-drop 10 figures) (omega (arith, f))) (omega (arith, h))
    ∙ ap (carried_of (at (get_or ts i d) (get_or ps i d))) (sym (ten_behind i figures))

-- ---- of whatever meets the promise
module _ {ts ps : List Float} {answers new : List ℕ} {figures out : List Float} {r : ℕ} (p : StatesIn ts ps answers new figures out r) where
  -- WHERE THE LENGTHS FIT it returns 260, and EACH PLACE IS WHAT IS HANDED OVER OF ONE STATE THAT IS LENT ITS TEN FIGURES
  module _ (even : length ps ≡ length ts) (room : length answers ≡ length ts) (tenfold : length figures ≡ 10 * length ts) where
    pub worked : r ≡ 260
    worked = p.number ∙ rw (so_fits _ _ _ _ even room tenfold) refl

    pub place : (i : ℕ) (d : Float) → i < length ts
        → CarriedIn (ten i figures) (ten i out)
        (with_conductivity of1996 (asked (ten i figures)) (pressure_door of1996 document01 (get_or ts i d) (get_or ps i d))) (get_or new i 0)
    unfolding asked
    place i d h =
        let fit = so_fits (length ts) (length ps) (length answers) (length figures) even room tenfold in
        let long = ten_length (length ts) i figures tenfold h in
        rw (le-leb 10 (length (ten i figures)) (omega (arith, long)))
        (record {
          number = rw (le-ltb (length (ten i figures)) 8 (omega (arith, long)), p.answered, fit) (number_at ts ps i d even h);
          figures = rw (le-ltb (length (ten i figures)) 8 (omega (arith, long)), p.figured, fit) (ten_at ts ps figures i d even tenfold h);
        })

  -- WHERE A LENGTH DOESN'T FIT it returns 15, and every answer and every figure is as it was
  pub unworked : ((length ps ≡ length ts) × ((length answers ≡ length ts) × (length figures ≡ 10 * length ts)) → ⊥) → (r ≡ 15) × ((new ≡ answers) × (out ≡ figures))
  unworked h =
      let e = no_fit (length ts) (length ps) (length answers) (length figures) (λ fit. h (fitting (length ts) (length ps) (length answers) (length figures) fit)) in
      (p.number ∙ rw e refl, (p.answered ∙ rw e refl, p.figured ∙ rw e refl))
