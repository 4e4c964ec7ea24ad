-- After i turns the first i places are as they are given, and with what is left to do they make the whole. Assumes nothing.
use mathlib.Core.Path.{◌≡◌, refl, sym, ap, ◌∙◌}
use mathlib.Core.Bool.{true}
use mathlib.Core.List.{List, [], ◌∷◌, ◌++◌, append_assoc, append-nil}
use Prim.Native.Nat.{ℕ, zero, suc, ◌+◌, ◌*◌, ◌≤◌, ◌<◌}
use native.Mathlib.Omega.{arith}
use borrow.Author.Tests.{le-ltb, le-leb}
use lib.ListN.{length, get_or, take, drop, set, length-append, length-set, length-drop, take-append-drop, drop_of_length-le}
use lib.Seq.{length-take-le, take_all, take-suc-set, append_snoc, take_at, drop_at}
use lib.Ieee.{Float}
use Rattle.equation.specs.Equation.{of1996}
use Rattle.door_limits.specs.Limits.{document01}
use Rattle.door_pressure.specs.PressureDoor.{pressure_door}
use Rattle.door_conductivity.specs.Conducted.{with_conductivity, Conducted}
use Rattle.interface_figures.specs.Figures.{conducted_number, carried_of, asked, CarriedIn}
use Rattle.interface_states.specs.States.{all_fit, given, numbers, tens, StatesIn}

-- what the door gives a place, with the conductivity
abbrev pub at : Float → Float → Conducted
at t p = with_conductivity of1996 true (pressure_door of1996 document01 t p)

given_length : (ts ps : List Float) → length ps ≡ length ts → length (given ts ps) ≡ length ts
unfolding given
given_length [] ps e = refl
given_length (t ∷ ts) [] e = absurd (omega (arith, e))
given_length (t ∷ ts) (p ∷ ps) e = ap suc (given_length ts ps (omega (arith, e)))

-- place i, and those behind it
given_from : (ts ps : List Float) (i : ℕ) (d : Float) → length ps ≡ length ts → i < length ts
    → drop i (given ts ps) ≡ at (get_or ts i d) (get_or ps i d) ∷ drop (suc i) (given ts ps)
unfolding given
given_from [] ps i d e h = absurd (omega (arith, h))
given_from (t ∷ ts) [] i d e h = absurd (omega (arith, e))
given_from (t ∷ ts) (p ∷ ps) zero d e h = refl
given_from (t ∷ ts) (p ∷ ps) (suc i) d e h = given_from ts ps i d (omega (arith, e)) (omega (arith, h))

-- after i turns the first i places are as they are given, and with what is left to do they make the whole; no length has changed, by which what is
-- known of the lengths at entry is known of those now
pub record Turn (ts ps : List Float) (answers₀ answers : List ℕ) (figures₀ figures : List Float) (i : ℕ) : Type 0 where
  pub fit : all_fit ts ps answers₀ figures₀ ≡ true
  pub even : length ps ≡ length ts
  pub room : length answers ≡ length ts
  pub tenfold : length figures ≡ 10 * length ts
  pub same_answers : length answers ≡ length answers₀
  pub same_figures : length figures ≡ length figures₀
  pub within : i ≤ length ts
  pub answered : take i answers ++ numbers (drop i (given ts ps)) ≡ numbers (given ts ps)
  pub figured : take (10 * i) figures ++ tens (drop i (given ts ps)) (drop (10 * i) figures) ≡ tens (given ts ps) figures₀

-- the ten figures of place i
abbrev pub ten : ℕ → List Float → List Float
ten i figures = take 10 (drop (10 * i) figures)

pub ten_length : (n i : ℕ) (figures : List Float) → length figures ≡ 10 * n → i < n → length (ten i figures) ≡ 10
ten_length n i figures f h = length-take-le 10 (drop (10 * i) figures) (rw (length-drop (10 * i) figures) (omega (arith, f, h)))

-- ---- one turn

-- a number set behind the first i answers
next_number : (answers : List ℕ) (i : ℕ) (a : Conducted) (rest : List Conducted) → i < length answers
    → take (suc i) (set answers i (conducted_number a)) ++ numbers rest ≡ take i answers ++ numbers (a ∷ rest)
unfolding numbers
next_number answers i a rest h =
    ap (λ (l : List ℕ). l ++ numbers rest) (take-suc-set answers i (conducted_number a) h) ∙ append_snoc (take i answers) (conducted_number a) (numbers rest)

-- ten figures put behind the first k
module _ (figures put : List Float) (k : ℕ) (wide : k + 10 ≤ length figures) (is_ten : length put ≡ 10) where
  abbrev placed : List Float
  placed = take k figures ++ (put ++ drop 10 (drop k figures))

  front : length (take k figures ++ put) ≡ k + 10
  front = length-append (take k figures) put ∙ rw (length-take-le k figures (omega (arith, wide)), is_ten) refl

  split : placed ≡ (take k figures ++ put) ++ drop 10 (drop k figures)
  split = sym (append_assoc (take k figures) put (drop 10 (drop k figures)))

  placed_length : length placed ≡ length figures
  placed_length =
      ap length split ∙ length-append (take k figures ++ put) (drop 10 (drop k figures))
      ∙ rw (front, length-drop 10 (drop k figures), length-drop k figures) (omega (arith, wide))

  taken : take (k + 10) placed ≡ take k figures ++ put
  taken = ap (take (k + 10)) split ∙ take_at (take k figures ++ put) (drop 10 (drop k figures)) (k + 10) front

  dropped : drop (k + 10) placed ≡ drop 10 (drop k figures)
  dropped = ap (drop (k + 10)) split ∙ drop_at (take k figures ++ put) (drop 10 (drop k figures)) (k + 10) front

  next_tens : (a : Conducted) (rest : List Conducted) (m : ℕ) → m ≡ k + 10 → put ≡ carried_of a (take 10 (drop k figures))
      → take m placed ++ tens rest (drop m placed) ≡ take k figures ++ tens (a ∷ rest) (drop k figures)
  unfolding tens
  next_tens a rest m e is-a =
      rw (e, taken, dropped) (append_assoc (take k figures) put (tens rest (drop 10 (drop k figures))))
      ∙ ap (λ (l : List Float). take k figures ++ (l ++ tens rest (drop 10 (drop k figures)))) is-a

-- ten figures are enough, and ask for the conductivity
handed : (old new : List Float) (t p : Float) (r : ℕ) → length old ≡ 10
    → CarriedIn old new (with_conductivity of1996 (asked old) (pressure_door of1996 document01 t p)) r → (r ≡ conducted_number (at t p)) × (new ≡ carried_of (at t p) old)
unfolding asked
handed old new t p r e h =
    let q = rw (le-leb 10 (length old) (omega (arith, e))) at h in
    (rw (le-ltb (length old) 8 (omega (arith, e))) at q.number, rw (le-ltb (length old) 8 (omega (arith, e))) at q.figures)

module _ {ts ps : List Float} {answers₀ answers : List ℕ} {figures₀ figures : List Float} {i : ℕ} (turn : Turn ts ps answers₀ answers figures₀ figures i) where
  next_ten : i < length ts → (d : Float) (put : List Float) (r : ℕ) → length put ≡ 10
      → CarriedIn (ten i figures) put
      (with_conductivity of1996 (asked (ten i figures)) (pressure_door of1996 document01 (get_or ts i d) (get_or ps i d))) r
      → Turn ts ps answers₀ (set answers i r) figures₀ (take (10 * i) figures ++ (put ++ drop 10 (drop (10 * i) figures))) (suc i)
  unfolding tens
  next_ten h d put r is_ten c =
      let a = at (get_or ts i d) (get_or ps i d) in
      let rest = drop (suc i) (given ts ps) in
      let wide : 10 * i + 10 ≤ length figures = omega (arith, turn.tenfold, h) in
      let got = handed (ten i figures) put (get_or ts i d) (get_or ps i d) r (ten_length (length ts) i figures turn.tenfold h) c in
      let from = given_from ts ps i d turn.even h in
      let long = placed_length figures put (10 * i) wide is_ten in
      record {
        fit = turn.fit;
        even = turn.even;
        room = length-set answers i r ∙ turn.room;
        tenfold = long ∙ turn.tenfold;
        same_answers = length-set answers i r ∙ turn.same_answers;
        same_figures = long ∙ turn.same_figures;
        within = omega (arith, h);
        answered = rw got.0 (next_number answers i a rest (omega (arith, turn.room, h))) ∙ rw from at turn.answered;
        figured = next_tens figures put (10 * i) wide is_ten a rest (10 * suc i) (omega arith) got.1 ∙ rw from at turn.figured;
      }

  -- THE NEXT PLACE, by what is handed over there
  pub next : (k m : ℕ) → k ≡ 10 → m ≡ suc i → i < length ts → (d : Float) (put : List Float) (r : ℕ) → length put ≡ length (take k (drop (10 * i) figures))
      → CarriedIn (take k (drop (10 * i) figures)) put
      (with_conductivity of1996 (asked (take k (drop (10 * i) figures))) (pressure_door of1996 document01 (get_or ts i d) (get_or ps i d))) r
      → Turn ts ps answers₀ (set answers i r) figures₀ (take (10 * i) figures ++ (put ++ drop k (drop (10 * i) figures))) m
  next k m e f h d put r same c =
      rw (e, f) (next_ten h d put r ((rw e at same) ∙ ten_length (length ts) i figures turn.tenfold h) (rw e at c))

  -- AND THE WHOLE, when there is no place left
  pub done : length ts ≤ i → StatesIn ts ps answers₀ answers figures₀ figures 260
  unfolding tens numbers
  done h =
      let none : drop i (given ts ps) ≡ [] = drop_of_length-le (given ts ps) {i = i} (rw (given_length ts ps turn.even) h) in
      let all : take i answers ≡ answers = take_all i answers (omega (arith, turn.room, h)) in
      record {
        number = rw turn.fit refl;
        answered = rw turn.fit (sym (append-nil answers) ∙ rw (none, all) at turn.answered);
        figured = rw turn.fit (sym (take-append-drop (10 * i) figures) ∙ rw none at turn.figured);
      }
