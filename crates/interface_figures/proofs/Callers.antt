-- What a caller may take from what is handed over of a state with all that it carries: which figures are written, with what, and which stay; over any
-- answer of a door. Assumes nothing.
use Rattle.std.specs.Prelude.{Some, None, Ok, Err}
use mathlib.Core.Path.{◌≡◌, refl, sym, ap, ◌∙◌}
use mathlib.Core.Bool.{Bool, true, false, cond}
use mathlib.Core.List.{List, [], ◌∷◌, ◌++◌}
use Prim.Native.Nat.{ℕ, zero, suc, ◌≤◌, ◌<◌}
use native.Mathlib.Omega.{arith}
use borrow.Author.Tests.{le-ltb, lt-leb, le-leb}
use lib.Dec.{ltb}
use lib.ListN.{length, get_or, take, drop}
use lib.Seq.{take-nil}
use lib.Ieee.{Float, nan}
use Rattle.num_working.specs.Number.{whole}
use Rattle.eos_state.specs.State.{eight}
use Rattle.eos_state.specs.declared.State.{State}
use Rattle.refusal.specs.declared.Refusal.{Refusal}
use Rattle.equation.specs.Equation.{Equation}
use Rattle.door_answers.specs.Answer.{Answer}
use Rattle.door_conductivity.specs.Conducted.{with_conductivity, Conductivity, Conducted}
use Rattle.door_conductivity.specs.declared.Carried.{Carried}
use Rattle.interface_figures.specs.Figures.{AnsweredIn, laid_over, counted, on_request, carried, asked, CarriedIn, CountedIn}
use Rattle.interface_figures.proofs.Handed.{eight_laid}

-- ---- numbers laid over the figures: the first are those laid without what comes behind them, each stands at its place, and figures after them stay
first_laid : (xs ys l : List Float) → take (length xs) (laid_over (xs ++ ys) l) ≡ take (length xs) (laid_over xs l)
unfolding laid_over
first_laid [] ys l = refl
first_laid (x ∷ xs) ys [] = refl
first_laid (x ∷ xs) ys (z ∷ l) = ap (λ (r : List Float). x ∷ r) (first_laid xs ys l)

at_laid : (xs l : List Float) (i : ℕ) → i < length xs → i < length l → get_or (laid_over xs l) i nan ≡ get_or xs i nan
unfolding laid_over
at_laid [] l i h k = absurd (omega arith)
at_laid (x ∷ xs) [] i h k = absurd (omega arith)
at_laid (x ∷ xs) (z ∷ l) zero h k = refl
at_laid (x ∷ xs) (z ∷ l) (suc i) h k = at_laid xs l i (omega (arith, h)) (omega (arith, k))

past_laid : (n : ℕ) (xs l : List Float) → length xs ≤ n → drop n (laid_over xs l) ≡ drop n l
unfolding laid_over
past_laid n [] l h = ap (λ (q : List Float). drop n (q ++ l)) (take-nil (length l))
past_laid zero (x ∷ xs) l h = absurd (omega (arith, h))
past_laid (suc n) (x ∷ xs) [] h = refl
past_laid (suc n) (x ∷ xs) (z ∷ l) h = past_laid n xs l (omega (arith, h))

-- whether eight are lent or not
past : (n : ℕ) (l xs : List Float) (b : Bool) → drop n xs ≡ drop n l → drop n (cond b l xs) ≡ drop n l
past n l xs true e = refl
past n l xs false e = e

first_of : (n : ℕ) (l xs ys : List Float) (b : Bool) → take n xs ≡ take n ys → take n (cond b l xs) ≡ take n (cond b l ys)
first_of n l xs ys true e = refl
first_of n l xs ys false e = e

-- ---- of any answer of a door

-- OF ONE ANSWER OF A DOOR, ITS EIGHT NUMBERS AND ALL THAT ITS STATE CARRIES HAVE THE SAME NUMBER AND THE SAME FIRST EIGHT FIGURES
pub same_eight : (old new out : List Float) (a : Answer) (r s : ℕ) → CountedIn old new a r → AnsweredIn old out a s → (r ≡ s) × (take 8 new ≡ take 8 out)
same_eight old new out (Err n) r s p q = (p.number ∙ sym q.number, ap (take 8) (p.figures ∙ sym q.figures))
same_eight old new out (Ok x) r s p q = (
  p.number ∙ sym q.number,
  rw (p.figures, q.figures, eight_laid old x (ltb (length old) 8) refl)
      (first_of 8 old _ _ (ltb (length old) 8) (first_laid (eight x) (whole x.fallen ∷ []) old)),
)

-- AND WITH WHAT IT CARRIES ON REQUEST, THE SAME FIRST NINE
pub same_nine : (old new out : List Float) (c : Carried) (r s : ℕ) → CarriedIn old new (Ok c) r → CountedIn old out (Ok c.state) s
    → (r ≡ s) × (take 9 new ≡ take 9 out)
same_nine old new out c r s p q = (
  p.number ∙ sym q.number,
  rw (p.figures, q.figures) (first_of 9 old _ _ (ltb (length old) 8) (first_laid (counted c.state) (on_request c.conductivity) old)),
)

-- WHERE FEWER THAN TEN ARE LENT what is handed over is the door's answer with its count, whatever the conductivity would be
pub unasked : (E : Equation) (old new : List Float) (a : Answer) (r : ℕ) → length old < 10 → CarriedIn old new (with_conductivity E (asked old) a) r
    → CountedIn old new a r
unfolding asked
unasked E old new (Err n) r h p = record { number = p.number; figures = p.figures }
unasked E old new (Ok s) r h p =
    let q = rw (lt-leb 10 (length old) h) at p in
    record { number = q.number; figures = q.figures }

-- WHERE TEN ARE LENT it is asked for
pub ten_ask : (old : List Float) → 10 ≤ length old → asked old ≡ true
unfolding asked
ten_ask old h = le-leb 10 (length old) h

-- THE NINTH FIGURE, where it is lent, is how many terms fell away, and THE TENTH, where it is lent and asked for, the conductivity
pub ninth : (old new : List Float) (c : Carried) (r : ℕ) → CarriedIn old new (Ok c) r → 9 ≤ length old → get_or new 8 nan ≡ whole c.state.fallen
ninth old new c r p h = rw (p.figures, le-ltb (length old) 8 (omega (arith, h))) (at_laid (carried c) old 8 (omega arith) (omega (arith, h)))

pub tenth : (old new : List Float) (c : Carried) (x : Float) (r : ℕ) → c.conductivity ≡ Some x → CarriedIn old new (Ok c) r → 10 ≤ length old
    → get_or new 9 nan ≡ x
tenth old new c x r e p h =
    rw (p.figures, le-ltb (length old) 8 (omega (arith, h)), e) (at_laid (counted c.state ++ (x ∷ [])) old 9 (omega arith) (omega (arith, h)))

-- FIGURES AFTER THE TENTH STAY
at_most_ten : (s : State) (k : Conductivity) → length (counted s ++ on_request k) ≤ 10
at_most_ten s None = omega arith
at_most_ten s (Some x) = omega arith

pub after_tenth : (old new : List Float) (a : Conducted) (r : ℕ) → CarriedIn old new a r → drop 10 new ≡ drop 10 old
after_tenth old new (Err n) r p = ap (drop 10) p.figures ∙ past 10 old old (ltb (length old) 8) refl
after_tenth old new (Ok c) r p =
    ap (drop 10) p.figures ∙ past 10 old _ (ltb (length old) 8) (past_laid 10 (carried c) old (at_most_ten c.state c.conductivity))

-- AND ALL, WHERE IT IS REFUSED
either_way : (l : List Float) (b : Bool) → cond b l l ≡ l
either_way l true = refl
either_way l false = refl

pub refused_stays : (old new : List Float) (n : Refusal) (r : ℕ) → CarriedIn old new (Err n) r → new ≡ old
refused_stays old new n r p = p.figures ∙ either_way old (ltb (length old) 8)
