-- Numbers set one after the other, and what a caller is handed, by what the door or saturation comes to. Assumes nothing.
use Rattle.std.specs.Prelude.{Some, Ok}
use mathlib.Core.Path.{◌≡◌, refl, sym, ap, ◌∙◌}
use mathlib.Core.Bool.{Bool, true, false, cond}
use mathlib.Core.List.{List, [], ◌∷◌, ◌++◌}
use Prim.Native.Nat.{ℕ, ◌≤◌}
use native.Mathlib.Omega.{arith}
use lib.Dec.{ltb}
use lib.ListN.{length, drop, set}
use lib.Seq.{take_all, take-nil, set_out}
use lib.Ieee.{Float}
use borrow.Author.Tests.{ltb-true, ltb-false}
use Rattle.num_working.specs.Number.{whole}
use Rattle.eos_state.specs.State.{eight}
use Rattle.eos_state.specs.declared.State.{State}
use Rattle.door_answers.specs.Answer.{Answer}
use Rattle.door_conductivity.specs.declared.Carried.{Carried}
use Rattle.interface_figures.specs.Figures.{with_eight, AnsweredIn, laid_over, counted, CarriedIn, CountedIn}

-- ---- all that a state carries

-- a number set behind those that are laid over the figures is laid over them too, or there is no room for it
one_more : (xs l : List Float) (y : Float) → set (laid_over xs l) (length xs) y ≡ laid_over (xs ++ (y ∷ [])) l
unfolding laid_over
one_more [] [] y = refl
one_more [] (z ∷ l) y = ap (λ (r : List Float). y ∷ (r ++ l)) (sym (take-nil (length l)))
one_more (x ∷ xs) [] y = refl
one_more (x ∷ xs) (z ∷ l) y = ap (λ (r : List Float). x ∷ r) (one_more xs l y)

-- behind eight or more that were handed over, which are none where fewer than eight are lent
behind : (xs l : List Float) (y : Float) (b : Bool) → 8 ≤ length xs → ltb (length l) 8 ≡ b
    → set (cond b l (laid_over xs l)) (length xs) y ≡ cond b l (laid_over (xs ++ (y ∷ [])) l)
behind xs l y true h e = set_out l (length xs) y (omega (arith, ltb-true (length l) 8 e))
behind xs l y false h e = one_more xs l y

-- the eight numbers, where they are lent, are laid over the figures
pub eight_laid : (l : List Float) (s : State) (b : Bool) → ltb (length l) 8 ≡ b → cond b l (with_eight s l) ≡ cond b l (laid_over (eight s) l)
unfolding with_eight laid_over
eight_laid l s true e = refl
eight_laid l s false e = ap (λ (r : List Float). r ++ drop 8 l) (sym (take_all (length l) (eight s) (ltb-false (length l) 8 e)))

-- a door that was answered or refused, handed over by its eight numbers before
pub state_counted : (old mid new : List Float) (a : Answer) (s : State) (r : ℕ) → a ≡ Ok s → AnsweredIn old mid (Ok s) r
    → new ≡ set mid 8 (whole s.fallen) → CountedIn old new a r
state_counted old mid new a s r e p f =
    rw e (record {
      number = p.number;
      figures = f ∙ rw (p.figures, eight_laid old s (ltb (length old) 8) refl) (behind (eight s) old (whole s.fallen) (ltb (length old) 8) (omega arith) refl);
    })

-- and what it carries on request, handed over with the count before
pub asked_in : (old mid new : List Float) (c : Carried) (x : Float) (r : ℕ) → c.conductivity ≡ Some x → CountedIn old mid (Ok c.state) r
    → new ≡ set mid 9 x → CarriedIn old new (Ok c) r
asked_in old mid new c x r e p f =
    record { number = p.number; figures = f ∙ rw (p.figures, e) (behind (counted c.state) old x (ltb (length old) 8) (omega arith) refl) }
