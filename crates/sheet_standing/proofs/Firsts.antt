-- RULES 14.3: the first line that has a number, and that it is the one that is named. Assumes nothing.
use Rattle.refusal.specs.Refused.{refused}
use Rattle.std.specs.Prelude.{Float, Option, Some, None, Ok, Err}
use mathlib.Core.Path.{◌≡◌, refl, sym, ap, ◌∙◌}
use mathlib.Core.Bool.{Bool, true, false, cond, ◌||◌, false≢true, or-false}
use mathlib.Core.List.{List, [], ◌∷◌}
use Prim.Native.Nat.{ℕ, zero, suc, ◌+◌, ◌-◌, ◌≤◌, ◌<◌}
use native.Mathlib.Omega.{arith}
use lib.ListN.{length, take, get_or}
use borrow.Author.Tests.{eqb-true}
use Rattle.std.specs.List.{position, position_from}
use Rattle.std.proofs.lemmas.Iterator.Adapters.{position_from-zero}
use Rattle.door_checks.specs.Check.{Check}
use Rattle.sheet_text.specs.Field.{Field}
use Rattle.sheet_line.specs.declared.line.Line.{Line}
use Rattle.sheet_standing.specs.Standing.{if_numbered, lacking, is_on, onto, numbers, standing, first_with}

-- ---- as it is looked for, the first of all being 0

-- its place from 1; 0 where there is none
abbrev from_one : Option ℕ → ℕ
from_one None = 0
from_one (Some i) = i + 1

by_first : (b : Bool) (i k : ℕ) (o : Option ℕ) → k ≡ from_one o → cond b (i + 1) k ≡ from_one (cond b (Some i) o)
by_first true i k o e = refl
by_first false i k o e = e

module _ (n : ℕ) where
  abbrev has : Line Float → Bool
  has l = is_on (numbers (l ∷ [])) n

  from_place : (i : ℕ) (ls : List (Line Float)) → first_with (i + 1) ls n ≡ from_one (position_from has i ls)
  unfolding first_with
  from_place i [] = refl
  from_place i (l ∷ ls) = by_first (has l) i _ _ (from_place (i + 1) ls)

  at_place : (ls : List (Line Float)) → first_with 1 ls n ≡ from_one (position has ls)
  at_place ls = from_place 0 ls ∙ ap from_one (sym (position_from-zero has ls))

  module _ (ls : List (Line Float)) where
    pub first_none : position has ls ≡ None → 0 ≡ first_with 1 ls n
    first_none e = sym (at_place ls ∙ ap from_one e)

    pub first_some : (i : ℕ) → position has ls ≡ Some i → i + 1 ≡ first_with 1 ls n
    first_some i e = sym (at_place ls ∙ ap from_one e)

-- ---- the line that it names

-- by its place j from 0: it is before the i-th, it has the number, and no line before it does
record Is (ls : List (Line Float)) (i n j : ℕ) : Type 0 where
  before : j < i
  listed : j < length ls
  number : (d : Line Float) → (get_or ls j d).number ≡ Some n
  none_before : is_on (numbers (take j ls)) n ≡ false

its_number : (l : Line Float) (n : ℕ) → is_on (numbers (l ∷ [])) n ≡ true → l.number ≡ Some n
unfolding is_on numbers
its_number l n = go l.number
  where
    go : (f : Field) → is_on (onto f []) n ≡ true → f ≡ Some n
    go None e = absurd (false≢true e)
    go (Some m) e = ap Some (eqb-true m n (sym (or-false _) ∙ e))

in_front : (l : Line Float) (ls : List (Line Float)) (n : ℕ) → is_on (numbers (l ∷ ls)) n ≡ (is_on (numbers (l ∷ [])) n || is_on (numbers ls) n)
unfolding is_on numbers
in_front l ls n = go l.number
  where
    go : (f : Field) → is_on (onto f (numbers ls)) n ≡ (is_on (onto f []) n || is_on (numbers ls) n)
    go None = refl
    go (Some m) = rw (or-false) refl

module _ (l : Line Float) (ls : List (Line Float)) (i n : ℕ) where
  here : is_on (numbers (l ∷ [])) n ≡ true → Is (l ∷ ls) (suc i) n 0
  unfolding numbers is_on
  here on = record { before = omega arith; listed = omega arith; number = λ d. its_number l n on; none_before = refl }

  further : (j : ℕ) → is_on (numbers (l ∷ [])) n ≡ false → Is ls i n j → Is (l ∷ ls) (suc i) n (suc j)
  further j off is =
      record {
        before = omega (arith, is.before);
        listed = omega (arith, is.listed);
        number = is.number;
        none_before = in_front l (take j ls) n ∙ rw (off) is.none_before;
      }

abbrev Named : List (Line Float) → ℕ → ℕ → ℕ → Type 0
Named ls i n k = (j : ℕ) × (first_with k ls n ≡ k + j) × Is ls i n j

by_line : (l : Line Float) (ls : List (Line Float)) (i n k : ℕ) (b : Bool) → is_on (numbers (l ∷ [])) n ≡ b
    → (is_on (numbers (take i ls)) n ≡ true → Named ls i n (k + 1)) → is_on (numbers (l ∷ take i ls)) n ≡ true → Named (l ∷ ls) (suc i) n k
unfolding first_with
by_line l ls i n k true on rest e = (0, rw (on) (omega arith), here l ls i n on)
by_line l ls i n k false off rest e =
    let r = rest (rw (in_front l (take i ls) n, off) at e) in
    (suc r.0, rw (off) (r.1 ∙ omega arith), further l ls i n r.0 off r.2)

named : (ls : List (Line Float)) (i n k : ℕ) → is_on (numbers (take i ls)) n ≡ true → Named ls i n k
unfolding numbers is_on
named [] zero n k e = absurd (false≢true e)
named [] (suc i) n k e = absurd (false≢true e)
named (l ∷ ls) zero n k e = absurd (false≢true e)
named (l ∷ ls) (suc i) n k e = by_line l ls i n k _ refl (named ls i n (k + 1)) e

-- THE LINE THAT IS NAMED, by its place j from 1: no later than the i-th, it has the number, and no line before it does
pub record First (ls : List (Line Float)) (i n j : ℕ) : Type 0 where
  pub from_one : 1 ≤ j
  pub before : j ≤ i
  pub listed : j ≤ length ls
  pub number : (d : Line Float) → (get_or ls (j - 1) d).number ≡ Some n
  pub none_before : is_on (numbers (take (j - 1) ls)) n ≡ false

-- where a line before the i-th has the number
pub first : (ls : List (Line Float)) (i n : ℕ) → is_on (numbers (take i ls)) n ≡ true → First ls i n (first_with 1 ls n)
first ls i n e =
    let r = named ls i n 1 e in
    let is = r.2 in
    let back : first_with 1 ls n - 1 ≡ r.0 = omega (arith, r.1) in
    record {
      from_one = omega (arith, r.1);
      before = omega (arith, r.1, is.before);
      listed = omega (arith, r.1, is.listed);
      number = λ d. rw (back) (is.number d);
      none_before = rw (back) is.none_before;
    }

-- so where a line after them is refused by 30
pub first_of_again : (ls : List (Line Float)) (i : ℕ) (l : Line Float) → standing (numbers (take i ls)) l ≡ refused 30
    → (n : ℕ) × (l.number ≡ Some n) × First ls i n (first_with 1 ls n)
unfolding standing
first_of_again ls i l = by_number l.number
  where
    number : Check → ℕ
    number (Ok u) = 0
    number (Err r) = r.0

    no : {A : Type 0} {m : ℕ} → ◌≡◌ {A = Check} (refused m) (refused 30) → (m ≡ 30 → ⊥) → A
    no e h = absurd (h (ap number e))

    told : (a b : Bool) → ◌≡◌ {A = Check} (cond a (refused 1) (cond b (refused 30) (Ok tt))) (refused 30) → b ≡ true
    told true b e = no e (λ h. omega (arith, h))
    told false true e = refl
    told false false e = cc

    by_number : (f : Field) → if_numbered f (λ n. cond (lacking l) (refused 1) (cond (is_on (numbers (take i ls)) n) (refused 30) (Ok tt))) ≡ refused 30
        → (n : ℕ) × (f ≡ Some n) × First ls i n (first_with 1 ls n)
    by_number None e = no e (λ h. omega (arith, h))
    by_number (Some n) e = (n, refl, first ls i n (told (lacking l) (is_on (numbers (take i ls)) n) e))
