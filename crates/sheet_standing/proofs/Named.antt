-- A number is among those of lines exactly where one of the lines has it. Assumes nothing.
use Rattle.std.specs.Prelude.{Float, Some, None}
use mathlib.Core.Path.{◌≡◌, refl, sym, ap, ◌∙◌}
use mathlib.Core.Bool.{Bool, true, false, ◌||◌, true≢false}
use mathlib.Core.List.{List, [], ◌∷◌}
use Prim.Native.Nat.{ℕ, zero, suc, ◌<◌}
use native.Mathlib.Nat.{le_of_suc-le-suc}
use native.Mathlib.Omega.{arith}
use lib.Dec.{eqb}
use lib.ListN.{length, get_or}
use borrow.Author.Tests.{eqb-true, eq-eqb}
use Rattle.sheet_text.specs.Field.{Field}
use Rattle.sheet_line.specs.declared.line.Line.{Line}
use Rattle.sheet_standing.specs.Standing.{is_on, onto, numbers}

module _ (d : Line Float) where
  -- the line at a place, the first being 0, has the number
  pub record Named (ls : List (Line Float)) (n : ℕ) : Type 0 where
    pub place : ℕ
    pub within : place < length ls
    pub has : (get_or ls place d).number ≡ Some n

  later : {l : Line Float} {ls : List (Line Float)} {n : ℕ} → Named ls n → Named (l ∷ ls) n
  later a = record { place = suc a.place; within = omega (arith, a.within); has = a.has }

  pub named : (ls : List (Line Float)) (n : ℕ) → is_on (numbers ls) n ≡ true → Named ls n
  unfolding is_on numbers
  named [] n e = absurd (true≢false (sym e))
  named (l ∷ ls) n e = by_field l.number refl (named ls n) e
    where
      by_test : (m : ℕ) (b : Bool) → l.number ≡ Some m → eqb m n ≡ b → (is_on (numbers ls) n ≡ true → Named ls n)
          → b || is_on (numbers ls) n ≡ true → Named (l ∷ ls) n
      by_test m true p q rest e = record { place = 0; within = omega arith; has = p ∙ ap Some (eqb-true m n q) }
      by_test m false p q rest e = later (rest e)

      by_field : (f : Field) → l.number ≡ f → (is_on (numbers ls) n ≡ true → Named ls n) → is_on (onto f (numbers ls)) n ≡ true → Named (l ∷ ls) n
      by_field None p rest e = later (rest e)
      by_field (Some m) p rest e = by_test m (eqb m n) p refl rest e

  pub is_named : (ls : List (Line Float)) (n i : ℕ) → i < length ls → (get_or ls i d).number ≡ Some n → is_on (numbers ls) n ≡ true
  unfolding is_on numbers
  is_named [] n i h e = absurd (omega arith)
  is_named (l ∷ ls) n zero h e = rw (e, eq-eqb n n refl)
  is_named (l ∷ ls) n (suc i) h e = by_field l.number (is_named ls n i (le_of_suc-le-suc h) e)
    where
      either : (b : Bool) → b || true ≡ true
      either true = refl
      either false = refl

      by_field : (f : Field) → is_on (numbers ls) n ≡ true → is_on (onto f (numbers ls)) n ≡ true
      by_field None rest = rest
      by_field (Some m) rest = rw rest (either (eqb m n))
