-- Whether a number is among others, one after the other; and the numbers of lines that are joined. Assumes nothing.
use Rattle.std.specs.Prelude.{Float, Some, None}
use mathlib.Core.Path.{◌≡◌, refl, sym, ap, ◌∙◌}
use mathlib.Core.Bool.{Bool, ◌||◌}
use mathlib.Core.List.{List, [], ◌∷◌, ◌++◌}
use Prim.Native.Nat.{ℕ, suc, ◌≤◌}
use native.Mathlib.Omega.{arith}
use lib.ListN.{length}
use Rattle.std.specs.List.{list_any}
use lib.Dec.{eqb}
use Rattle.sheet_text.specs.Field.{Field}
use Rattle.sheet_line.specs.declared.line.Line.{Line}
use Rattle.sheet_standing.specs.Standing.{is_on, onto, numbers}

-- ---- as a slice finds it

pub any_on : (ms : List ℕ) (n : ℕ) → list_any (λ m. eqb m n) ms ≡ is_on ms n
unfolding is_on
any_on [] n = refl
any_on (m ∷ ms) n = ap (λ (b : Bool). eqb m n || b) (any_on ms n)

-- ---- the numbers of lines

pub numbers_joined : (ls ms : List (Line Float)) → numbers (ls ++ ms) ≡ numbers ls ++ numbers ms
unfolding numbers
numbers_joined [] ms = refl
numbers_joined (l ∷ ls) ms = ap (onto l.number) (numbers_joined ls ms) ∙ sym (go l.number)
  where
    go : (f : Field) → onto f (numbers ls) ++ numbers ms ≡ onto f (numbers ls ++ numbers ms)
    go None = refl
    go (Some n) = refl

-- no more than there are lines
pub numbers_most : (ls : List (Line Float)) → length (numbers ls) ≤ length ls
unfolding numbers
numbers_most [] = omega arith
numbers_most (l ∷ ls) = go l.number (numbers_most ls)
  where
    go : (f : Field) → length (numbers ls) ≤ length ls → length (onto f (numbers ls)) ≤ suc (length ls)
    go None h = omega arith
    go (Some n) h = omega arith
