-- A loop that fills an array, place by place, with the elements of a list. Said once, over the list. Assumes nothing.
use mathlib.Core.Path.{◌≡◌, sym, ap, ◌∙◌}
use mathlib.Core.List.{List, [], ◌∷◌, ◌++◌}
use Prim.Native.Nat.{ℕ, ◌+◌, ◌<◌, ◌≤◌}
use native.Mathlib.Numerals.{add-one}
use lib.ListN.{length, get_or, set, take, length-set}
use lib.Seq.{take-suc, take-suc-set, take_all}

module _ {A : Type 0} (goal : List A) where
  pub record Filled (i : ℕ) (a : List A) : Type 0 where
    pub long : length a ≡ length goal
    pub same : take i a ≡ take i goal

  pub fill_more : (i : ℕ) (a : List A) (v z : A) → i < length goal → Filled i a → v ≡ get_or goal i z → Filled (i + 1) (set a i v)
  fill_more i a v z h f e = record {
    long = length-set a i v ∙ f.long;
    same = rw add-one (
        take-suc-set a i v (rw f.long h)
        ∙ ap (λ (t : List A). t ++ (v ∷ [])) f.same
        ∙ ap (λ (y : A). take i goal ++ (y ∷ [])) e
        ∙ sym (take-suc goal i z h));
  }

  pub fill_all : (i : ℕ) (a : List A) → length goal ≤ i → Filled i a → a ≡ goal
  fill_all i a h f = sym (take_all i a (rw f.long h)) ∙ f.same ∙ take_all i goal h
