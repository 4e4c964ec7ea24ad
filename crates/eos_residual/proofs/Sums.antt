-- Sums row by row: what a loop's turn adds, in plain f64 that is tested at the end, and how kinds of rows follow one another. Assumes nothing.
use Rattle.std.specs.Prelude.{None}
use mathlib.Core.Path.{◌≡◌, refl, sym, ap, ◌∙◌}
use mathlib.Core.Bool.{Bool, not}
use mathlib.Core.List.{List, [], ◌∷◌, ◌++◌}
use Prim.Native.Nat.{ℕ, zero, suc, ◌+◌, ◌<◌, ◌≤◌}
use native.Mathlib.Nat.{not-suc-le-zero, le_of_suc-le-suc}
use native.Mathlib.Numerals.{add-one}
use native.Mathlib.Omega.{arith}
use lib.Dec.{T, eqb}
use lib.ListN.{length, get_or, drop, drop_of_length-le}
use lib.Seq.{drop-cons}
use lib.Ieee.{Float, binary64, add, mul}
use Rattle.num_working.specs.Working.{checked, ◌+ᵂ◌, Worked}
use Rattle.num_working.proofs.Workings.{checked_add}
use Rattle.eos_terms.specs.Term.{numbered}
use Rattle.eos_brackets.specs.Derivative.{Derivative, of, times, grown, asked}
use Rattle.eos_brackets.specs.declared.Five.{Five}
use Rattle.eos_brackets.proofs.Derivatives.{of_five, of_grown}
use Rattle.eos_residual.specs.Sum.{onto, total, Meet}

-- ---- one kind of rows after another
pub onto_append : (w : Worked) (us vs : List Worked) → onto w (us ++ vs) ≡ onto (onto w us) vs
unfolding onto
onto_append w [] vs = refl
onto_append w (u ∷ us) vs = onto_append (w +ᵂ u) us vs

pub total_append : (us vs : List Worked) → 0 < length us → total (us ++ vs) ≡ onto (total us) vs
unfolding total
total_append [] vs h = absurd (not-suc-le-zero h)
total_append (u ∷ us) vs h = onto_append u us vs

-- ---- a loop: what is left to add from place i on, onto the sum so far, gives the goal
module _ (fs : List Worked) (goal : Worked) where
  abbrev pub Due : ℕ → Float → Type 0
  Due i s = onto (checked s) (drop i fs) ≡ goal

  pub due_more : (i : ℕ) (s v : Float) → i < length fs → checked v ≡ get_or fs i None → Due i s → Due (i + 1) (add binary64 s v)
  unfolding onto
  due_more i s v h e d =
      rw (add-one, checked_add s v, e)
      (sym (ap (λ (t : List Worked). onto (checked s) t) (drop-cons fs i None h)) ∙ d)

  pub due_none : (i : ℕ) (s : Float) → length fs ≤ i → Due i s → checked s ≡ goal
  unfolding onto
  due_none i s h d = sym (ap (λ (t : List Worked). onto (checked s) t) (drop_of_length-le fs h)) ∙ d

pub due_first : (fs : List Worked) (s : Float) → 0 < length fs → checked s ≡ get_or fs 0 None → Due fs (total fs) 1 s
unfolding total onto
due_first [] s h e = absurd (not-suc-le-zero h)
due_first (f ∷ fs) s h e = rw e refl

-- ---- numbered rows
pub length_numbered : {A B : Type 0} (f : ℕ → A → B) (j : ℕ) (rs : List A) → length (numbered f j rs) ≡ length rs
length_numbered f j [] = refl
length_numbered f j (r ∷ rs) = ap suc (length_numbered f (suc j) rs)

pub get_d_numbered : {A B : Type 0} (f : ℕ → A → B) (j : ℕ) (rs : List A) (i : ℕ) (d : A) (e : B) → i < length rs
    → get_or (numbered f j rs) i e ≡ f (j + i) (get_or rs i d)
get_d_numbered f j [] i d e h = absurd (not-suc-le-zero h)
get_d_numbered f j (r ∷ rs) zero d e h = let p : j ≡ j + 0 = omega arith in ap (λ (n : ℕ). f n r) p
get_d_numbered f j (r ∷ rs) (suc i) d e h =
    let p : suc j + i ≡ j + suc i = omega arith in
    get_d_numbered f (suc j) rs i d e (le_of_suc-le-suc h) ∙ ap (λ (n : ℕ). f n (get_or rs i d)) p

-- ---- the same for each sum that is asked for
-- a const parameter that is a truth value, by the number that stands for it
abbrev pub flag : ℕ → Bool
flag n = not (eqb n 0)

-- what a row's term and brackets have to be
abbrev pub At : (Derivative → List Worked) → ℕ → Float → (Derivative → Float) → Type 0
At figures i term bracket = (k : Derivative) → (i < length (figures k)) × (checked (mul binary64 term (bracket k)) ≡ get_or (figures k) i None)

module _ (all : Bool) (figures : Derivative → List Worked) where
  abbrev pub Dues : (Derivative → Worked) → ℕ → Five → Type 0
  Dues goal i s = (k : Derivative) → T (asked all k) → Due (figures k) (goal k) i (of s k)

  pub dues_more : (goal : Derivative → Worked) (i : ℕ) (s v : Five) (term : Float) (bracket : Derivative → Float)
      → v ≡ grown all s term bracket → At figures i term bracket → Dues goal i s → Dues goal (i + 1) v
  dues_more goal i s v term bracket e h d k t =
      rw (e, of_grown all s term bracket k t)
      (due_more (figures k) (goal k) i (of s k) (mul binary64 term (bracket k)) (h k).0 (h k).1 (d k t))

  pub dues_none : (goal : Derivative → Worked) (i : ℕ) (s : Five) {n : ℕ} → Dues goal i s
      → ((k : Derivative) → length (figures k) ≡ n) → n ≤ i → Meet all s goal
  dues_none goal i s d h l k t = due_none (figures k) (goal k) i (of s k) (rw (h k) l) (d k t)

  pub dues_first : (v : Five) (term : Float) (bracket : Derivative → Float) → v ≡ times term bracket
      → At figures 0 term bracket → Dues (λ k. total (figures k)) 1 v
  dues_first v term bracket e h k t =
      rw (e, of_five (λ j. mul binary64 term (bracket j)) k)
      (due_first (figures k) (mul binary64 term (bracket k)) (h k).0 (h k).1)
