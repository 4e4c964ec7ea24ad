-- The marks of a list of lines: how many there are, the n-th, and those of one line more. Assumes nothing.
use Rattle.std.specs.Prelude.{Float}
use mathlib.Core.Path.{◌≡◌, refl, sym, ap, subst, ◌∙◌}
use mathlib.Core.List.{List, [], ◌∷◌, ◌++◌, append_assoc, append-nil}
use Prim.Native.Nat.{ℕ, zero, suc, ◌+◌, ◌≤◌, ◌<◌}
use native.Mathlib.Nat.{le_of_suc-le-suc}
use native.Mathlib.Numerals.{add-one}
use native.Mathlib.Omega.{arith}
use lib.ListN.{length, take, get_or, set}
use lib.Seq.{take-suc, length-take-le}
use Rattle.door_limits.specs.declared.Limits.{Limits}
use Rattle.sheet_line.specs.Line.{blank_line}
use Rattle.sheet_line.specs.declared.line.Line.{Line}
use Rattle.sheet_read.proofs.Paddings.{padded_set, taken_back}
use Rattle.sheet_standing.specs.Standing.{numbers}
use Rattle.sheet_standing.proofs.Standings.{numbers_joined}
use Rattle.sheet_outcome.specs.Outcome.{marks_of, Weighed}
use Rattle.sheet_weigh.specs.Weighing.{weighed_after}
use Rattle.sheet_weigh.specs.Sheet.{marks_for, mark, marked_after, marked, Light}
use Rattle.sheet_weigh.proofs.Weights.{Under, after_under}

-- marks that the array holds are taken back
pub marks_back : (ms : List Weighed) → length ms ≤ 32 → marks_of (marks_for ms) ≡ ms
unfolding marks_for
marks_back ms h = taken_back _ 32 ms h

module _ (L : Limits) where
  after_length : (before : List ℕ) (ls : List (Line Float)) → length (marked_after L before ls) ≡ length ls
  unfolding marked_after
  after_length before [] = refl
  after_length before (l ∷ ls) = ap suc (after_length (before ++ numbers (l ∷ [])) ls)

  -- the numbers before a line, those of the first line among them
  one_before : (before : List ℕ) (l : Line Float) (ls : List (Line Float)) → (before ++ numbers (l ∷ [])) ++ numbers ls ≡ before ++ numbers (l ∷ ls)
  one_before before l ls =
      append_assoc before (numbers (l ∷ [])) (numbers ls) ∙ ap (λ (ms : List ℕ). before ++ ms) (sym (numbers_joined (l ∷ []) ls))

  after_at : (before : List ℕ) (ls : List (Line Float)) (i : ℕ) (d : Weighed) (e : Line Float) → i < length ls
      → get_or (marked_after L before ls) i d ≡ mark L (before ++ numbers (take i ls)) (get_or ls i e)
  unfolding marked_after numbers
  after_at before [] i d e h = absurd (omega arith)
  after_at before (l ∷ ls) zero d e h = rw (append-nil before)
  after_at before (l ∷ ls) (suc i) d e h =
      after_at (before ++ numbers (l ∷ [])) ls i d e (le_of_suc-le-suc h)
      ∙ ap (λ (ms : List ℕ). mark L ms (get_or ls i e)) (one_before before l (take i ls))

  after_snoc : (before : List ℕ) (ls : List (Line Float)) (l : Line Float)
      → marked_after L before (ls ++ (l ∷ [])) ≡ marked_after L before ls ++ (mark L (before ++ numbers ls) l ∷ [])
  unfolding marked_after numbers
  after_snoc before [] l = rw (append-nil before)
  after_snoc before (k ∷ ls) l =
      ap (λ (ms : List Weighed). mark L before k ∷ ms) (after_snoc (before ++ numbers (k ∷ [])) ls l
      ∙ ap (λ (ns : List ℕ). marked_after L (before ++ numbers (k ∷ [])) ls ++ (mark L ns l ∷ [])) (one_before before k ls))

  pub marked_length : (ls : List (Line Float)) → length (marked L ls) ≡ length ls
  unfolding marked
  marked_length ls = after_length [] ls

  -- the n-th, by the numbers of the lines before it
  pub marked_at : (ls : List (Line Float)) (i : ℕ) (d : Weighed) (e : Line Float) → i < length ls → get_or (marked L ls) i d ≡ mark L (numbers (take i ls)) (get_or ls i e)
  unfolding marked
  marked_at ls i d e h = after_at [] ls i d e h

  marked_snoc : (ls : List (Line Float)) (l : Line Float) → marked L (ls ++ (l ∷ [])) ≡ marked L ls ++ (mark L (numbers ls) l ∷ [])
  unfolding marked
  marked_snoc ls l = after_snoc [] ls l

  pub all_light : (ls : List (Line Float)) → Light (marked L ls)
  all_light ls i mg d h e =
      let k = marked_at ls i d blank_line (omega (arith, marked_length ls)) in
      subst Under (sym k ∙ e) (after_under L (numbers (take i ls)) (get_or ls i blank_line))

  -- ---- the marks of 32 lines at most, in the array: they are taken back, and can be added

  pub marks_of_lem : (ls : List (Line Float)) → length ls ≤ 32 → marks_of (marks_for (marked L ls)) ≡ marked L ls
  marks_of_lem ls h = marks_back (marked L ls) (omega (arith, marked_length ls))

  pub fit_to_add : (ls : List (Line Float)) → length ls ≤ 32 → ((marks_for (marked L ls)).count ≤ 32) × Light (marks_of (marks_for (marked L ls)))
  unfolding marks_for
  fit_to_add ls h = (omega (arith, marked_length ls), subst Light (sym (marks_of_lem ls h)) (all_light ls))

  -- ---- one turn of the loop that weighs the lines

  -- the array after i lines
  abbrev pub held : List (Line Float) → ℕ → List Weighed
  held ls i = (marks_for (marked L (take i ls))).marks

  pub held_more : (ls : List (Line Float)) (i : ℕ) (d : Line Float) (w : Weighed) (ms : List Weighed) → i < length ls → i < 32
      → w ≡ weighed_after L (numbers (take i ls)) (get_or ls i d) → ms ≡ held ls i → set ms i w ≡ held ls (i + 1)
  unfolding marks_for
  held_more ls i d w ms h room ew es =
      let size : length (marked L (take i ls)) ≡ i = marked_length (take i ls) ∙ length-take-le i ls (omega arith) in
      let m = mark L (numbers (take i ls)) (get_or ls i d) in
      rw (ew, es, add-one, take-suc ls i d h, marked_snoc)
      (ap (λ (k : ℕ). set (held ls i) k m) (sym size) ∙ padded_set _ 32 (marked L (take i ls)) m (omega arith))
