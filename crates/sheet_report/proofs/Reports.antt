-- The report's parts: how long each is, and the lines one after the other. Assumes nothing.
use Rattle.std.specs.Prelude.{Ok, Err}
use mathlib.Core.Path.{◌≡◌, refl, ap, ◌∙◌}
use mathlib.Core.List.{List, [], ◌++◌, append_assoc, append-nil}
use Prim.Native.Nat.{ℕ, ◌+◌, ◌≤◌, ◌<◌, min}
use native.Mathlib.Numerals.{add-one}
use native.Mathlib.Omega.{arith}
use lib.ListN.{length, take, drop, get_or, length-append, length-take, drop_of_length-le}
use lib.Seq.{drop-cons, take_all}
use Rattle.std.proofs.lemmas.Grind.{common_steps}
use Rattle.sheet_text.specs.Decimal.{decimal}
use Rattle.sheet_write.specs.Writing.{ascii, Wrote}
use Rattle.sheet_write.proofs.Writings.{nothing, from, back, long, inside, room, then}
use Rattle.sheet_outcome.specs.Outcome.{Weighed}
use Rattle.sheet_outcome.proofs.Arrays.{past_end}
use Rattle.sheet_report.specs.Report.{weighed_bytes, line_bytes, lines_bytes}

pub between_length : (front : List ℕ) (n : ℕ) (back : List ℕ) → length (front ++ decimal n ++ back) ≡ length front + (length (decimal n) + length back)
between_length front n back = simp length-append (omega arith)

pub line_length : (i : ℕ) (w : Weighed) → length (line_bytes i w) ≡ length (ascii "L " ++ decimal i ++ ascii " ") + length (weighed_bytes w)
unfolding line_bytes
line_length i w = length-append (ascii "L " ++ decimal i ++ ascii " ") (weighed_bytes w)

-- the milligrams, or the number of the refusal
abbrev pub number_of : Weighed → ℕ
number_of (Ok mg) = mg.0
number_of (Err refusal) = refusal.0

pub line_size : (i : ℕ) (w : Weighed) → length (line_bytes i w) ≡ length (decimal i) + length (decimal (number_of w)) + 6
unfolding weighed_bytes
line_size i (Ok mg) =
    let front = between_length (ascii "L ") i (ascii " ") in
    omega (arith, line_length i (Ok mg), front, between_length (ascii "M ") mg.0 (ascii "\n"))
line_size i (Err n) =
    let front = between_length (ascii "L ") i (ascii " ") in
    omega (arith, line_length i (Err n), front, between_length (ascii "R ") n.0 (ascii "\n"))

-- ---- the marks of a sheet's lines

-- the lines after the first i
abbrev pub lines_after : ℕ → List Weighed → List ℕ
lines_after i ms = lines_bytes (i + 1) (drop i ms)

-- what is read past the end
abbrev mark_at : List Weighed → ℕ → Weighed
mark_at ms i = get_or ms i past_end

module _ (ms : List Weighed) (i : ℕ) where
  pub next_line : i < length ms → lines_after i ms ≡ line_bytes (i + 1) (mark_at ms i) ++ lines_after (i + 1) ms
  unfolding lines_bytes
  next_line h = rw (drop-cons ms i past_end h, add-one i)

  pub next_length : i < length ms → length (lines_after i ms) ≡ length (line_bytes (i + 1) (mark_at ms i)) + length (lines_after (i + 1) ms)
  next_length h = simp length-append at (ap length (next_line h))

  pub no_line : length ms ≤ i → lines_after i ms ≡ []
  unfolding lines_bytes
  no_line h = rw (drop_of_length-le ms h)

  pub no_length : length ms ≤ i → length (lines_after i ms) ≡ 0
  no_length h = ap length (no_line h)

-- what the code's lengths cite
pub ruleset sizes = (length-append, between_length, line_length, line_size, next_length, no_length)

-- ---- the marks of an array of 32
pub taken : (n : ℕ) (l : List Weighed) → length l ≡ 32 → take (min n 32) l ≡ take n l
taken n l h = grind (arith, common_steps, take_all)

-- ---- the lines written one after the other: bs was written to o, which gave out, and the lines after the first i come after it
pub record Turn (o : List ℕ) (ms : List Weighed) (out : List ℕ) (at i : ℕ) : Type 0 where
  pub bs : List ℕ
  pub wrote : Wrote o out at bs
  pub rest : lines_bytes 1 ms ≡ bs ++ lines_after i ms

pub start : (o : List ℕ) (ms : List Weighed) → Turn o ms o 0 0
start o ms = record { bs = []; wrote = nothing o; rest = refl }

module _ {o : List ℕ} {ms : List Weighed} {out : List ℕ} {at i : ℕ} (t : Turn o ms out at i) (fit : length (lines_bytes 1 ms) ≤ length o) where
  whole : length t.bs + length (lines_after i ms) ≤ length o
  whole = omega (arith, simp length-append at (ap length t.rest))

  pub before : at ≤ length out
  before = inside t.wrote (omega (arith, whole))

  pub kept : length out ≡ length o
  kept = long t.wrote (omega (arith, whole))

  pub done : length ms ≤ i → Wrote o out at (lines_bytes 1 ms)
  done h = let e : lines_bytes 1 ms ≡ t.bs = t.rest ∙ rw (no_line ms i h, append-nil) in rw e t.wrote

  module _ (h : i < length ms) where
    pub fits : length (line_bytes (i + 1) (mark_at ms i)) ≤ length (from at out)
    fits = omega (arith, room t.wrote (omega (arith, whole)), whole, next_length ms i h)

    pub at_most : (ys : List ℕ) (k : ℕ) → Wrote (from at out) ys k (line_bytes (i + 1) (mark_at ms i)) → at + k ≤ length o
    at_most ys k w = omega (arith, whole, next_length ms i h, t.wrote.count, w.count)

    pub next : (ys : List ℕ) (k : ℕ) → Wrote (from at out) ys k (line_bytes (i + 1) (mark_at ms i)) → Turn o ms (back at out ys) (at + k) (i + 1)
    next ys k w =
        record {
          bs = t.bs ++ line_bytes (i + 1) (mark_at ms i);
          wrote = then t.wrote (omega (arith, whole)) w;
          rest = t.rest ∙ rw (next_line ms i h, append_assoc);
        }
