-- Bytes written to the front of an output: one byte after the other, and more bytes into the part that starts where the former end. Assumes nothing.
use mathlib.Core.Path.{◌≡◌, refl, ap, ◌∙◌}
use mathlib.Core.Bool.{Bool, true, false, cond}
use mathlib.Core.List.{List, [], ◌∷◌, ◌++◌, append_assoc, append-nil}
use Prim.Native.Nat.{ℕ, ◌+◌, ◌-◌, ◌%◌, ◌≤◌, ◌<◌}
use native.Mathlib.Numerals.{add-one}
use native.Mathlib.Omega.{arith}
use lib.Dec.{ltb}
use lib.ListN.{length, take, drop, set, get_or, length-append, length-drop}
use lib.Seq.{drop-cons, set-append_seam, take-append_seam, drop-append_seam, drop-drop, drop-length, take-suc, take_all}
use borrow.Author.Tests.{lt-ltb, le-ltb}
use Rattle.sheet_text.specs.Decimal.{decimal}
use Rattle.sheet_text.proofs.Decimals.{decimal_small}
use Rattle.sheet_write.specs.Writing.{overlaid, Wrote, Fitted}

module _ (o bs : List ℕ) where
  overlaid_length : length bs ≤ length o → length (overlaid o bs) ≡ length o
  unfolding overlaid
  overlaid_length h = simp (length-append, length-drop) (omega arith)

  overlaid_set : (v : ℕ) → length bs < length o → set (overlaid o bs) (length bs) v ≡ overlaid o (bs ++ (v ∷ []))
  unfolding overlaid
  overlaid_set v h = rw (drop-cons o (length bs) 0 h, set-append_seam, length-append, add-one, append_assoc)

-- ---- a byte after the other

pub nothing : (o : List ℕ) → Wrote o o 0 []
unfolding overlaid
nothing o = record { count = refl; bytes = refl }

pub more : {o out : List ℕ} {k : ℕ} {bs : List ℕ} (v : ℕ) → Wrote o out k bs → k < length o → Wrote o (set out k v) (k + 1) (bs ++ (v ∷ []))
more {o} {out} {k} {bs} v w h =
    record {
      count = simp length-append (omega (arith, w.count));
      bytes = rw (w.count, w.bytes) (overlaid_set o bs v (omega (arith, w.count)));
    }

pub next_byte : {o out : List ℕ} {i : ℕ} (text : List ℕ) → Wrote o out i (take i text) → i < length text → i < length o
    → Wrote o (set out i (get_or text i 0)) (i + 1) (take (i + 1) text)
next_byte {o} {out} {i} text w h g =
    let e : take (i + 1) text ≡ take i text ++ (get_or text i 0 ∷ []) = rw (add-one, take-suc text i 0 h) in
    rw e (more (get_or text i 0) w g)

pub all_bytes : {o out : List ℕ} {i : ℕ} (text : List ℕ) → Wrote o out i (take i text) → length text ≤ i → i ≤ length text → Wrote o out (length text) text
all_bytes {o} {out} {i} text w h g =
    let e : i ≡ length text = omega arith in
    rw e at (rw (take_all i text h) at w)

-- what a loop over a text's bytes cites
pub ruleset bytes_after = (nothing, all_bytes)

pub one_digit : (o : List ℕ) (n : ℕ) → n < 10 → 0 < length o → Wrote o (set o 0 (48 + n)) 1 (decimal n)
one_digit o n h g =
    let e : n % 10 ≡ n = omega arith in
    rw (decimal_small n h, e) (more (48 + n) (nothing o) g)

-- ---- bytes that fit, and bytes that don't

pub fits : {o xs bs : List ℕ} {r : ℕ} → length bs ≤ length o → Wrote o xs r bs → Fitted o xs bs r
fits {o} {xs} {bs} h w = let e = le-ltb (length o) (length bs) h in record { number = rw e w.count; bytes = rw e w.bytes }

pub stays : {o bs : List ℕ} → length o < length bs → Fitted o o bs 0
stays {o} {bs} h = let e = lt-ltb (length o) (length bs) h in record { number = rw e refl; bytes = rw e refl }

-- either way no more than the output has
within_by : (o xs bs : List ℕ) (r : ℕ) (b : Bool) → r ≡ cond b 0 (length bs) → xs ≡ cond b o (overlaid o bs) → r ≤ length xs
unfolding overlaid
within_by o xs bs r true n e = omega (arith, n)
within_by o xs bs r false n e = rw (e, length-append) (omega (arith, n))

pub within : {o xs bs : List ℕ} {r : ℕ} → Fitted o xs bs r → r ≤ length xs
within {o} {xs} {bs} {r} f = within_by o xs bs r (ltb (length o) (length bs)) f.number f.bytes

-- ---- `&mut xs[r..]`: the part of xs that starts at r, and xs with ys in its place

abbrev pub from : ℕ → List ℕ → List ℕ
from r xs = take (length xs - r) (drop r xs)

abbrev pub back : ℕ → List ℕ → List ℕ → List ℕ
back r xs ys = take r xs ++ (ys ++ drop (length xs - r) (drop r xs))

-- ---- bs was written to the front of o, which gave xs, and the next bytes go into the part of xs that starts where bs ends

module _ {o xs : List ℕ} {r : ℕ} {bs : List ℕ} (s : Wrote o xs r bs) (h : length bs ≤ length o) where
  pub long : length xs ≡ length o
  long = ap length s.bytes ∙ overlaid_length o bs h

  pub inside : r ≤ length xs
  inside = omega (arith, long, s.count)

  after : drop r xs ≡ drop (length bs) o
  unfolding overlaid
  after = rw (s.count, s.bytes) (drop-append_seam bs (drop (length bs) o))

  size : length (drop (length bs) o) ≡ length xs - r
  size = simp length-drop (omega (arith, long, s.count))

  part : from r xs ≡ drop (length bs) o
  part = rw after (take_all (length xs - r) (drop (length bs) o) (omega (arith, size)))

  pub room : length (from r xs) ≡ length o - length bs
  room = rw (part, length-drop)

  pub then : {ys : List ℕ} {k : ℕ} {cs : List ℕ} → Wrote (from r xs) ys k cs → Wrote o (back r xs ys) (r + k) (bs ++ cs)
  unfolding overlaid
  then {ys} {k} {cs} t =
      let e₁ : take r xs ≡ bs = rw (s.count, s.bytes) (take-append_seam bs (drop (length bs) o)) in
      let e₂ : drop (length xs - r) (drop r xs) ≡ [] = rw (after, ← size) (drop-length (drop (length bs) o)) in
      record {
        count = simp length-append (omega (arith, s.count, t.count));
        bytes = rw (e₁, e₂, t.bytes, part, append-nil, drop-drop, length-append, append_assoc);
      }
