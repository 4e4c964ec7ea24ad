-- Digits written from the back: those that are written stand behind a place, and before it there is room for the others. Assumes nothing.
use mathlib.Core.Path.{◌≡◌, refl, ap, ◌∙◌}
use mathlib.Core.List.{List, [], ◌∷◌, ◌++◌, append_assoc, append-nil}
use Prim.Native.Nat.{ℕ, suc, ◌+◌, ◌-◌, ◌/◌, ◌%◌, ◌≤◌, ◌<◌}
use native.Mathlib.Nat.{zero-add}
use native.Mathlib.Omega.{arith}
use lib.ListN.{length, set, length-append}
use lib.Seq.{sets, sets-eq, set_comm}
use Rattle.sheet_text.specs.Decimal.{decimal}
use Rattle.sheet_text.proofs.Decimals.{decimal_small, decimal_pair, decimal_pairs, length_small, length_pair, length_pairs}
use Rattle.sheet_write.specs.Writing.{Wrote, overlaid}

-- a byte before those that are written
set_before : (vs l : List ℕ) (i j v : ℕ) → j < i → set (sets l i vs) j v ≡ sets (set l j v) i vs
set_before [] l i j v h = refl
set_before (a ∷ vs) l i j v h =
    set_before vs (set l i a) (suc i) j v (omega arith) ∙ ap (λ (x : List ℕ). sets x (suc i) vs) (set_comm l i j a v (λ e. omega (arith, e)))

pair_before : (vs l : List ℕ) (i a b : ℕ) → set (set (sets l (suc (suc i)) vs) (suc i) b) i a ≡ sets l i (a ∷ b ∷ vs)
pair_before vs l i a b =
    ap (λ (x : List ℕ). set x i a) (set_before vs l (suc (suc i)) (suc i) b (omega arith)) ∙ set_before (b ∷ vs) l (suc i) i a (omega arith)

-- of the digits of n those of left are still to be written; o has become xs
pub record Behind (o : List ℕ) (n : ℕ) (xs : List ℕ) (at left : ℕ) : Type 0 where
  pub digits : List ℕ
  pub split : decimal n ≡ decimal left ++ digits
  pub place : at ≡ length (decimal left)
  pub bytes : xs ≡ sets o at digits

pub none_yet : (o : List ℕ) (n at : ℕ) → at ≡ length (decimal n) → Behind o n o at n
none_yet o n at e = record { digits = []; split = rw append-nil; place = e; bytes = refl }

pub at_most : {o xs : List ℕ} {n at left : ℕ} → Behind o n xs at left → at ≤ length (decimal n)
at_most b = rw (b.split, length-append) (omega (arith, b.place))

-- how many digits are left, and where
pub ruleset sizes = (length_small, length_pair, length_pairs, at_most)

-- the last two digits of those that are left
pub two_more : {o xs : List ℕ} {n at left : ℕ} → Behind o n xs at left → 100 ≤ left
    → Behind o n (set (set xs (at - 2 + 1) (48 + left % 100 % 10)) (at - 2) (48 + left % 100 / 10)) (at - 2) (left / 100)
two_more {o} {xs} {n} {at} {left} b h =
    let l = length_pairs left h in
    let e : at ≡ suc (suc (at - 2)) = omega (arith, l, b.place) in
    let f : at - 2 + 1 ≡ suc (at - 2) = omega arith in
    record {
      digits = (48 + left % 100 / 10) ∷ (48 + left % 100 % 10) ∷ b.digits;
      split = b.split ∙ rw (decimal_pairs left h, append_assoc);
      place = omega (arith, l, b.place);
      bytes = rw (f, b.bytes ∙ ap (λ (k : ℕ). sets o k b.digits) e) (pair_before b.digits o (at - 2) _ _);
    }

-- all of them, from place 0 on
whole : (o : List ℕ) (n : ℕ) (bs : List ℕ) → decimal n ≡ bs → length (decimal n) ≤ length o → Wrote o (sets o 0 bs) (length (decimal n)) (decimal n)
unfolding overlaid
whole o n bs e h =
    let f : 0 + length bs ≤ length o = rw (zero-add, ← e) h in
    rw (e, sets-eq bs o 0 f, zero-add) (record { count = refl; bytes = refl })

-- the first alone, or the first two
pub first : {o xs : List ℕ} {n at left : ℕ} → Behind o n xs at left → left < 10 → length (decimal n) ≤ length o
    → Wrote o (set xs 0 (48 + left)) (length (decimal n)) (decimal n)
first {o} {xs} {n} {at} {left} b h g =
    let e : left % 10 ≡ left = omega arith in
    let p : at ≡ 1 = b.place ∙ length_small left h in
    rw (b.bytes ∙ ap (λ (k : ℕ). sets o k b.digits) p, set_before b.digits o 1 0 (48 + left) (omega arith))
    (whole o n ((48 + left) ∷ b.digits) (b.split ∙ rw (decimal_small left h, e)) g)

pub first_two : {o xs : List ℕ} {n at left : ℕ} → Behind o n xs at left → 10 ≤ left → left < 100 → length (decimal n) ≤ length o
    → Wrote o (set (set xs 1 (48 + left % 10)) 0 (48 + left / 10)) (length (decimal n)) (decimal n)
first_two {o} {xs} {n} {at} {left} b h k g =
    let p : at ≡ 2 = b.place ∙ length_pair left h k in
    rw (b.bytes ∙ ap (λ (i : ℕ). sets o i b.digits) p, pair_before b.digits o 0 (48 + left / 10) (48 + left % 10))
    (whole o n ((48 + left / 10) ∷ (48 + left % 10) ∷ b.digits) (b.split ∙ rw (decimal_pair left h k)) g)
