-- Reading a field and printing it undo each other, and what is read has 10 digits at most.
use Rattle.std.specs.Prelude.{Some, None}
use mathlib.Core.Path.{◌≡◌, refl, ap, subst, ◌∙◌}
use mathlib.Core.Bool.{true, false}
use mathlib.Core.List.{List, [], ◌∷◌, ◌++◌, append_assoc}
use Prim.Native.Nat.{ℕ, zero, suc, ◌+◌, ◌-◌, ◌*◌, ◌/◌, ◌%◌, ◌≤◌, ◌<◌}
use native.Mathlib.Decide.{dec_lt}
use native.Mathlib.Omega.{arith}
use lib.Dec.{eqb, leb}
use borrow.Author.Tests.{le-leb, lt-leb, ne_eqb, eqb-true, eqb-false, leb-false}
use Rattle.num_working.proofs.Cases.{by_test}
use Rattle.sheet_text.specs.Parse.{byte}
use Rattle.sheet_text.specs.Decimal.{decimal}
use Rattle.sheet_text.specs.Field.{Small, digit, field_text, field, digits_after, field_to, field_after, Field}
use Rattle.sheet_text.proofs.Decimals.{decimal_small, decimal_large}
use Rattle.sheet_text.proofs.Parses.{All, bind_all, pass_all, Says, then_says, longer_says, byte_back, byte_says}
use Rattle.sheet_text.proofs.Fields.{digit_low, digit_high, to_some}

-- ---- what is printed is read back

is_digit : (b : ℕ) → 48 ≤ b → b ≤ 57 → digit b ≡ true
is_digit b l h = rw (le-leb 48 b l, le-leb b 57 h)

one_digit : (n : ℕ) → n < 10 → (u : List ℕ) → field (decimal n ++ u) ≡ digits_after n u
unfolding field
one_digit n h u =
    let z : 48 + n % 10 - 48 ≡ n = omega arith in
    rw (decimal_small n h, ne_eqb (48 + n % 10) 45 (omega arith), is_digit (48 + n % 10) (omega arith) (omega arith), z)

more_digits : (n : ℕ) → 10 ≤ n → n < 10_000_000_000 → (u : List ℕ) → digits_after (n / 10) ((48 + n % 10) ∷ u) ≡ digits_after n u
unfolding digits_after
more_digits n h g u =
    let z : n / 10 * 10 + (48 + n % 10 - 48) ≡ n = omega arith in
    rw (is_digit (48 + n % 10) (omega arith) (omega arith), ne_eqb (n / 10) 0 (omega arith), z, lt-leb 10_000_000_000 n g)

digits_back : (k n : ℕ) → n ≤ k → n < 10_000_000_000 → (u : List ℕ) → field (decimal n ++ u) ≡ digits_after n u
digits_back zero n h g u = one_digit n (omega arith) u
digits_back (suc k) n h g u =
    elim (dec_lt n 10) [
      | yes s ↦ one_digit n s u
      | no l ↦
          rw (decimal_large n (omega arith), append_assoc)
          (digits_back k (n / 10) (omega arith) (omega arith) ((48 + n % 10) ∷ u) ∙ more_digits n (omega arith) g u)
    ]

digits_end : (n sep : ℕ) → digit sep ≡ false → (rest : List ℕ) → digits_after n (sep ∷ rest) ≡ Some (Some n, sep ∷ rest)
unfolding digits_after
digits_end n sep e rest = rw e

pub field_back : (sep : ℕ) → digit sep ≡ false → (f : Field) → Small f → (rest : List ℕ) → field (field_text f ++ (sep ∷ rest)) ≡ Some (f, sep ∷ rest)
unfolding field field_text
field_back sep e None h rest = refl
field_back sep e (Some n) h rest = digits_back n n (omega arith) h (sep ∷ rest) ∙ digits_end n sep e rest

pub to_back : (sep : ℕ) → digit sep ≡ false → (f : Field) → Small f → (rest : List ℕ) → field_to sep (field_text f ++ (sep ∷ rest)) ≡ Some (f, rest)
to_back sep e f h rest = to_some sep _ (field_back sep e f h rest) (byte_back sep rest)

pub after_back : (letter sep : ℕ) → digit sep ≡ false → (f : Field) → Small f → (rest : List ℕ)
    → field_after letter sep (letter ∷ 32 ∷ field_text f ++ (sep ∷ rest)) ≡ Some (f, rest)
unfolding field_after
after_back letter sep e f h rest =
    rw (byte_back letter (32 ∷ field_text f ++ (sep ∷ rest)), byte_back 32 (field_text f ++ (sep ∷ rest))) (to_back sep e f h rest)

-- ---- what is read is what the text has

next_digit : (v b : ℕ) → (v ≡ 0 → ⊥) → 48 ≤ b → b ≤ 57 → decimal (v * 10 + (b - 48)) ≡ decimal v ++ (b ∷ [])
next_digit v b n l h =
    let q : (v * 10 + (b - 48)) / 10 ≡ v = omega arith in
    let r : 48 + (v * 10 + (b - 48)) % 10 ≡ b = omega arith in
    decimal_large (v * 10 + (b - 48)) (omega arith) ∙ rw (q, r)

digits_say : (v : ℕ) (u : List ℕ) → Says field_text (decimal v ++ u) (digits_after v u)
unfolding digits_after field_text
digits_say v [] = refl
digits_say v (b ∷ rest) =
    let w = decimal v ++ (b ∷ rest) in
    let n = v * 10 + (b - 48) in
    by_test (Says field_text w) (digit b) _ _
    (λ d. by_test (Says field_text w) (eqb v 0) _ _ (λ _. tt)
    (λ z. by_test (Says field_text w) (leb 10_000_000_000 n) _ _ (λ _. tt)
    (λ _.
    let e : decimal n ++ rest ≡ w = rw (next_digit v b (eqb-false v 0 z) (digit_low b d) (digit_high b d), append_assoc) in
    subst (λ (u : List ℕ). Says field_text u (digits_after n rest)) e (digits_say n rest))))
    (λ _. refl)

pub field_says : (u : List ℕ) → Says field_text u (field u)
unfolding field field_text
field_says [] = tt
field_says (b ∷ rest) =
    by_test (Says field_text (b ∷ rest)) (eqb b 45) _ _ (λ e. ap (λ (x : ℕ). x ∷ rest) (eqb-true b 45 e))
    (λ _. by_test (Says field_text (b ∷ rest)) (digit b) _ _
    (λ d. let l = digit_low b d in let h = digit_high b d in
    let z : 48 + (b - 48) % 10 ≡ b = omega arith in
    let e : decimal (b - 48) ++ rest ≡ b ∷ rest = rw (decimal_small (b - 48) (omega arith), z) in
    subst (λ (w : List ℕ). Says field_text w (digits_after (b - 48) rest)) e (digits_say (b - 48) rest))
    (λ _. tt))

pub to_says : (sep : ℕ) (u : List ℕ) → Says (λ (f : Field). field_text f ++ (sep ∷ [])) u (field_to sep u)
unfolding field_to
to_says sep u =
    then_says field_text (λ (f : Field). field_text f ++ (sep ∷ [])) u u (field u) _ (field_says u)
    (λ f r e. then_says (λ (_ : Unit {0}). sep ∷ []) (λ (g : Field). field_text g ++ (sep ∷ [])) r u (byte sep r) _ (byte_says sep r)
    (λ _ r₁ e₁. e ∙ rw (e₁, append_assoc)))

pub after_says : (letter sep : ℕ) (u : List ℕ) → Says (λ (f : Field). letter ∷ 32 ∷ field_text f ++ (sep ∷ [])) u (field_after letter sep u)
unfolding field_after
after_says letter sep u =
    let pr = λ (f : Field). letter ∷ 32 ∷ field_text f ++ (sep ∷ []) in
    then_says (λ (_ : Unit {0}). letter ∷ []) pr u u (byte letter u) _ (byte_says letter u)
    (λ _ r e. then_says (λ (_ : Unit {0}). 32 ∷ []) pr r u (byte 32 r) _ (byte_says 32 r)
    (λ _ r₁ e₁. longer_says (λ (f : Field). field_text f ++ (sep ∷ [])) pr r₁ u (field_to sep r₁) (to_says sep r₁) (λ f r₂ e₂. e ∙ rw (e₁, e₂))))

-- ---- what is read has 10 digits at most

digits_small : (v : ℕ) (u : List ℕ) → v < 10_000_000_000 → All Small (digits_after v u)
unfolding digits_after
digits_small v [] h = h
digits_small v (b ∷ rest) h =
    by_test (All Small) (digit b) _ _
    (λ _. by_test (All Small) (eqb v 0) _ _ (λ _. tt)
    (λ _. by_test (All Small) (leb 10_000_000_000 (v * 10 + (b - 48))) _ _ (λ _. tt) (λ e. digits_small (v * 10 + (b - 48)) rest (leb-false _ _ e))))
    (λ _. h)

field_small : (u : List ℕ) → All Small (field u)
unfolding field
field_small [] = tt
field_small (b ∷ rest) =
    by_test (All Small) (eqb b 45) _ _ (λ _. tt)
    (λ _. by_test (All Small) (digit b) _ _ (λ e. digits_small (b - 48) rest (omega (arith, digit_high b e))) (λ _. tt))

pub to_small : (end : ℕ) (u : List ℕ) → All Small (field_to end u)
unfolding field_to
to_small end u = bind_all Small Small (field u) _ (field_small u) (λ f r h. pass_all Small (byte end r) _ (λ _ _. h))

pub after_small : (letter end : ℕ) (u : List ℕ) → All Small (field_after letter end u)
unfolding field_after
after_small letter end u = pass_all Small (byte letter u) _ (λ _ r. pass_all Small (byte 32 r) _ (λ _ r₁. to_small end r₁))
