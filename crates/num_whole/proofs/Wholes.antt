-- In reach of whole numbers an x has a size, the truncation is its cut, and the cut is at most x and one more is not. Assumes nothing.
use Rattle.std.specs.Prelude.{Some, None}
use Rattle.std.proofs.Common.{◌≡◌, ℕ, ◌+◌, ◌*◌, ◌/◌, ◌^◌, ◌<◌, ◌≤◌, Bool, true, false, cond, not, ◌&&◌, ◌||◌, T, eqb, ltb, ℤ, pos, sym, refl, ap, ◌∙◌, subst, inl, inr, true≢false, le_trans, le_of_eq, le_of_lt, lt_irrefl, div-lt_iff_lt-mul, eq-zero-or-pos, mul-pos, lt_of_not-le, le-div_iff_mul-le, zero-mul, mul-one, mul_right_comm, le_of_mul-le-mul_right, arith, eqb→eq, ltb→lt, lt→ltb}
use native.Mathlib.Nat.{zero-div}
use lib.Ieee.{Float, nan, inf, fin, binary64, up, down, lt, le, of_int, of_bits, to_unsigned}
use lib.Ieee.Back.{round_whole}
use lib.Ieee.Bits.{is_true, is_false}
use lib.Ieee.Exact.{HasValue}
use lib.Ieee.Fits.{down_pos, and_l, and_r}
use lib.Ieee.Order.{le_of_values}
use lib.Ieee.Positive.{num, den, den_pos}
use lib.Ieee.Scale.{finite}
use Rattle.num_working.specs.Number.{whole}
use Rattle.num_working.proofs.Cases.{by_test}
use Rattle.num_whole.specs.Whole.{cut, whole_below, Below}

-- up to 2⁵³ a whole number's value is itself
whole_value : (n : ℕ) → n ≤ 2 ^ 53 → HasValue (whole n) false n 1
unfolding whole of_int
whole_value n h = round_whole binary64 false n h

-- ---- w, whose value is n, and x

lt_or_eq : (a b : ℕ) → T (ltb a b || (eqb a b && true)) → a ≤ b
lt_or_eq a b t = go (ltb a b) (eqb a b) (ltb→lt a b) (eqb→eq a b) t
  where
    go : (x y : Bool) → (T x → a < b) → (T y → a ≡ b) → T (x || (y && true)) → a ≤ b
    go true y f g h = le_of_lt (f tt)
    go false true f g h = le_of_eq (g tt)
    go false false f g h = absurd h

none_left : (n k : ℕ) → 0 < k → n * k ≡ 0 → n ≡ 0
none_left n k p e = elim (eq-zero-or-pos n) [ inl z ↦ z | inr h ↦ absurd (lt_irrefl 0 (subst (λ (y : ℕ). 0 < y) e (mul-pos h p))) ]

at_most : (w x : Float) (n : ℕ) → HasValue w false n 1 → T (finite x) → T (le w x) → n * den x ≤ num x
unfolding le
at_most nan x n v f t = absurd v
at_most (inf s) x n v f t = absurd v
at_most (fin true m e) x n v f t = absurd (true≢false v.0)
at_most (fin false m e) nan n v f t = absurd f
at_most (fin false m e) (inf s) n v f t = absurd f
at_most (fin false m e) (fin false k d) n v f t =
    let h : m * up e * down d ≤ k * up d * down e = lt_or_eq (m * up e * down d) (k * up d * down e) t in
    let g : n * down d * down e ≡ m * up e * down d = mul_right_comm n (down d) (down e) ∙ ap (λ (y : ℕ). y * down d) (sym v.1 ∙ mul-one (m * up e)) in
    le_of_mul-le-mul_right (le_trans (le_of_eq g) h) (down_pos e)
at_most (fin false m e) (fin true k d) n v f t =
    let a = m * up e * down d in
    let z : m * up e * down d ≡ 0 = eqb→eq a 0 (and_r (eqb a (k * up d * down e)) (eqb a 0) t) in
    let y : m * up e ≡ 0 = none_left (m * up e) (down d) (down_pos d) z in
    let q : n ≡ 0 = none_left n (down e) (down_pos e) (sym v.1 ∙ mul-one (m * up e) ∙ y) in
    subst (λ (i : ℕ). i * down d ≤ k * up d) (sym q) (omega arith)

zero_level : (a b : ℕ) → a ≡ 0 → b ≡ 0 → T (eqb a b && eqb a 0)
zero_level a b p q = subst (λ (x : ℕ). T (eqb x b && eqb x 0)) (sym p) (subst (λ (x : ℕ). T (eqb 0 x && eqb 0 0)) (sym q) tt)

-- what has a minus sign and is not below 0 is −0
nothing : (m : ℕ) (e : ℤ) → T (le (fin false 0 (pos 0)) (fin true m e)) → m * up e ≡ 0
unfolding le
nothing m e z =
    let a = 0 * down e in
    let b = m * up e * 1 in
    sym (mul-one (m * up e)) ∙ sym (eqb→eq a b (and_l (eqb a b) (eqb a 0) z)) ∙ zero-mul (down e)

-- where 0 is at most x, so that x is not negative
reaches : (w x : Float) (n : ℕ) → T (le (fin false 0 (pos 0)) x) → HasValue w false n 1 → T (finite x) → n * den x ≤ num x → T (le w x)
unfolding le
reaches nan x n z v f h = absurd v
reaches (inf s) x n z v f h = absurd v
reaches (fin true m e) x n z v f h = absurd (true≢false v.0)
reaches (fin false m e) nan n z v f h = absurd f
reaches (fin false m e) (inf s) n z v f h = absurd f
reaches (fin false m e) (fin false k d) n z v f h =
    le_of_values (fin false m e) (fin false k d) n 1 (k * up d) (down d) (omega arith) (down_pos d) v (refl, refl)
    (le_trans h (le_of_eq (sym (mul-one (k * up d)))))
reaches (fin false m e) (fin true k d) n z v f h =
    let b : k * up d ≡ 0 = nothing k d z in
    let q : n ≡ 0 = none_left n (down d) (down_pos d) (omega (arith, h, b)) in
    let a : m * up e ≡ 0 = sym (mul-one (m * up e)) ∙ v.1 ∙ ap (λ (i : ℕ). i * down e) q ∙ zero-mul (down e) in
    zero_level (m * up e * down d) (k * up d * down e) (ap (λ (i : ℕ). i * down d) a ∙ zero-mul (down d)) (ap (λ (i : ℕ). i * down e) b ∙ zero-mul (down e))

zero_is : whole 0 ≡ fin false 0 (pos 0)
unfolding whole of_int
zero_is = refl

-- ---- the cut

-- below 2⁵³ and not below 0
in_reach : (x : Float) → le (whole 0) x ≡ true → le (whole (2 ^ 53)) x ≡ false → T (finite x)
unfolding le whole of_int
in_reach nan p q = true≢false (sym p)
in_reach (inf false) p q = true≢false q
in_reach (inf true) p q = true≢false (sym p)
in_reach (fin s m e) p q = tt

-- not below 0
not_below : (x : Float) → le (whole 0) x ≡ true → T (le (fin false 0 (pos 0)) x)
not_below x z = subst (λ (b : Bool). T b) (sym z ∙ ap (λ (w : Float). le w x) zero_is) tt

-- and its size is below 2⁵³ too
top : (x : Float) → le (whole 0) x ≡ true → le (whole (2 ^ 53)) x ≡ false → num x < 2 ^ 53 * den x
top x z t = lt_of_not-le (λ (k : 2 ^ 53 * den x ≤ num x).
    subst (λ (c : Bool). T c) t
    (reaches (whole (2 ^ 53)) x (2 ^ 53) (not_below x z) (whole_value (2 ^ 53) (omega arith)) (in_reach x z t) k))

pub below_zero : (x : Float) → le (whole 0) x ≡ false → None ≡ whole_below x
unfolding whole_below
below_zero x e = rw e refl

pub past_the_top : (x : Float) → le (whole (2 ^ 53)) x ≡ true → None ≡ whole_below x
unfolding whole_below
past_the_top x e = rw e (by_test (λ (b : Below). None ≡ b) (le (whole 0) x) None None (λ _. refl) (λ _. refl))

abbrev found : Below → Bool
found None = false
found (Some n) = true

abbrev number : Below → ℕ
number None = 0
number (Some n) = n

-- where x is in reach, its cut is at or below it and below 2⁵³
cut_reached : (x : Float) → le (whole 0) x ≡ true → le (whole (2 ^ 53)) x ≡ false
    → (le (whole (cut x)) x ≡ true) × (le (whole (cut x + 1)) x ≡ false) × (cut x < 2 ^ 53)
cut_reached x z t =
    let f = in_reach x z t in
    let n = cut x in
    let s : cut x < 2 ^ 53 = (div-lt_iff_lt-mul (den_pos x)).1 (top x z t) in
    let a : cut x * den x ≤ num x = (le-div_iff_mul-le (den_pos x)).0 (omega arith) in (
      is_true _ (reaches (whole n) x n (not_below x z) (whole_value n (omega arith)) f a),
      is_false _ (refuted (le (whole (n + 1)) x) (λ k.
          let h = at_most (whole (n + 1)) x (n + 1) (whole_value (n + 1) (omega arith)) f k in
          let b : cut x + 1 ≤ cut x = (le-div_iff_mul-le (den_pos x)).1 h in
          omega arith)),
      s,
    )
  where
    refuted : (b : Bool) → (T b → ⊥) → T (not b)
    refuted true k = k tt
    refuted false k = tt

-- and what is answered is at or below x
pub is_at_or_below : (x : Float) (n : ℕ) → whole_below x ≡ Some n → (le (whole n) x ≡ true) × (le (whole (n + 1)) x ≡ false) × (n < 2 ^ 53)
unfolding whole_below
is_at_or_below x n e = go (le (whole 0) x) refl (le (whole (2 ^ 53)) x) refl e
  where
    go : (b : Bool) → le (whole 0) x ≡ b → (c : Bool) → le (whole (2 ^ 53)) x ≡ c → cond b (cond c None (Some (cut x))) None ≡ Some n
        → (le (whole n) x ≡ true) × (le (whole (n + 1)) x ≡ false) × (n < 2 ^ 53)
    go true z false t q = subst (λ (k : ℕ). (le (whole k) x ≡ true) × (le (whole (k + 1)) x ≡ false) × (k < 2 ^ 53)) (ap number q) (cut_reached x z t)
    go true z true t q = absurd (true≢false (sym (ap found q)))
    go false z c t q = absurd (true≢false (sym (ap found q)))

-- ---- the code's numbers

pub zero_bits : of_bits binary64 0 ≡ whole 0
unfolding of_bits whole of_int
zero_bits = refl

pub top_bits : of_bits binary64 4845873199050653696 ≡ whole (2 ^ 53)
unfolding of_bits whole of_int
top_bits = refl

-- ---- the kit's truncation

-- what the call asks of x, and that it is x's cut
pub record Truncated (x : Float) : Type 0 where
  pub low : T (lt (fin true 1 (pos 0)) x)
  pub high : T (lt x (fin false 1 (pos 64)))
  pub is : to_unsigned 64 x ≡ cut x

pub truncated : (x : Float) → le (whole 0) x ≡ true → le (whole (2 ^ 53)) x ≡ false → Truncated x
unfolding lt to_unsigned
truncated nan z t = absurd (in_reach nan z t)
truncated (inf s) z t = absurd (in_reach (inf s) z t)
truncated (fin false m e) z t =
    let h = top (fin false m e) z t in
    let p = down_pos e in
    let c : m * up e / down e < 2 ^ 53 = (div-lt_iff_lt-mul p).1 h in
    record {
      low = lt→ltb 0 (1 * 1 * down e + m * up e * 1) (omega arith);
      high = lt→ltb (m * up e * 1) (1 * 2 ^ 64 * down e) (omega arith);
      is = omega arith;
    }
truncated (fin true m e) z t =
    let n = nothing m e (not_below (fin true m e) z) in
    let p = down_pos e in
    record {
      low = lt→ltb (m * up e * 1) (1 * 1 * down e) (omega arith);
      high = lt→ltb 0 (m * up e * 1 + 1 * 2 ^ 64 * down e) (omega arith);
      is = sym (ap (λ (k : ℕ). k / down e) n ∙ zero-div (down e));
    }
