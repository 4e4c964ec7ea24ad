-- The decimal digits of a number: the two equations that define them, and how many there are.
use mathlib.Core.Path.{◌≡◌, refl, ap, ◌∙◌}
use mathlib.Core.List.{List, [], ◌∷◌, ◌++◌, append_assoc}
use Prim.Native.Nat.{ℕ, zero, suc, ◌+◌, ◌/◌, ◌%◌, ◌^◌, ◌≤◌, ◌<◌}
use native.Mathlib.Nat.{pow-suc, div-lt_iff_lt-mul}
use native.Mathlib.Decide.{dec_lt}
use native.Mathlib.Omega.{arith}
use lib.ListN.{length, length-append}
use borrow.Author.Tests.{lt-ltb, le-ltb}
use Rattle.sheet_text.specs.Decimal.{decimal, decimal_within}

-- the bound on the recursion does not matter
enough : (k j n : ℕ) → n ≤ k → n ≤ j → decimal_within k n ≡ decimal_within j n
unfolding decimal_within
enough zero zero n h g = refl
enough zero (suc j) n h g = let z : n < 10 = omega arith in rw (lt-ltb n 10 z)
enough (suc k) zero n h g = let z : n < 10 = omega arith in rw (lt-ltb n 10 z)
enough (suc k) (suc j) n h g = rw (enough k j (n / 10) (omega arith) (omega arith))

pub decimal_small : (n : ℕ) → n < 10 → decimal n ≡ (48 + n % 10) ∷ []
unfolding decimal decimal_within
decimal_small n h = enough n (suc n) n (omega arith) (omega arith) ∙ rw (lt-ltb n 10 h)

pub decimal_large : (n : ℕ) → 10 ≤ n → decimal n ≡ decimal (n / 10) ++ ((48 + n % 10) ∷ [])
unfolding decimal decimal_within
decimal_large n h =
    enough n (suc n) n (omega arith) (omega arith)
    ∙ rw (le-ltb n 10 h) (ap (λ (l : List ℕ). l ++ ((48 + n % 10) ∷ [])) (enough n (n / 10) (n / 10) (omega arith) (omega arith)))

by_size : (n m : ℕ) → 1 ≤ m → Dec (n < 10) → (10 ≤ n → length (decimal n) ≤ m) → length (decimal n) ≤ m
by_size n m p (yes s) f = rw (decimal_small n s) p
by_size n m p (no l) f = f (omega arith)

-- a number below 10 to k + 1 has at most k + 1 digits
pub digits_most : (k n : ℕ) → n < 10 ^ suc k → length (decimal n) ≤ suc k
digits_most zero n h = by_size n 1 (omega arith) (dec_lt n 10) (λ l. absurd (omega arith))
digits_most (suc k) n h =
    by_size n (suc (suc k)) (omega arith) (dec_lt n 10)
    (λ l.
    let ih : length (decimal (n / 10)) ≤ suc k = digits_most k (n / 10) ((div-lt_iff_lt-mul (omega arith)).1 (rw pow-suc at h)) in
    rw (decimal_large n l, length-append) (omega arith))

pub length_small : (n : ℕ) → n < 10 → length (decimal n) ≡ 1
length_small n h = rw (decimal_small n h)

-- ---- two digits at a time

pub decimal_pair : (n : ℕ) → 10 ≤ n → n < 100 → decimal n ≡ (48 + n / 10) ∷ (48 + n % 10) ∷ []
decimal_pair n h g =
    let e : n / 10 % 10 ≡ n / 10 = omega arith in
    rw (decimal_large n h, decimal_small (n / 10) (omega arith), e)

pub decimal_pairs : (n : ℕ) → 100 ≤ n → decimal n ≡ decimal (n / 100) ++ ((48 + n % 100 / 10) ∷ (48 + n % 100 % 10) ∷ [])
decimal_pairs n h =
    let front : n / 10 / 10 ≡ n / 100 = omega arith in
    let tens : n / 10 % 10 ≡ n % 100 / 10 = omega arith in
    let ones : n % 10 ≡ n % 100 % 10 = omega arith in
    rw (decimal_large n (omega arith), decimal_large (n / 10) (omega arith), front, tens, ones, append_assoc)

pub length_pair : (n : ℕ) → 10 ≤ n → n < 100 → length (decimal n) ≡ 2
length_pair n h g = rw (decimal_pair n h g)

pub length_pairs : (n : ℕ) → 100 ≤ n → length (decimal n) ≡ length (decimal (n / 100)) + 2
length_pairs n h = rw (decimal_pairs n h, length-append)
