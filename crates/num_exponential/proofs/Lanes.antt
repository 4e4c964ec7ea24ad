-- Twelve at once: what holds of each number holds of all, and from 0 to 1 no step leaves, so that no number has to be tested. Assumes nothing.
use Rattle.std.specs.Prelude.{Some}
use mathlib.Core.Path.{◌≡◌, refl, sym, ap, ◌∙◌, subst}
use mathlib.Core.Bool.{Bool, false}
use Prim.Native.Nat.{ℕ, zero, suc, ◌-◌, ◌*◌, ◌^◌, ◌≤◌, ◌<◌}
use native.Mathlib.Nat.{le_refl, le_trans, le_of_eq, sub-le, zero-lt-suc, mul_comm, mul-pos, mul-le-mul, le-mul_of_pos_right}
use native.Mathlib.Omega.{arith}
use mathlib.Core.List.{List, [], ◌∷◌, map, map-map}
use lib.ListN.{length, get_or, replicate}
use Rattle.std.proofs.lemmas.List.{ext_get_or, get_or-map, length-map}
use lib.Dec.{T, lit≤}
use lib.Pow.{pow_pos}
use lib.Ieee.{Float, nan, inf, fin, binary64, low, round, of_int, neg, mul, sub, div, le}
use lib.Ieee.Exact.{HasValue}
use lib.Ieee.Fits.{and_i, and_l, and_r}
use lib.Ieee.Scale.{grid}
use lib.Ieee.Positive.{num, den, den_pos}
use Rattle.num_working.specs.Number.{decimal, whole}
use Rattle.num_working.specs.Working.{checked, plain}
use Rattle.num_exponential.specs.Exponential.{steps, squared}
use Rattle.num_exponential.specs.Decay.{decay, every, in_series}
use Rattle.num_exponential.specs.Lockstep.{chain, pairs, squarings, turn}
use Rattle.num_laws.specs.Quotient.{normal}
use Rattle.num_exponential.proofs.Decays.{steps_are, range}
use Rattle.num_exponential.proofs.Sayings.{answer_is}
use Rattle.num_exponential.proofs.Exponentials.{series_chain, squared_powers}
use Rattle.num_exponential.proofs.Steps.{low_of, high_of}
use Rattle.num_laws.proofs.Halves.{above_zero, at_most, quotient}
use Rattle.num_laws.proofs.Units.{count, grid_unit, mul_of, sub_of}

-- ---- many numbers
-- a list that has f of each number in its place
pub is_map : (f : Float → Float) (x r : List Float) → length r ≡ length x → ((k : ℕ) → k < length x → get_or r k nan ≡ f (get_or x k nan)) → r ≡ map f x
is_map f x r l h =
    ext_get_or nan r (map f x) (l ∙ sym (length-map x f))
    (λ k n. let m : k < length x = omega arith in h k m ∙ sym (get_or-map f x k nan nan m))

-- f of each of two, in its place
pub is_pairs : (f : Float → Float → Float) (x y r : List Float) → length x ≡ length y → length r ≡ length x
    → ((k : ℕ) → k < length x → get_or r k nan ≡ f (get_or x k nan) (get_or y k nan)) → r ≡ pairs f x y
unfolding pairs
is_pairs f [] [] [] e l h = refl
is_pairs f [] [] (z ∷ r) e l h = absurd (omega arith)
is_pairs f [] (b ∷ y) r e l h = absurd (omega arith)
is_pairs f (a ∷ x) [] r e l h = absurd (omega arith)
is_pairs f (a ∷ x) (b ∷ y) [] e l h = absurd (omega arith)
is_pairs f (a ∷ x) (b ∷ y) (z ∷ r) e l h =
    let first : z ≡ f a b = h 0 (omega arith) in
    λ i. first i ∷ is_pairs f x y r (omega arith) (omega arith) (λ k n. h (suc k) (omega arith)) i

pub same_map : (p : Float → Bool) (F G : Float → Float) (x : List Float) → ((v : Float) → T (p v) → F v ≡ G v) → T (every p x) → map F x ≡ map G x
unfolding every
same_map p F G [] h t = refl
same_map p F G (v ∷ x) h t = λ i. h v (and_l (p v) (every p x) t) i ∷ same_map p F G x h (and_r (p v) (every p x) t) i

every_map : (p q : Float → Bool) (f : Float → Float) → ((v : Float) → T (p v) → T (q (f v))) → (l : List Float) → T (every p l) → T (every q (map f l))
unfolding every
every_map p q f h [] t = tt
every_map p q f h (x ∷ l) t =
    and_i (q (f x)) (every q (map f l)) (h x (and_l (p x) (every p l) t)) (every_map p q f h l (and_r (p x) (every p l) t))

-- r is F of each of y
pub record Of (F : Float → Float) (y r : List Float) : Type 0 where
  pub is : r ≡ map F y

of_pairs : (f : Float → Float → Float) (G F : Float → Float) (y : List Float) → pairs f (map G y) (map F y) ≡ map (λ v. f (G v) (F v)) y
unfolding pairs
of_pairs f G F [] = refl
of_pairs f G F (v ∷ y) = ap (λ (l : List Float). f (G v) (F v) ∷ l) (of_pairs f G F y)

pub turned : (h : Float) {F G : Float → Float} {y q s r : List Float} → r ≡ pairs (turn h) q s → Of G y q → Of F y s → Of (λ v. turn h (G v) (F v)) y r
turned h {F} {G} {y} e a b = record { is = e ∙ (λ i. pairs (turn h) (a.is i) (b.is i)) ∙ of_pairs (turn h) G F y }

pub itself : (y : List Float) → Of (λ v. v) y y
itself [] = record { is = refl }
itself (v ∷ y) = record { is = ap (λ (l : List Float). v ∷ l) (itself y).is }

pub all_one : (c : Float) (y : List Float) → Of (λ v. c) y (replicate (length y) c)
all_one c [] = record { is = refl }
all_one c (v ∷ y) = record { is = ap (λ (l : List Float). c ∷ l) (all_one c y).is }

-- ---- from 0 to 1
abbrev Within : Float → Type 0
Within x = (g : ℕ) × HasValue x false g (2 ^ low binary64) × (g ≤ 2 ^ low binary64)

round_within : (a c : ℕ) → 0 < c → a ≤ c → Within (round binary64 false a c)
round_within a c C h = (grid binary64 a c, count binary64 a c C h, grid_unit binary64 a c C h)

mul_within : (x y : Float) → Within x → Within y → Within (mul binary64 x y)
mul_within x y v w =
    let l = 2 ^ low binary64 in
    let L : 0 < l = pow_pos (low binary64) in
    subst Within (sym (mul_of binary64 x y v.0 l w.0 l L L v.1 w.1))
    (round_within (v.0 * w.0) (l * l) (mul-pos L L) (mul-le-mul v.2 w.2))

one_value : HasValue (whole 1) false (2 ^ low binary64) (2 ^ low binary64)
unfolding whole of_int round
one_value = (refl, refl)

one_within : Within (whole 1)
one_within = (2 ^ low binary64, one_value, le_refl (2 ^ low binary64))

less_within : (x : Float) → Within x → Within (sub binary64 (whole 1) x)
less_within x v =
    let l = 2 ^ low binary64 in
    let L : 0 < l = pow_pos (low binary64) in
    subst Within (sym (sub_of binary64 (whole 1) x l v.0 l L one_value v.1 v.2)) (round_within (l - v.0) l L (sub-le l v.0))

quotient_within : (y : Float) (k : ℕ) → T (normal y) → 0 < k → k ≤ 14 → Within (div binary64 y (whole k))
quotient_within y k t K h =
    let p = above_zero y (low_of y t) (high_of y t) in
    let l = le_trans (at_most y (low_of y t) (high_of y t)) (le-mul_of_pos_right (den y) K) in
    subst Within (sym (quotient y k p K (le_trans h (lit≤ tt))))
    (round_within (num y) (k * den y) (mul-pos K (den_pos y)) (le_trans l (le_of_eq (mul_comm (den y) k))))

chain_within : (y : Float) (k : ℕ) (s : Float) → T (normal y) → k ≤ 14 → Within s → Within (chain y k s)
unfolding chain
chain_within y zero s t h v = v
chain_within y (suc k) s t h v =
    chain_within y k _ t (omega arith) (less_within _ (mul_within _ s (quotient_within y (suc k) t (zero-lt-suc k) h) v))

powers_within : (n : ℕ) (s : Float) → Within s → Within (squarings n s)
unfolding squarings
powers_within zero s v = v
powers_within (suc n) s v = powers_within n (mul binary64 s s) (mul_within s s v v)

checked_within : (x : Float) → Within x → checked x ≡ Some x
checked_within nan v = absurd v.1
checked_within (inf s) v = absurd v.1
checked_within (fin s m e) v = refl

-- ---- an x from 10⁻²⁰⁰ to 700
normal_part : (x : Float) → T (in_series x) → T (normal (div binary64 x (whole 1024)))
unfolding normal
normal_part x h =
    let y = div binary64 x (whole 1024) in
    and_i (le (decimal 1 250) y) (le y (whole 1)) (range x h).0 (range x h).1

pub normal_parts : (x : List Float) → T (every in_series x) → T (every normal (map (λ v. div binary64 v (whole 1024)) x))
normal_parts x h = every_map in_series normal (λ v. div binary64 v (whole 1024)) normal_part x h

-- it is answered
pub steps_worked : (x : Float) → T (in_series x) → steps (neg x) ≡ Some (squarings 10 (chain (div binary64 x (whole 1024)) 14 (whole 1)))
steps_worked x h =
    let y = div binary64 x (whole 1024) in
    let s = chain y 14 (whole 1) in
    steps_are x h
    ∙ ap (squared 10) (series_chain y 14 (whole 1) (omega arith))
    ∙ squared_powers 10 s
    ∙ checked_within (squarings 10 s) (powers_within 10 s (chain_within y 14 (whole 1) (normal_part x h) (omega arith) one_within))

decay_worked : (x : Float) → T (in_series x) → squarings 10 (chain (div binary64 x (whole 1024)) 14 (whole 1)) ≡ decay x
unfolding decay
decay_worked x h = sym (ap plain (answer_is (neg x) ∙ steps_worked x h))

pub all_worked : (x : List Float) → T (every in_series x)
    → map (squarings 10) (map (λ v. chain v 14 (whole 1)) (map (λ v. div binary64 v (whole 1024)) x)) ≡ map decay x
all_worked x h = simp map-map (same_map in_series (λ v. squarings 10 (chain (div binary64 v (whole 1024)) 14 (whole 1))) decay x decay_worked h)
