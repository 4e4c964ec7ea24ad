-- A table by place: its last row at every place past the end, as the last arm of a match has it; a test over the table holds at each. Assumes nothing.
use mathlib.Core.Path.{◌≡◌, refl}
use mathlib.Core.Bool.{Bool, true, ◌&&◌}
use mathlib.Core.List.{List, [], ◌∷◌}
use Prim.Native.Nat.{ℕ, zero, suc, ◌+◌, ◌-◌, ◌<◌, ◌≤◌}
use native.Mathlib.Omega.{arith}
use lib.Dec.{T, ltb, ltb→lt}
use lib.ListN.{get_or, drop}
use lib.Seq.{get_or-drop}
use lib.Ieee.Fits.{and_l, and_r}

-- what a call asks that has no `requires`
pub ok : {C K : Type 0} → C → K → Unit {0}
ok c κs = tt

-- i is none of the places before n
abbrev pub Missed : ℕ → ℕ → Type 0
Missed zero i = Unit
Missed (suc n) i = Missed n i × (i ≡ n → ⊥)

missed : (n i : ℕ) → Missed n i → n ≤ i
missed zero i m = omega arith
missed (suc n) i m = let h = missed n i m.0 in omega arith

alone : {A : Type 0} (z : A) (j : ℕ) → z ≡ get_or (z ∷ []) j z
alone z zero = refl
alone z (suc j) = refl

pub past : {A : Type 0} (l : List A) (z : A) (n i : ℕ) → drop n l ≡ z ∷ [] → Missed n i → z ≡ get_or l i z
past l z n i e m =
    let h = missed n i m in
    let p : n + (i - n) ≡ i = omega arith in
    rw (← p, ← get_or-drop n l (i - n) z, e) (alone z (i - n))

-- ---- one test over a table
abbrev pub every : {A : Type 0} → (A → Bool) → List A → Bool
every f [] = true
every f (x ∷ xs) = f x && every f xs

module _ {A : Type 0} where
  pub everywhere : (f : A → Bool) (xs : List A) (z : A) → T (every f xs) → T (f z) → (i : ℕ) → T (f (get_or xs i z))
  everywhere f [] z t u i = u
  everywhere f (x ∷ xs) z t u zero = and_l (f x) (every f xs) t
  everywhere f (x ∷ xs) z t u (suc i) = everywhere f xs z (and_r (f x) (every f xs) t) u i

  pub below : (f : A → ℕ) (n : ℕ) (xs : List A) (z : A) → T (every (λ (x : A). ltb (f x) n) xs) → T (ltb (f z) n)
      → (i : ℕ) → f (get_or xs i z) < n
  below f n xs z t u i = ltb→lt _ n (everywhere (λ x. ltb (f x) n) xs z t u i)
