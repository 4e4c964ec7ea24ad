-- What holds of whatever a parser reads: a property of it (`All`), and that the text is its printing (`Says`). And the byte that stands at a place.
use Rattle.std.specs.Prelude.{Option, Some, None}
use mathlib.Core.Path.{◌≡◌, refl, ap}
use mathlib.Core.List.{List, [], ◌∷◌, ◌++◌}
use Prim.Native.Nat.{ℕ, ◌+◌, ◌≤◌, ◌<◌}
use native.Mathlib.Numerals.{add-one}
use native.Mathlib.Omega.{arith}
use lib.Dec.{eqb}
use lib.ListN.{length, drop, get_or, drop_of_length-le}
use lib.Seq.{drop-cons}
use borrow.Author.Tests.{ne_eqb, eq-eqb, eqb-true}
use Rattle.num_working.proofs.Cases.{by_test}
use Rattle.sheet_text.specs.Parse.{Parser, and_then, byte}

-- ---- a property of what is read

abbrev pub All : {A : Type 0} → (A → Type 0) → Option (A × List ℕ) → Type 0
All P None = Unit {0}
All P (Some p) = P p.0

pub bind_all : {A B : Type 0} (P : A → Type 0) (Q : B → Type 0) (o : Option (A × List ℕ)) (f : A → Parser B)
    → All P o → ((a : A) (r : List ℕ) → P a → All Q (f a r)) → All Q (and_then o f)
bind_all P Q None f h k = tt
bind_all P Q (Some p) f h k = k p.0 p.1 h

pub pass_all : {A B : Type 0} (Q : B → Type 0) (o : Option (A × List ℕ)) (f : A → Parser B) → ((a : A) (r : List ℕ) → All Q (f a r)) → All Q (and_then o f)
pass_all Q None f k = tt
pass_all Q (Some p) f k = k p.0 p.1

-- ---- where o has read something of w, w is the text of that and then the rest

abbrev pub Says : {A : Type 0} → (A → List ℕ) → List ℕ → Option (A × List ℕ) → Type 0
Says pr w None = Unit {0}
Says pr w (Some p) = w ≡ pr p.0 ++ p.1

pub then_says : {A B : Type 0} (pa : A → List ℕ) (pb : B → List ℕ) (u w : List ℕ) (o : Option (A × List ℕ)) (f : A → Parser B)
    → Says pa u o → ((a : A) (r : List ℕ) → u ≡ pa a ++ r → Says pb w (f a r)) → Says pb w (and_then o f)
then_says pa pb u w None f h k = tt
then_says pa pb u w (Some p) f h k = k p.0 p.1 h

pub longer_says : {A : Type 0} (pa pb : A → List ℕ) (u w : List ℕ) (o : Option (A × List ℕ))
    → Says pa u o → ((a : A) (r : List ℕ) → u ≡ pa a ++ r → w ≡ pb a ++ r) → Says pb w o
longer_says pa pb u w None h k = tt
longer_says pa pb u w (Some p) h k = k p.0 p.1 h

-- ---- what was read, and the rest, are told by the answer

pub read_once : {A : Type 0} (a b : A) (r t : List ℕ) → ◌≡◌ {A = Option (A × List ℕ)} (Some (a, r)) (Some (b, t)) → (a ≡ b) × (r ≡ t)
read_once {A} a b r t e =
    let p : ◌≡◌ {A = A × List ℕ} (a, r) (b, t) = cc in
    (ap (λ (q : A × List ℕ). q.0) p, ap (λ (q : A × List ℕ). q.1) p)

pub none_or_some : {A : Type 0} {o : Option A} {a : A} → o ≡ None → o ≡ Some a → ⊥
none_or_some e f = let z : ◌≡◌ {A = ℕ} 0 1 = cc in omega arith

-- ---- the byte at a place

pub front : (s : List ℕ) (i : ℕ) → i < length s → drop i s ≡ get_or s i 0 ∷ drop (i + 1) s
front s i h = rw (add-one, drop-cons s i 0)

module _ (s : List ℕ) (at : ℕ) where
  pub byte_end : (b : ℕ) → length s ≤ at → byte b (drop at s) ≡ None
  unfolding byte
  byte_end b h = rw (drop_of_length-le s h)

  module _ (h : at < length s) where
    pub byte_at : (b : ℕ) → get_or s at 0 ≡ b → byte b (drop at s) ≡ Some (tt, drop (at + 1) s)
    unfolding byte
    byte_at b e = rw (front s at h, eq-eqb _ _ e)

    pub byte_other : (b : ℕ) → (get_or s at 0 ≡ b → ⊥) → byte b (drop at s) ≡ None
    unfolding byte
    byte_other b n = rw (front s at h, ne_eqb _ _ n)

pub byte_back : (b : ℕ) (rest : List ℕ) → byte b (b ∷ rest) ≡ Some (tt, rest)
unfolding byte
byte_back b rest = rw (eq-eqb b b refl)

pub byte_says : (b : ℕ) (u : List ℕ) → Says (λ (_ : Unit {0}). b ∷ []) u (byte b u)
unfolding byte
byte_says b [] = tt
byte_says b (x ∷ rest) = by_test (Says (λ (_ : Unit {0}). b ∷ []) (x ∷ rest)) (eqb x b) _ _ (λ e. ap (λ (y : ℕ). y ∷ rest) (eqb-true x b e)) (λ _. tt)

-- a byte, by what stands at the place
pub ruleset byte_steps = (byte_end, byte_at, byte_other)
