-- The lengths that fit. Assumes nothing.
use mathlib.Core.Path.{◌≡◌, refl, sym}
use mathlib.Core.Bool.{Bool, true, false, ◌&&◌, true≢false}
use Prim.Native.Nat.{ℕ, ◌*◌}
use borrow.Author.Tests.{eqb-true, eq-eqb}
use lib.Dec.{eqb}
use Rattle.interface_states.specs.States.{fits}

-- what the three tests say
each_true : (x y z : Bool) → (x && (y && z)) ≡ true → (x ≡ true) × ((y ≡ true) × (z ≡ true))
each_true true true z h = (refl, (refl, h))
each_true true false z h = absurd (true≢false (sym h))
each_true false y z h = absurd (true≢false (sym h))

pub so_fits : (n p a f : ℕ) → p ≡ n → a ≡ n → f ≡ 10 * n → fits n p a f ≡ true
so_fits n p a f x y z = rw (eq-eqb p n x, eq-eqb a n y, eq-eqb f (10 * n) z) refl

pub fitting : (n p a f : ℕ) → fits n p a f ≡ true → (p ≡ n) × ((a ≡ n) × (f ≡ 10 * n))
fitting n p a f h =
    let e = each_true (eqb p n) (eqb a n) (eqb f (10 * n)) h in
    (eqb-true p n e.0, (eqb-true a n e.1.0, eqb-true f (10 * n) e.1.1))

-- and where one of them fails
either_way : (n p a f : ℕ) (b : Bool) → fits n p a f ≡ b → (fits n p a f ≡ true → ⊥) → fits n p a f ≡ false
either_way n p a f true e h = absurd (h e)
either_way n p a f false e h = e

pub no_fit : (n p a f : ℕ) → (fits n p a f ≡ true → ⊥) → fits n p a f ≡ false
no_fit n p a f = either_way n p a f (fits n p a f) refl
