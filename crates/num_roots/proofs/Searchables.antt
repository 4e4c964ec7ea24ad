-- A searchable root is what `root_bits` finds with xᵐ as its target. Assumes nothing.
use Rattle.std.specs.Prelude.{Some, None, Ok}
use mathlib.Core.Path.{◌≡◌, refl, sym, ap, ◌∙◌}
use mathlib.Core.Bool.{Bool, true, false, not, ◌&&◌}
use Prim.Native.Nat.{ℕ, ◌+◌, ◌-◌, ◌*◌, ◌≤◌, ◌<◌}
use native.Mathlib.Omega.{arith}
use lib.Dec.{T, ltb, ltb→lt}
use lib.Ieee.{Float, binary64, of_bits, lt, le, eq}
use lib.Ieee.Scale.{finite}
use Rattle.num_working.specs.Number.{whole, nonneg}
use Rattle.num_working.specs.Working.{checked, or_else, Worked}
use Rattle.num_roots.specs.declared.root.Exponent.{Exponent}
use Rattle.num_roots.specs.Root.{root, searched, root_bits, root_of}
use Rattle.num_roots.specs.Side.{Guessed, searchable, PowersAbout}
use Rattle.num_working.proofs.Numbers.{above_0}
use Rattle.num_powers.proofs.Powers.{checked_power}
use Rattle.num_laws.proofs.Orders.{le_not_lt, power_under}
use Rattle.num_roots.proofs.Roots.{top, nonneg_checked, above_at, not_above_at, crossing_is}

-- the five tests, by themselves
five : (a b c d f : Bool) → T (a && (b && (not c && (not d && f)))) → (a ≡ true) × (b ≡ true) × (c ≡ false) × (d ≡ false) × (f ≡ true)
five false b c d f h = absurd h
five true false c d f h = absurd h
five true true true d f h = absurd h
five true true false true f h = absurd h
five true true false false false h = absurd h
five true true false false true h = (refl, refl, refl, refl, refl)

module _ (e : Exponent) (x : Float) (u : T (searchable e x)) where
  tests : (ltb e.m (2 * e.k) ≡ true) × (ltb e.k 52 ≡ true) × (lt x (whole 0) ≡ false) × (eq x (whole 0) ≡ false) × (finite x ≡ true)
  unfolding searchable
  tests = five (ltb e.m (2 * e.k)) (ltb e.k 52) (lt x (whole 0)) (eq x (whole 0)) (finite x) u

  pub bounds : (1 ≤ e.k) × (e.k ≤ 51) × (e.m < 102)
  bounds =
      let l = ltb→lt e.m (2 * e.k) (rw tests.0 tt) in
      let h = ltb→lt e.k 52 (rw tests.1 tt) in
      (omega arith, omega arith, omega arith)

  pub unsigned : T (nonneg x)
  unsigned = above_0 x tests.4 tests.2 tests.3

  -- what a guess asks
  pub few : (e.k ≤ 51) × (e.m < 102)
  few = (bounds.1, bounds.2)

  searched_for : root e x ≡ searched e.m e.k x
  unfolding root
  searched_for = simp (root, tests.0, tests.4, tests.2, tests.3)

-- ---- a guess, and the powers about it
module _ (e : Exponent) (x t : Float) (at : ℕ) (c : Guessed e x t at) where
  pub powers_asked : (1 ≤ e.k) × ((0 < at) × (at < top))
  powers_asked = ((bounds e x c.searched).0, (c.some, c.within))

  -- a target with something above it is a number
  unsigned_target : (y : Float) → lt t y ≡ true → T (nonneg t)
  unsigned_target y h = rw c.target (power_under x y e.m (unsigned e x c.searched) (rw c.target at h))

  -- the root is where the power passes it
  told : (r : ℕ) → T (nonneg t) → root_bits e.k t ≡ Ok r → root e x ≡ Some (of_bits binary64 r)
  unfolding searched
  told r n b =
      searched_for e x c.searched
      ∙ ap (λ (w : Worked). or_else w None (λ s. root_of (root_bits e.k s)))
      (sym (checked_power x e.m) ∙ ap checked (sym c.target) ∙ nonneg_checked t n)
      ∙ ap root_of b

  module _ (below here above : Float) (powers : PowersAbout at e.k below here above) where
    pub at_below : lt t here ≡ true → le below t ≡ true → root e x ≡ Some (of_bits binary64 (at - 1))
    at_below h l =
        let b = bounds e x c.searched in
        let n = unsigned_target here h in
        told (at - 1) n
        (crossing_is e.k t b.0 b.1 n (at - 1) at (omega arith) (omega arith)
        (not_above_at e.k (at - 1) t below b.1 (omega arith) powers.0 (le_not_lt below t n l))
        (above_at e.k at t here b.1 (omega arith) powers.1 h))

    pub at_here : lt t here ≡ false → lt t above ≡ true → root e x ≡ Some (of_bits binary64 at)
    at_here h l =
        let b = bounds e x c.searched in
        let n = unsigned_target above l in
        told at n
        (crossing_is e.k t b.0 b.1 n at (at + 1) refl (omega arith)
        (not_above_at e.k at t here b.1 (omega arith) powers.1 h)
        (above_at e.k (at + 1) t above b.1 (omega arith) powers.2 l))
