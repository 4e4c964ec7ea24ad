-- How much a mass that was weighed can be: 9,999,999,999 g, and 1000 times as many milligrams. Assumes nothing.
use Rattle.std.specs.Prelude.{Some, None}
use mathlib.Core.Path.{◌≡◌}
use mathlib.Core.Bool.{true, and-eq-true_iff}
use Prim.Native.Nat.{ℕ, ◌≤◌}
use native.Mathlib.Omega.{arith}
use lib.Dec.{leb}
use borrow.Author.Tests.{leb-true}
use Rattle.num_working.proofs.Cases.{by_test}
use Rattle.sheet_mass.specs.Mass.{is_mass, milligrams_of, from_scale, Scaled}
use Rattle.sheet_mass.specs.declared.Grams.{Grams}

pub mass_most : (n : ℕ) → is_mass n ≡ true → n ≤ 9_999_999_999
mass_most n e = leb-true n 9_999_999_999 ((and-eq-true_iff (leb 1 n) (leb n 9_999_999_999)).0 e).1

-- one that is out of its range has none
abbrev pub Most : Scaled → Type 0
Most (Some mg) = mg.0 ≤ 9_999_999_999_000
Most None = Unit {0}

pub scaled_most : (x : Grams) → Most (from_scale x)
unfolding from_scale milligrams_of
scaled_most x = by_test Most (is_mass x.0) (Some (milligrams_of x)) None (λ e. omega (arith, mass_most x.0 e)) (λ _. tt)
