-- RULES 4.6: roots side by side. Definitions only.
use Rattle.std.specs.Prelude.{◌≡◌, Bool, not, ◌&&◌, ℕ, ◌+◌, ◌-◌, ◌*◌, ◌<◌, T, ltb, Float}
use Rattle.std.specs.Float.Ieee as Ieee
use Rattle.std.specs.Float.{binary64}
use Rattle.std.specs.Float.Ieee.Scale.{finite}
use Rattle.num_working.specs.Number.{whole}
use Rattle.num_working.specs.Working.{plain}
use Rattle.num_powers.specs.Power.{power}
use Rattle.num_roots.specs.declared.root.Exponent.{Exponent}
use Rattle.num_roots.specs.Root.{root}
use Rattle.num_roots.specs.declared.side.TwoRoots.{TwoRoots}
use Rattle.num_roots.specs.declared.side.ThreeRoots.{ThreeRoots}

-- two roots of a number in plain f64
abbrev pub two_roots : Exponent → Exponent → Float → TwoRoots
two_roots e f x = record { first = plain (root e x); second = plain (root f x) }

-- and the first of another
abbrev pub three_roots : Exponent → Exponent → Float → Float → ThreeRoots
three_roots e f x z = record { first = plain (root e x); second = plain (root f x); other = plain (root e z) }

-- ---- what code inside asks for before it tells a root from a guess

-- the root has to be searched for, and each end of the search has a k-th whole power
unfoldable pub searchable : Exponent → Float → Bool
searchable e x = ltb e.m (2 * e.k) && (ltb e.k 52 && (not (Ieee.lt x (whole 0)) && (not (Ieee.eq x (whole 0)) && finite x)))

-- t is the m-th whole power of such an x, and `at` a guess within the ends of the search
pub record Guessed (e : Exponent) (x t : Float) (at : ℕ) : Type 0 where
  pub searched : T (searchable e x)
  pub target : t ≡ power x e.m
  pub some : 0 < at
  pub within : at < 0x4130_0000_0000_0000

-- the k-th whole powers of the float with the bits `at` and of its neighbours
abbrev pub PowersAbout : ℕ → ℕ → Float → Float → Float → Type 0
PowersAbout at k below here above =
    (below ≡ power (Ieee.of_bits binary64 (at - 1)) k) × (here ≡ power (Ieee.of_bits binary64 at) k) × (above ≡ power (Ieee.of_bits binary64 (at + 1)) k)
