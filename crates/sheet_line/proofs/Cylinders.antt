-- One step of reading a kind, by what stands at the place.
use Rattle.std.specs.Prelude.{Some, None}
use mathlib.Core.Path.{◌≡◌}
use mathlib.Core.List.{List}
use Prim.Native.Nat.{ℕ, ◌+◌, ◌≤◌, ◌<◌}
use lib.ListN.{length, drop, get_or, drop_of_length-le}
use borrow.Author.Tests.{ne_eqb}
use Rattle.sheet_text.proofs.Parses.{front}
use Rattle.sheet_line.specs.Cylinder.{kind}
use Rattle.sheet_line.specs.declared.cylinder.Kind.TheVariants.{Pressure, Density, Weighed}

module _ (s : List ℕ) (at : ℕ) where
  pub kind_end : length s ≤ at → kind (drop at s) ≡ None
  unfolding kind
  kind_end h = rw (drop_of_length-le s h)

  module _ (h : at < length s) where
    pub kind_pressure : get_or s at 0 ≡ 80 → kind (drop at s) ≡ Some (Pressure, drop (at + 1) s)
    unfolding kind
    kind_pressure e = rw (front s at h, e)

    pub kind_density : get_or s at 0 ≡ 68 → kind (drop at s) ≡ Some (Density, drop (at + 1) s)
    unfolding kind
    kind_density e = rw (front s at h, e)

    pub kind_weighed : get_or s at 0 ≡ 87 → kind (drop at s) ≡ Some (Weighed, drop (at + 1) s)
    unfolding kind
    kind_weighed e = rw (front s at h, e)

    pub kind_other : (get_or s at 0 ≡ 80 → ⊥) → (get_or s at 0 ≡ 68 → ⊥) → (get_or s at 0 ≡ 87 → ⊥) → kind (drop at s) ≡ None
    unfolding kind
    kind_other n m w = rw (front s at h, ne_eqb _ _ n, ne_eqb _ _ m, ne_eqb _ _ w)

pub ruleset kind_steps = (kind_end, kind_pressure, kind_density, kind_weighed, kind_other)
