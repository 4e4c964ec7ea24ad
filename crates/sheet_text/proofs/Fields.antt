-- One step of reading a field, by what stands at the place.
use Rattle.std.specs.Prelude.{Some, None}
use mathlib.Core.Path.{◌≡◌}
use mathlib.Core.Bool.{true, false, and-eq-true_iff}
use mathlib.Core.List.{List}
use Prim.Native.Nat.{ℕ, ◌+◌, ◌-◌, ◌*◌, ◌≤◌, ◌<◌}
use lib.ListN.{length, drop, get_or, drop_of_length-le}
use lib.Dec.{leb}
use borrow.Author.Tests.{leb-true, lt-leb, le-leb, ne_eqb}
use Rattle.sheet_text.specs.Parse.{byte}
use Rattle.sheet_text.specs.Field.{digit, field, digits_after, field_to, Field}
use Rattle.sheet_text.proofs.Parses.{front}

pub digit_low : (b : ℕ) → digit b ≡ true → 48 ≤ b
digit_low b e = leb-true 48 b ((and-eq-true_iff (leb 48 b) (leb b 57)).0 e).0

pub digit_high : (b : ℕ) → digit b ≡ true → b ≤ 57
digit_high b e = leb-true b 57 ((and-eq-true_iff (leb 48 b) (leb b 57)).0 e).1

module _ (s : List ℕ) (at : ℕ) where
  pub field_end : length s ≤ at → field (drop at s) ≡ None
  unfolding field
  field_end h = rw (drop_of_length-le s h)

  module _ (h : at < length s) where
    pub field_blank : get_or s at 0 ≡ 45 → field (drop at s) ≡ Some (None, drop (at + 1) s)
    unfolding field
    field_blank e = rw (front s at h, e)

    pub field_bad : (get_or s at 0 ≡ 45 → ⊥) → digit (get_or s at 0) ≡ false → field (drop at s) ≡ None
    unfolding field
    field_bad n e = rw (front s at h, ne_eqb _ _ n, e)

    pub field_digits : (get_or s at 0 ≡ 45 → ⊥) → digit (get_or s at 0) ≡ true → (v : ℕ) → v ≡ get_or s at 0 - 48
        → field (drop at s) ≡ digits_after v (drop (at + 1) s)
    unfolding field
    field_digits n e v ev = rw (front s at h, ne_eqb _ _ n, e, ev)

module _ (s : List ℕ) (i v : ℕ) where
  pub after_end : length s ≤ i → digits_after v (drop i s) ≡ Some (Some v, drop i s)
  unfolding digits_after
  after_end h = rw (drop_of_length-le s h)

  module _ (h : i < length s) where
    pub after_stop : digit (get_or s i 0) ≡ false → digits_after v (drop i s) ≡ Some (Some v, drop i s)
    unfolding digits_after
    after_stop e = rw (front s i h, e)

    pub after_zero : digit (get_or s i 0) ≡ true → v ≡ 0 → digits_after v (drop i s) ≡ None
    unfolding digits_after
    after_zero e z = rw (front s i h, e, z)

    module _ (e : digit (get_or s i 0) ≡ true) (n : v ≡ 0 → ⊥) (f : ℕ) (ef : f ≡ get_or s i 0 - 48) where
      pub after_large : 10_000_000_000 ≤ v * 10 + f → digits_after v (drop i s) ≡ None
      unfolding digits_after
      after_large l = rw (front s i h, e, ne_eqb v 0 n, ← ef, le-leb _ _ l)

      pub after_more : v * 10 + f < 10_000_000_000 → digits_after v (drop i s) ≡ digits_after (v * 10 + f) (drop (i + 1) s)
      unfolding digits_after
      after_more l = rw (front s i h, e, ne_eqb v 0 n, ← ef, lt-leb _ _ l)

module _ (end : ℕ) (u : List ℕ) where
  pub to_none : field u ≡ None → field_to end u ≡ None
  unfolding field_to
  to_none e = rw e

  module _ {f : Field} {u₁ : List ℕ} (e₁ : field u ≡ Some (f, u₁)) where
    pub to_open : byte end u₁ ≡ None → field_to end u ≡ None
    unfolding field_to
    to_open e = rw (e₁, e)

    pub to_some : {u₂ : List ℕ} → byte end u₁ ≡ Some (tt, u₂) → field_to end u ≡ Some (f, u₂)
    unfolding field_to
    to_some e = rw (e₁, e)

-- a field, by what stands at the place
pub ruleset field_steps = (field_end, field_blank, field_bad, field_digits, after_end, after_stop, after_zero, after_large, after_more)

-- a field and the byte that ends it
pub ruleset to_steps = (to_none, to_open, to_some)
