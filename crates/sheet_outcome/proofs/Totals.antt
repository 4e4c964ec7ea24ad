-- The total, line by line from the front: what was added, and then what is left. Assumes nothing.
use Rattle.std.specs.Prelude.{Some, None, Ok, Err}
use Rattle.refusal.specs.declared.Refusal.{Refusal}
use mathlib.Core.Path.{◌≡◌, refl, sym, ap, ◌∙◌}
use mathlib.Core.List.{List}
use Prim.Native.Nat.{ℕ, suc, ◌+◌, ◌≤◌, ◌<◌}
use native.Mathlib.Nat.{add_assoc}
use native.Mathlib.Numerals.{add-one}
use native.Mathlib.Omega.{arith}
use lib.ListN.{length, drop, get_or, drop_of_length-le}
use lib.Seq.{drop-cons}
use Rattle.sheet_mass.specs.Mass.{as_milligrams}
use Rattle.sheet_mass.specs.declared.Milligrams.{Milligrams}
use Rattle.sheet_outcome.specs.Outcome.{plus, total, Summed, Weighed}

abbrev summed : ℕ → Summed
summed n = Some (as_milligrams n)

abbrev pub onto : ℕ → Summed → Summed
onto s (Some t) = summed (s + t.0)
onto s None = None

pub onto_none : (t : Summed) → t ≡ onto 0 t
onto_none (Some t) = ap summed (omega arith)
onto_none None = refl

onto_plus : (s : ℕ) (mg : Milligrams) (t : Summed) → onto s (plus (Ok mg) t) ≡ onto (s + mg.0) t
onto_plus s mg (Some t) = ap summed (sym (add_assoc s mg.0 t.0))
onto_plus s mg None = refl

-- ---- one turn of the loop that adds them

module _ (ms : List Weighed) (s i : ℕ) (e : total ms ≡ onto s (total (drop i ms))) where
  pub at_end : length ms ≤ i → summed s ≡ total ms
  unfolding total
  at_end h = sym (e ∙ rw (drop_of_length-le ms h) (ap summed (omega arith)))

  module _ (d : Weighed) (h : i < length ms) where
    pub one_refused : (n : Refusal) → get_or ms i d ≡ Err n → None ≡ total ms
    unfolding total
    one_refused n r = sym (e ∙ rw (drop-cons ms i d h, r))

    pub one_more : (mg : Milligrams) → get_or ms i d ≡ Ok mg → total ms ≡ onto (s + mg.0) (total (drop (i + 1) ms))
    unfolding total
    one_more mg r = e ∙ rw (drop-cons ms i d h, r, add-one) (onto_plus s mg (total (drop (suc i) ms)))

pub ruleset turns = (onto_none, at_end, one_refused, one_more)
