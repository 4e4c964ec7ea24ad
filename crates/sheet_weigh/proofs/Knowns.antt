-- The cylinder numbers that were read so far, in an array of 32. Assumes nothing.
use Rattle.std.specs.Prelude.{Float, Some, None}
use mathlib.Core.Path.{◌≡◌, refl, sym, ◌∙◌}
use mathlib.Core.List.{List, [], ◌∷◌, ◌++◌, append-nil}
use Prim.Native.Nat.{ℕ, ◌+◌, ◌≤◌, ◌<◌}
use native.Mathlib.Numerals.{add-one}
use native.Mathlib.Omega.{arith}
use lib.ListN.{length, take, get_or, set, length-append, length-take}
use lib.Seq.{take-suc}
use Rattle.sheet_line.specs.declared.line.Line.{Line}
use Rattle.sheet_read.specs.Padded.{padded}
use Rattle.sheet_read.proofs.Paddings.{padded_length, padded_set, taken_back}
use Rattle.sheet_standing.specs.Standing.{numbers}
use Rattle.sheet_standing.proofs.Standings.{numbers_joined, numbers_most}

-- those of the first i lines, and how many there are
pub record Known (ls : List (Line Float)) (i : ℕ) (ns : List ℕ) (known : ℕ) : Type 0 where
  pub all : ns ≡ padded 0 32 (numbers (take i ls))
  pub count : known ≡ length (numbers (take i ls))

pub none_known : (ls : List (Line Float)) → Known ls 0 (padded 0 32 []) 0
unfolding numbers
none_known ls = record { all = refl; count = refl }

module _ {ls : List (Line Float)} {i : ℕ} {ns : List ℕ} {known : ℕ} (k : Known ls i ns known) where
  pub known_most : known ≤ i
  known_most = omega (arith, k.count, numbers_most (take i ls), length-take i ls)

  pub known_room : length ns ≡ 32
  known_room = rw k.all (padded_length 0 32 (numbers (take i ls)))

  pub known_taken : i ≤ 32 → take known ns ≡ numbers (take i ls)
  known_taken h = rw (k.all, k.count) (taken_back 0 32 (numbers (take i ls)) (omega (arith, known_most, k.count)))

  -- ---- one line more

  module _ (d : Line Float) (h : i < length ls) where
    more : numbers (take (i + 1) ls) ≡ numbers (take i ls) ++ numbers (get_or ls i d ∷ [])
    more = rw (add-one, take-suc ls i d h) (numbers_joined (take i ls) (get_or ls i d ∷ []))

    pub one_blank : (get_or ls i d).number ≡ None → Known ls (i + 1) ns known
    unfolding numbers
    one_blank e =
        let same : numbers (take (i + 1) ls) ≡ numbers (take i ls) = more ∙ rw e (append-nil (numbers (take i ls))) in
        record { all = rw same k.all; count = rw same k.count }

    pub one_known : (x : ℕ) → i < 32 → (get_or ls i d).number ≡ Some x → Known ls (i + 1) (set ns known x) (known + 1)
    unfolding numbers
    one_known x room e =
        let joined : numbers (take (i + 1) ls) ≡ numbers (take i ls) ++ (x ∷ []) = more ∙ rw e refl in
        record {
          all = rw (joined, k.all, k.count) (padded_set 0 32 (numbers (take i ls)) x (omega (arith, known_most, k.count)));
          count = rw (joined, k.count) (sym (length-append (numbers (take i ls)) (x ∷ [])));
        }
