-- The number of a line's refusal: from 1 to 9, 19 or 23; on its sheet also 30, and that only of a number that stands there twice. Assumes nothing.
use Rattle.refusal.specs.Refused.{refused}
use Rattle.std.specs.Prelude.{Some}
use Prim.Native.Nat.{ℕ, ◌≤◌, ◌<◌}
use mathlib.Core.Path.{◌≡◌, refl, sym, subst}
use mathlib.Core.List.{List, map}
use native.Mathlib.Omega.{arith}
use lib.ListN.{length}
use lib.Ieee.{Float, binary64, div}
use Rattle.num_working.specs.Number.{whole}
use Rattle.sheet_text.specs.Field.{Field}
use Rattle.sheet_line.specs.Line.{line_of}
use Rattle.sheet_line.specs.declared.cylinder.Kind.{Kind}
use Rattle.sheet_line.specs.declared.cylinder.Cylinder.{Cylinder}
use Rattle.sheet_standing.specs.Standing.{first_with}
use Rattle.sheet_standing.proofs.Firsts.{First, first_of_again}
use Rattle.door_limits.specs.declared.Limits.{Limits}
use Rattle.door_answers.specs.Answer.{Answer}
use Rattle.demands.specs.Demands.{Exactly, Numbered, to_9, is_19, Settled, given, not_given}
use Rattle.demands.specs.Lines as lines
use Rattle.demands.specs.Lines.{Dashed, Asked, by_pressure, by_density, RefusesLine, no_volume, no_volume_weighed, no_mass, by_door, no_product}
use Rattle.demands.specs.Twice.{at, Again, came, RefusesAt, lacks, is_again, alone, NumberedAlone, as_door, is_23, NumberedAt, as_alone, is_30}
use Rattle.demands.proofs.Checks.{same_number}
use Rattle.demands.proofs.Demands.{pressure_settles, density_settles}
use Rattle.demands.proofs.Twice.{stands_again, refusals_at}

-- ---- of the line alone

asked_settles : {L : Limits} {t : Float} {k : Kind} {f : Field} {a : Answer} → Asked L t k f a → Settled a
asked_settles {L} {t} (by_pressure n) = pressure_settles L t (whole n)
asked_settles {L} {t} (by_density n) = density_settles L t (div binary64 (whole n) (whole 1000))

from_1 : {n : ℕ} → Numbered 3 n → Numbered 1 n
from_1 (to_9 n h k) = to_9 n (omega arith) k
from_1 is_19 = is_19

door_number : {n : ℕ} → Settled (refused n) → Numbered 1 n
door_number (given x e) = let z : ◌≡◌ {A = ℕ} 0 1 = cc in absurd (omega arith)
door_number {n} (not_given m e k) = let z : m ≡ n = same_number (sym e) in subst (Numbered 1) z (from_1 k)

one_to_9 : (n : ℕ) → 1 ≤ n → n ≤ 9 → NumberedAlone n
one_to_9 n h k = as_door (to_9 n h k)

-- a line is refused by a number from 1 to 9, by 19 or by 23
pub line_number : {L : Limits} {c : Cylinder} {n : ℕ} → RefusesLine L c n → NumberedAlone n
line_number (lines.blank d) = one_to_9 1 (omega arith) (omega arith)
line_number (no_volume f r) = one_to_9 2 (omega arith) (omega arith)
line_number (no_volume_weighed f r) = one_to_9 2 (omega arith) (omega arith)
line_number (no_mass f r m) = is_23
line_number (by_door f r) = as_door (door_number (asked_settles f.asked))
line_number (no_product f r e) = one_to_9 7 (omega arith) (omega arith)

-- ---- on its sheet

pub number_at : {L : Limits} {cs : List Cylinder} {i n : ℕ} → RefusesAt L cs i n → NumberedAt n
number_at (lacks d) = as_alone (one_to_9 1 (omega arith) (omega arith))
number_at (is_again d a) = is_30
number_at (alone d a r) = as_alone (line_number r)

not_30 : {n : ℕ} → NumberedAlone n → n ≡ 30 → ⊥
not_30 (as_door (to_9 n h k)) e = omega (arith, e)
not_30 (as_door is_19) e = omega (arith, e)
not_30 is_23 e = omega (arith, e)

-- THE LINE AT i IS REFUSED BY 30 exactly when no field that it requires is blank and some line before it has its number
pub refused_by_30 : (L : Limits) (cs : List Cylinder) (i : ℕ) → i < length cs
    → Exactly (came L cs i ≡ refused 30) ((Dashed (at cs i) → ⊥) × Again cs i)
refused_by_30 L cs i h = (λ e. go 30 refl ((refusals_at L cs i h 30).0 e), λ p. (refusals_at L cs i h 30).1 (is_again p.0 p.1))
  where
    go : (n : ℕ) → n ≡ 30 → RefusesAt L cs i n → (Dashed (at cs i) → ⊥) × Again cs i
    go n e (lacks d) = absurd (omega (arith, e))
    go n e (is_again d a) = (d, a)
    go n e (alone d a r) = absurd (not_30 (line_number r) e)

-- and then the line that is named first has that number, stands before it, and none before that one has the number
pub first_named : (L : Limits) (cs : List Cylinder) (i : ℕ) → i < length cs → came L cs i ≡ refused 30
    → (n : ℕ) × ((at cs i).number ≡ Some n) × First (map line_of cs) i n (first_with 1 (map line_of cs) n)
first_named L cs i h e =
    let p = (refused_by_30 L cs i h).0 e in
    first_of_again (map line_of cs) i (line_of (at cs i)) (stands_again cs i p.0 p.1)
