-- A line of a text, by where it begins and where it ends; and of lines that were joined, each is had back. Assumes nothing.
use mathlib.Core.Path.{◌≡◌, refl, ap, ◌∙◌}
use mathlib.Core.Bool.{Bool, true, false, ◌&&◌, not, cond}
use mathlib.Core.List.{List, [], ◌∷◌, ◌++◌}
use Prim.Native.Nat.{ℕ, zero, suc, ◌+◌, ◌-◌, ◌≤◌, ◌<◌}
use native.Mathlib.Omega.{arith}
use borrow.Author.Tests.{ne_eqb, eq-eqb}
use lib.Dec.{T, eqb}
use lib.ListN.{length, get_or, take, drop, length-drop, drop_of_length-le}
use lib.Seq.{take_all}
use Rattle.sheet_text.proofs.Parses.{front}
use Rattle.std.specs.Prelude.{Option}
use Rattle.std.specs.Option.{unwrap_or}
use Rattle.std.specs.List.{before_first, position, position_or_len}
use Rattle.std.proofs.lemmas.Grind.{common_steps}
use Rattle.std.proofs.lemmas.List.Sums.{prefix_len-le-length}
use Rattle.desk_words.specs.Words.{behind_lines, up_to_line}

-- ---- where line n begins: at place i there are `left` line ends left to pass

abbrev pub Left : List ℕ → ℕ → ℕ → ℕ → Type 0
Left s n left i = behind_lines left (drop i s) ≡ behind_lines n s

pub found : (s : List ℕ) (n left i : ℕ) → Left s n left i → i < length s → left ≡ 0 → take (length s - i) (drop i s) ≡ behind_lines n s
unfolding behind_lines
found s n left i l h e =
    let a : take (length s - i) (drop i s) ≡ drop i s = take_all _ _ (omega (arith, length-drop i s)) in
    a ∙ front s i h ∙ (rw (e, front s i h) at l)

pub nothing_left : (s : List ℕ) (n left i : ℕ) → Left s n left i → length s ≤ i → ◌≡◌ {A = List ℕ} [] (behind_lines n s)
unfolding behind_lines
nothing_left s n left i l h = rw (drop_of_length-le s h) at l

-- one byte more, a line's end or another
pub line_passed : (s : List ℕ) (n left i : ℕ) → Left s n left i → i < length s → 0 < left → get_or s i 0 ≡ 10 → Left s n (left - 1) (i + 1)
unfolding behind_lines
line_passed s n zero i l h g e = absurd (omega (arith, g))
line_passed s n (suc k) i l h g e =
    let z : suc k - 1 ≡ k = omega arith in
    rw z (rw (front s i h, eq-eqb _ _ e) at l)

pub byte_passed : (s : List ℕ) (n left i : ℕ) → Left s n left i → i < length s → 0 < left → (get_or s i 0 ≡ 10 → ⊥) → Left s n left (i + 1)
unfolding behind_lines
byte_passed s n zero i l h g e = absurd (omega (arith, g))
byte_passed s n (suc k) i l h g e = rw (front s i h, ne_eqb _ _ e) at l

-- ---- where a line ends

line_by : (b : ℕ) (s : List ℕ) (t : Bool) → eqb b 10 ≡ t → before_first (λ b. eqb b 10) s ≡ up_to_line s
    → before_first (λ b. eqb b 10) (b ∷ s) ≡ cond t [] (b ∷ up_to_line s)
line_by b s true e h = rw e refl
line_by b s false e h =
    let z : 1 + position_or_len (λ b. eqb b 10) s ≡ suc (position_or_len (λ b. eqb b 10) s) = omega arith in
    rw (e, z) (ap (λ (r : List ℕ). b ∷ r) h)

line_is : (s : List ℕ) → before_first (λ b. eqb b 10) s ≡ up_to_line s
unfolding up_to_line
line_is [] = refl
line_is (b ∷ s) = line_by b s (eqb b 10) refl (line_is s)

placed : (p : ℕ → Bool) (s : List ℕ) → unwrap_or (position p s) (length s) ≡ position_or_len p s
placed p s = grind (arith, common_steps, prefix_len-le-length)

pub first_line : (s : List ℕ) (o : Option ℕ) (n : ℕ) → o ≡ position (λ b. eqb b 10) s → n ≡ unwrap_or o (length s) → take n s ≡ up_to_line s
first_line s o n e f = rw (f, e, placed) (line_is s)

-- ---- lines that are joined into a text: each with a line's end behind it, and with none in it

unfoldable pub joined : List (List ℕ) → List ℕ
joined [] = []
joined (l ∷ ls) = l ++ (10 ∷ joined ls)

unfoldable pub plain : List ℕ → Bool
plain [] = true
plain (b ∷ s) = not (eqb b 10) && plain s

unfoldable pub all_plain : List (List ℕ) → Bool
all_plain [] = true
all_plain (l ∷ ls) = plain l && all_plain ls

no_end : (b : ℕ) (l : List ℕ) (t : Bool) → eqb b 10 ≡ t → T (not t && plain l) → (eqb b 10 ≡ false) × T (plain l)
no_end b l true e h = absurd h
no_end b l false e h = (e, h)

both : (a b : Bool) → T (a && b) → T a × T b
both true b h = (tt, h)
both false b h = absurd h

module _ (rest : List ℕ) where
  line_behind : (n : ℕ) (l : List ℕ) → T (plain l) → behind_lines (suc n) (l ++ (10 ∷ rest)) ≡ behind_lines n rest
  unfolding behind_lines plain
  line_behind n [] h = refl
  line_behind n (b ∷ l) h = let p = no_end b l (eqb b 10) refl h in rw p.0 (line_behind n l p.1)

  line_up_to : (l : List ℕ) → T (plain l) → up_to_line (l ++ (10 ∷ rest)) ≡ l
  unfolding up_to_line plain
  line_up_to [] h = refl
  line_up_to (b ∷ l) h = let p = no_end b l (eqb b 10) refl h in rw p.0 (ap (λ (r : List ℕ). b ∷ r) (line_up_to l p.1))

behind_none : (s : List ℕ) → behind_lines 0 s ≡ s
unfolding behind_lines
behind_none [] = refl
behind_none (b ∷ s) = refl

-- EACH LINE IS HAD BACK, and past the last there is none
pub had_back : (ls : List (List ℕ)) → T (all_plain ls) → (n : ℕ) → up_to_line (behind_lines n (joined ls)) ≡ get_or ls n []
unfolding behind_lines up_to_line joined all_plain
had_back [] h n = refl
had_back (l ∷ ls) h zero = rw (behind_none (l ++ (10 ∷ joined ls))) (line_up_to (joined ls) l (both (plain l) (all_plain ls) h).0)
had_back (l ∷ ls) h (suc n) = let p = both (plain l) (all_plain ls) h in rw (line_behind (joined ls) n l p.0) (had_back ls p.1 n)
