-- A text that was cut is had back, and what is printed as one line is cut off as one. Assumes nothing.
use Rattle.std.specs.Prelude.{Some, None}
use mathlib.Core.Path.{◌≡◌, refl, sym, ap, ◌∙◌}
use mathlib.Core.Bool.{Bool, true, false, cond}
use mathlib.Core.List.{List, [], ◌∷◌, ◌++◌}
use Prim.Native.Nat.{ℕ, zero, suc, ◌+◌, ◌/◌, ◌%◌, ◌≤◌}
use native.Mathlib.Decide.{dec_lt}
use native.Mathlib.Omega.{arith}
use lib.Dec.{eqb}
use borrow.Author.Tests.{ne_eqb}
use Rattle.sheet_text.specs.Decimal.{decimal}
use Rattle.sheet_text.specs.Field.{field_text, Field}
use Rattle.sheet_text.proofs.Decimals.{decimal_small, decimal_large}
use Rattle.sheet_line.specs.Cylinder.{kind_letter, cylinder_text}
use Rattle.sheet_line.specs.declared.cylinder.Kind.{Kind}
use Rattle.sheet_line.specs.declared.cylinder.Kind.TheVariants.{Pressure, Density, Weighed}
use Rattle.sheet_line.specs.declared.cylinder.Cylinder.{Cylinder}
use Rattle.desk_form.specs.Wrong.{onto, cut, lines_of}

-- ---- the lines of a text, one after the other, are the text

pub together : List (List ℕ) → List ℕ
together [] = []
together (l ∷ ls) = l ++ together ls

onto_together : (b : ℕ) (ls : List (List ℕ)) → together (onto b ls) ≡ b ∷ together ls
unfolding together
onto_together b [] = refl
onto_together b (l ∷ ls) = refl

cut_together_by : (b : ℕ) (rest : List ℕ) (t : Bool) → together (cut rest) ≡ rest → together (cond t ((b ∷ []) ∷ cut rest) (onto b (cut rest))) ≡ b ∷ rest
unfolding together
cut_together_by b rest true e = ap (λ (l : List ℕ). b ∷ l) e
cut_together_by b rest false e = onto_together b (cut rest) ∙ ap (λ (l : List ℕ). b ∷ l) e

pub cut_together : (u : List ℕ) → together (cut u) ≡ u
unfolding cut together
cut_together [] = refl
cut_together (b ∷ rest) = cut_together_by b rest (eqb b 10) (cut_together rest)

pub lines_together : (u : List ℕ) → together (lines_of u) ≡ u
unfolding together
lines_together [] = refl
lines_together (b ∷ rest) = cut_together (b ∷ rest)

pub first_of : (l : List ℕ) (ls : List (List ℕ)) (u : List ℕ) → cut u ≡ l ∷ ls → u ≡ l ++ together ls
unfolding together
first_of l ls u e = sym (cut_together u) ∙ ap together e

-- ---- texts that are one line, whatever stands behind

abbrev pub OneLine : List ℕ → Type 0
OneLine t = (rest : List ℕ) → cut (t ++ rest) ≡ t ∷ cut rest

line_end : OneLine (10 ∷ [])
unfolding cut
line_end rest = refl

byte_line : (b : ℕ) (t : List ℕ) → eqb b 10 ≡ false → OneLine t → OneLine (b ∷ t)
unfolding cut
byte_line b t e o rest = rw (e, o rest)

-- no byte of it is LF
abbrev Free : List ℕ → Type 0
Free [] = Unit {0}
Free (b ∷ l) = (eqb b 10 ≡ false) × Free l

free_line : (l t : List ℕ) → Free l → OneLine t → OneLine (l ++ t)
free_line [] t f o = o
free_line (b ∷ l) t f o = byte_line b (l ++ t) f.0 (free_line l t f.1 o)

free_both : (k l : List ℕ) → Free k → Free l → Free (k ++ l)
free_both [] l f g = g
free_both (b ∷ k) l f g = (f.0, free_both k l f.1 g)

a_digit : (n : ℕ) → Free ((48 + n % 10) ∷ [])
a_digit n = (ne_eqb (48 + n % 10) 10 (omega arith), tt)

decimal_free : (k n : ℕ) → n ≤ k → Free (decimal n)
decimal_free zero n h = rw (decimal_small n (omega arith)) (a_digit n)
decimal_free (suc k) n h =
    elim (dec_lt n 10) [
      | yes s ↦ rw (decimal_small n s) (a_digit n)
      | no l ↦ rw (decimal_large n (omega arith)) (free_both (decimal (n / 10)) _ (decimal_free k (n / 10) (omega arith)) (a_digit n))
    ]

field_free : (f : Field) → Free (field_text f)
unfolding field_text
field_free None = (refl, tt)
field_free (Some n) = decimal_free n n (omega arith)

-- a field and then a line
field_line : (f : Field) (t : List ℕ) → OneLine t → OneLine (field_text f ++ t)
field_line f t = free_line (field_text f) t (field_free f)

kind_line : (k : Kind) (t : List ℕ) → OneLine t → OneLine (kind_letter k ∷ t)
kind_line Pressure t = byte_line 80 t refl
kind_line Density t = byte_line 68 t refl
kind_line Weighed t = byte_line 87 t refl

-- the need's line and a cylinder's
pub need_line : (f : Field) → OneLine (78 ∷ 32 ∷ field_text f ++ (10 ∷ []))
need_line f = byte_line 78 _ refl (byte_line 32 _ refl (field_line f _ line_end))

pub cylinder_line : (c : Cylinder) → OneLine (cylinder_text c)
unfolding cylinder_text
cylinder_line c =
    byte_line 67 _ refl (byte_line 32 _ refl (field_line c.number _
    (byte_line 32 _ refl (field_line c.temperature _
    (byte_line 32 _ refl (kind_line c.kind _ (byte_line 32 _ refl (field_line c.value _
    (byte_line 32 _ refl (field_line c.volume _ line_end))))))))))
