-- RULES 6.1, 6.2 and 6.3: the form of a text, how a sheet is printed and how it is read. Definitions only.
use Rattle.std.specs.Prelude.{ℕ, zero, suc, cond, List, [], ◌∷◌, ◌++◌, leb, length, Option, Some, None, option_map}
use Rattle.sheet_text.specs.Parse.{and_then}
use Rattle.sheet_text.specs.Field.{Small, field_text, field_after, Field}
use Rattle.sheet_line.specs.Cylinder.{AllSmall, cylinder_text, cylinder}
use Rattle.sheet_line.specs.declared.cylinder.Cylinder.{Cylinder}

-- a bank of cylinders as its sheet has it, with the agent that it needs
pub record Bank : Type 0 where
  pub need : Field
  pub cylinders : List Cylinder

-- ---- as text: `N` is 78, a space 32, LF 10

unfoldable pub cylinders_text : List Cylinder → List ℕ
cylinders_text [] = []
cylinders_text (c ∷ cs) = cylinder_text c ++ cylinders_text cs

-- the line of the need, and then one for each cylinder
unfoldable pub text : Bank → List ℕ
text b = 78 ∷ 32 ∷ field_text b.need ++ (10 ∷ cylinders_text b.cylinders)

abbrev pub EachSmall : List Cylinder → Type 0
EachSmall [] = Unit {0}
EachSmall (c ∷ cs) = AllSmall c × EachSmall cs

-- each number of 10 digits at most
pub record Fair (b : Bank) : Type 0 where
  pub need : Small b.need
  pub cylinders : EachSmall b.cylinders

-- ---- from text

-- at the end of the text there are no more cylinders; elsewhere there are those of o
abbrev pub unless_end : List ℕ → Option (List Cylinder) → Option (List Cylinder)
unless_end [] o = Some []
unless_end (b ∷ rest) o = o

-- one cylinder's line after the other, up to the end of the text; the first argument only bounds the recursion
unfoldable pub cylinders : ℕ → List ℕ → Option (List Cylinder)
cylinders zero s = unless_end s None
cylinders (suc k) s = unless_end s (and_then (cylinder s) (λ c rest. option_map (λ cs. c ∷ cs) (cylinders k rest)))

-- with the need that stands before them
abbrev pub with_need : Field → Option (List Cylinder) → Option Bank
with_need need = option_map (λ cs. record { need = need; cylinders = cs })

-- the need, and then the cylinders
unfoldable pub bank : ℕ → List ℕ → Option Bank
bank k t = and_then (field_after 78 10 t) (λ need rest. with_need need (cylinders k rest))

-- 65,536 bytes are the most that a text in the form has
unfoldable pub in_form : List ℕ → Option Bank
in_form t = cond (leb (length t) 65536) (bank (length t) t) None
