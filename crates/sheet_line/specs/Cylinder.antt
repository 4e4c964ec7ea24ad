-- RULES 6.1 and 6.3: a cylinder's line as it is written. Definitions only.
use Rattle.std.specs.Prelude.{ℕ, cond, List, [], ◌∷◌, ◌++◌, eqb, Some, None}
use Rattle.sheet_text.specs.Parse.{Parser, ◌>>=◌, ◌>>◌, give, byte}
use Rattle.sheet_text.specs.Field.{Small, field_text, field_to, field_after, Field}
use Rattle.sheet_line.specs.declared.cylinder.Kind.{Kind}
use Rattle.sheet_line.specs.declared.cylinder.Kind.TheVariants.{Pressure, Density, Weighed}
use Rattle.sheet_line.specs.declared.cylinder.Cylinder.{Cylinder}

-- ---- as text: `C` is 67, a space 32, LF 10

-- `P`, `D` or `W`
abbrev pub kind_letter : Kind → ℕ
kind_letter Pressure = 80
kind_letter Density = 68
kind_letter Weighed = 87

unfoldable pub cylinder_text : Cylinder → List ℕ
cylinder_text c =
    67 ∷ 32 ∷ field_text c.number ++ (32 ∷ field_text c.temperature ++ (32 ∷ kind_letter c.kind ∷ 32 ∷ field_text c.value ++ (32 ∷ field_text c.volume ++ (10 ∷ []))))

-- each number of 10 digits at most
pub record AllSmall (c : Cylinder) : Type 0 where
  pub number : Small c.number
  pub temperature : Small c.temperature
  pub value : Small c.value
  pub volume : Small c.volume

-- ---- from text

-- `P`, `D` or `W`
unfoldable pub kind : Parser Kind
kind [] = None
kind (b ∷ rest) =
    cond (eqb b 80) (Some (Pressure, rest))
    (cond (eqb b 68) (Some (Density, rest))
    (cond (eqb b 87) (Some (Weighed, rest)) None))

-- `P`, `D` or `W`, the value and the volume, after a number and a temperature
unfoldable pub reading : Field → Field → Parser Cylinder
reading number temperature = do
  k ← kind
  byte 32
  value ← field_to 32
  volume ← field_to 10
  give (record { number = number; temperature = temperature; kind = k; value = value; volume = volume })

-- `C`, the cylinder number and the temperature, and then the rest
unfoldable pub cylinder : Parser Cylinder
cylinder = do
  number ← field_after 67 32
  temperature ← field_to 32
  reading number temperature
