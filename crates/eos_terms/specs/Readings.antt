-- Counts at temperatures and densities (docs/ARRANGEMENT.md, section 12): its ten states, and one that no door answers, where every row falls.
-- Definitions only.
use Rattle.std.specs.Prelude.{ℕ, List, [], ◌∷◌, Float}
use Rattle.num_working.specs.Number.{decimal, whole}

pub record Counted : Type 0 where
  pub temperature : Float
  pub density : Float
  pub fallen : ℕ

abbrev pub at : Float → Float → ℕ → Counted
at t rho n = record { temperature = t; density = rho; fallen = n }

unfoldable pub readings : List Counted
readings =
    at (whole 250) (decimal 105886 2) 5
    ∷ at (whole 300) (decimal 12840 2) 0
    ∷ at (whole 400) (decimal 7280 2) 5
    ∷ at (decimal 2176 1) (decimal 118406 2) 16
    ∷ at (whole 217) (decimal 1321 2) 6
    ∷ at (whole 230) (decimal 117207 2) 15
    ∷ at (whole 300) (decimal 95970 2) 4
    ∷ at (decimal 3041282 4) (decimal 94432 2) 3
    ∷ at (whole 350) (decimal 61418 2) 1
    ∷ at (whole 523) (decimal 1012 4) 8
    ∷ at (whole 300) (whole 20000) 35
    ∷ []
