-- 004, section 6.1: the ideal part's τφ°_τ and τ²φ°_ττ, in the order of docs/ARRANGEMENT.md, section 8. Definitions only.
use mathlib.Core.List.{List, [], ◌∷◌, foldl}
use Rattle.std.specs.Float.Ieee as Ieee
use Rattle.std.specs.Prelude.{Float}
use Rattle.num_working.specs.Number.{decimal}
use Rattle.num_formulas.specs.Formula.{Formula, one, num, ◌⊕◌, ◌⊖◌, ◌⊗◌, ◌⊘◌, minus, e^, value, work}
use Rattle.eos_ideal.specs.declared.Row.{Row}
use Rattle.eos_ideal.specs.declared.Table.{Table}
use Rattle.eos_ideal.specs.declared.Sums.{Sums}
use Rattle.eos_ideal.specs.declared.Ideal.{Ideal}

-- Table 27, as printed, from i = 2: a₁ is for the entropy only
unfoldable pub table27 : Table
table27 = record {
  a2 = Ieee.neg (decimal 370454304 8);
  a3 = decimal 250000000 8;
  rows =
      record { a = decimal 199427042 8; theta = decimal 315163 5 }
      ∷ record { a = decimal 62105248 8; theta = decimal 611190 5 }
      ∷ record { a = decimal 41195293 8; theta = decimal 677708 5 }
      ∷ record { a = decimal 104028922 8; theta = decimal 1132384 5 }
      ∷ record { a = decimal 8327678 8; theta = decimal 2708792 5 }
      ∷ [];
}

-- the rows of the sums, i = 4 to 8
abbrev pub rows : List Row
rows = table27.rows

-- Eᵢ = e^(−θᵢτ), and oᵢ = 1 − Eᵢ
abbrev pub E : Float → Row → Formula
E τ i = e^ (minus (num i.theta ⊗ num τ))

abbrev pub o : Float → Row → Formula
o τ i = one ⊖ E τ i

-- Table 28, a row of φ°_τ: aθ[(1 − e^(−θτ))⁻¹ − 1]
unfoldable pub row_τ : Float → Row → Formula
row_τ τ i = num i.a ⊗ num i.theta ⊗ (one ⊘ o τ i ⊖ one)

-- Table 28, a row of φ°_ττ: aθ²e^(−θτ)(1 − e^(−θτ))⁻²
unfoldable pub row_ττ : Float → Row → Formula
row_ττ τ i = num i.a ⊗ (num i.theta ⊗ num i.theta) ⊗ E τ i ⊘ (o τ i ⊗ o τ i)

-- Table 28, before the rows: a₂ + a₃/τ, and −a₃/τ²
abbrev pub head_τ : Table → Float → Formula
head_τ t τ = num t.a2 ⊕ num t.a3 ⊘ num τ

abbrev pub head_ττ : Table → Float → Formula
head_ττ t τ = minus (num t.a3 ⊘ (num τ ⊗ num τ))

-- φ°_τ adds its rows one by one, φ°_ττ subtracts them
unfoldable pub phi_τ : Float → Formula
phi_τ τ = foldl (λ s i. s ⊕ row_τ τ i) (head_τ table27 τ) rows

unfoldable pub phi_ττ : Float → Formula
phi_ττ τ = foldl (λ s i. s ⊖ row_ττ τ i) (head_ττ table27 τ) rows

-- τφ°_τ and τ²φ°_ττ, as Table 3 needs them
unfoldable pub ideal_part : Float → Ideal
ideal_part τ = record { first = work (num τ ⊗ phi_τ τ); second = work (num τ ⊗ num τ ⊗ phi_ττ τ) }

-- ---- what code inside asks for: the two sums in plain f64
abbrev pub sums : Formula → Formula → Sums
sums first second = record { first = value first; second = value second }
