-- Rows 40 to 42, the non-analytic ones: what their terms and brackets are made of (docs/ARRANGEMENT.md, section 6; 004, Tables 31 and 32). Definitions only.
use Rattle.std.specs.Prelude.{Bool, cond, Float}
use Rattle.num_roots.specs.declared.root.Exponent.{Exponent}
use Rattle.num_formulas.specs.Formula.{Formula, num, one, ◌⊕◌, ◌⊖◌, ◌⊗◌, ◌⊘◌, ◌^^◌, minus, size, e^, root, value}
use Rattle.eos_constants.specs.Exponent.{worked_as}
use Rattle.eos_constants.specs.declared.Printed.TheVariants.{Of10_6}
use Rattle.eos_rows.specs.Row.{row40, row41, row42}
use Rattle.eos_rows.specs.declared.NonAnalytic.{NonAnalytic}
use Rattle.eos_isotherm.specs.declared.Isotherm.{Isotherm}
use Rattle.eos_non_analytic.specs.declared.parts.Near.{Near}
use Rattle.eos_non_analytic.specs.declared.parts.Edge.{Edge}
use Rattle.eos_non_analytic.specs.declared.parts.Shared.{Shared}
use Rattle.eos_non_analytic.specs.declared.parts.Critical.{Critical}

-- ---- what the three rows share: e = δ − 1, X = e·e, r = root 5/3 of X, v = root 2/3 of X
pub record Around : Type 0 where
  pub e : Formula
  pub X : Formula
  pub r : Formula
  pub v : Formula

abbrev pub two_thirds : Exponent
two_thirds = record { m = 2; k = 3 }

abbrev pub around : Float → Around
around delta =
    let e = num delta ⊖ one in
    let X = e ⊗ e in
    record { e = e; X = X; r = root (worked_as Of10_6) X; v = root two_thirds X }

-- Xᵃ from the cube of X and Xᵃ⁻¹ from its square: times |e| where a is 3.5 (RULES 4.7), and as it is where a is 3
abbrev pub raised : Bool → Formula → Formula → Formula
raised half e power = cond half (power ⊗ size e) power

-- ---- θ, Δ, P₀ = Δᵇ, P₁ = P₀/Δ and Xᵃ⁻¹ of a row
pub record Parts : Type 0 where
  pub θ : Formula
  pub Δ : Formula
  pub P₀ : Formula
  pub P₁ : Formula
  pub low : Formula

abbrev pub parts : NonAnalytic → Around → Float → Parts
parts row n tau =
    let θ = (one ⊖ num tau) ⊕ num row.ka ⊗ n.r in
    let Δ = θ ⊗ θ ⊕ num row.kb ⊗ raised row.half n.e (n.X ^^ 3) in
    let P₀ = root (worked_as row.root) Δ in
    record { θ = θ; Δ = Δ; P₀ = P₀; P₁ = P₀ ⊘ Δ; low = raised row.half n.e (n.X ^^ 2) }

-- Ψ = e^(−(C·X + z)), with z for D·(τ−1)²
abbrev pub psi_sum : NonAnalytic → Formula → Formula → Formula
psi_sum row X z = num row.kc ⊗ X ⊕ z

abbrev pub psi : NonAnalytic → Around → Float → Formula
psi row n z = e^ (minus (psi_sum row n.X (num z)))

-- ---- what code inside asks for: what is worked once for a state, in plain f64
abbrev pub near : Around → Near
near n = record { e = value n.e; x = value n.X; r = value n.r; v = value n.v }

abbrev pub edge : Parts → Edge
edge g = record { theta = value g.θ; delta = value g.Δ; p0 = value g.P₀; p1 = value g.P₁; low = value g.low }

unfoldable pub critical : Isotherm → Float → Critical
critical iso delta =
    let n = around delta in
    let of : NonAnalytic → Edge = λ row. edge (parts row n iso.tau) in
    record { near = near n; first = of row40; second = of row41; third = of row42 }

-- ---- what code inside asks for: the same by the numbers that it holds, and what rows 40 and 41 share
abbrev pub held_near : Near → Around
held_near n = record { e = num n.e; X = num n.x; r = num n.r; v = num n.v }

unfoldable pub critical_by : Near → Float → Critical
critical_by n tau =
    let of : NonAnalytic → Edge = λ row. edge (parts row (held_near n) tau) in
    record { near = n; first = of row40; second = of row41; third = of row42 }

abbrev pub held_edge : Edge → Parts
held_edge g = record { θ = num g.theta; Δ = num g.delta; P₀ = num g.p0; P₁ = num g.p1; low = num g.low }

abbrev pub shared : Parts → Shared
shared g = record { theta = value g.θ; delta = value g.Δ; low = value g.low }
