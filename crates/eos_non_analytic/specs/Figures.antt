-- The figures of rows 40 to 42: the term (n·δ)·Ψ times the bracket of each derivative (docs/ARRANGEMENT.md, section 6; 004, Table 32). Definitions only.
use Rattle.std.specs.Prelude.{List, map, Float}
use Rattle.num_working.specs.Number.{whole, fraction}
use Rattle.num_working.specs.Working.{Worked}
use Rattle.num_formulas.specs.Formula.{Formula, num, one, two, ◌⊕◌, ◌⊖◌, ◌⊗◌, ◌⊘◌, ◌^^◌, minus, work}
use Rattle.eos_brackets.specs.Derivative.{Derivative, columns}
use Rattle.eos_rows.specs.Row.{non_analytics}
use Rattle.eos_rows.specs.declared.NonAnalytic.{NonAnalytic}
use Rattle.eos_isotherm.specs.declared.Isotherm.{Isotherm}
use Rattle.eos_non_analytic.specs.Parts.{Around, Parts, around, parts, psi}

-- the term is (n·δ)·Ψ
abbrev pub non_analytic_term : NonAnalytic → Float → Formula → Formula
non_analytic_term row delta Ψ = num row.n ⊗ num delta ⊗ Ψ

-- ---- the brackets, with ARRANGEMENT's letters
module _ (row : NonAnalytic) (n : Around) (p : Parts) where
  -- m = Δ_δ/e
  abbrev pub m : Formula
  m = num row.ka ⊗ p.θ ⊗ num (fraction 20 3) ⊗ n.v ⊕ two ⊗ num row.kb ⊗ num row.a ⊗ p.low

  -- by m and P₂
  unfoldable pub brackets_by : Formula → Formula → Float → Float → Derivative → Formula
  brackets_by m P₂ delta tau =
      let δ = num delta in
      let τ = num tau in
      let A = num row.ka in
      let B = num row.kb in
      let C = num row.kc in
      let D = num row.kd in
      let a = num row.a in
      let b = num row.b in
      let e = n.e in
      let f = τ ⊖ one in
      let v = n.v in
      let θ = p.θ in
      let P₀ = p.P₀ in
      let P₁ = p.P₁ in
      -- derivatives of Δ
      let Δδ = e ⊗ m in
      let Δδδ =
      m ⊕ num (whole 4) ⊗ B ⊗ a ⊗ (a ⊖ one) ⊗ p.low
      ⊕ two ⊗ (A ⊗ A) ⊗ num (fraction 100 9) ⊗ n.X ⊗ (v ⊗ v)
      ⊕ A ⊗ θ ⊗ num (fraction 40 3) ⊗ num (fraction 2 3) ⊗ v in
      -- of Δᵇ
      let Pδ = b ⊗ P₁ ⊗ Δδ in
      let Pδδ = b ⊗ (P₁ ⊗ Δδδ ⊕ (b ⊖ one) ⊗ P₂ ⊗ (Δδ ⊗ Δδ)) in
      let Pτ = minus (two ⊗ θ ⊗ b ⊗ P₁) in
      let Pττ = two ⊗ b ⊗ P₁ ⊕ num (whole 4) ⊗ (θ ⊗ θ) ⊗ (b ⊗ (b ⊖ one)) ⊗ P₂ in
      let Pδτ = minus (A ⊗ b ⊗ num (fraction 20 3) ⊗ P₁ ⊗ e ⊗ v) ⊖ two ⊗ θ ⊗ (b ⊗ (b ⊖ one)) ⊗ P₂ ⊗ Δδ in
      -- of Ψ, each over Ψ
      let ψδ = minus (two ⊗ C ⊗ e) in
      let ψδδ = (two ⊗ C ⊗ n.X ⊖ one) ⊗ (two ⊗ C) in
      let ψτ = minus (two ⊗ D ⊗ f) in
      let ψττ = (two ⊗ D ⊗ (f ⊗ f) ⊖ one) ⊗ (two ⊗ D) in
      let k = δ ⊗ ψδ in
      let g = one ⊕ k in
      let l = δ ⊗ Pδ in
      columns
      (P₀ ⊗ g ⊕ l)
      (P₀ ⊗ (two ⊗ k ⊕ δ ^^ 2 ⊗ ψδδ) ⊕ two ⊗ l ⊗ g ⊕ δ ^^ 2 ⊗ Pδδ)
      (τ ⊗ (Pτ ⊕ P₀ ⊗ ψτ))
      (τ ^^ 2 ⊗ (Pττ ⊕ two ⊗ Pτ ⊗ ψτ ⊕ P₀ ⊗ ψττ))
      (τ ⊗ (P₀ ⊗ ψτ ⊗ g ⊕ l ⊗ ψτ ⊕ Pτ ⊗ g ⊕ δ ⊗ Pδτ))

  -- P₂ = P₁/Δ, which stands in the second derivatives alone
  abbrev pub non_analytic_bracket : Float → Float → Derivative → Formula
  non_analytic_bracket = brackets_by m (p.P₁ ⊘ p.Δ)

-- ---- the rows' figures
module _ (iso : Isotherm) (delta : Float) (k : Derivative) where
  abbrev pub non_analytic_figure : NonAnalytic → Worked
  non_analytic_figure row =
      let n = around delta in
      work (non_analytic_term row delta (psi row n iso.psi) ⊗ non_analytic_bracket row n (parts row n iso.tau) delta iso.tau k)

  unfoldable pub non_analytic_figures : List Worked
  non_analytic_figures = map non_analytic_figure non_analytics
