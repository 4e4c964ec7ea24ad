-- The brackets of a row by its numbers (docs/ARRANGEMENT.md, sections 3 to 5; 004, Table 32), which name no table and no row of one. Definitions only.
use Rattle.num_formulas.specs.Formula.{Formula, one, two, ◌⊖◌, ◌⊗◌, ◌^^◌}
use Rattle.eos_brackets.specs.Derivative.{Derivative, columns}

-- ---- of a term (n·δᵈ)·τᵗ
unfoldable pub polynomial : Formula → Formula → Derivative → Formula
polynomial d t = columns d (d ⊗ (d ⊖ one)) t (t ⊗ (t ⊖ one)) (t ⊗ d)

-- ---- of ((n·δᵈ)·τᵗ)·e^(−δᶜ), with z for δᶜ: g = c·δᶜ, b = d − g, which is the first of them
abbrev pub first : Formula → Formula → Formula → Formula
first d c z = d ⊖ c ⊗ z

unfoldable pub exponential : Formula → Formula → Formula → Formula → Derivative → Formula
exponential d t c z =
    let g = c ⊗ z in
    let b = first d c z in
    columns b (b ⊗ (d ⊖ one ⊖ g) ⊖ c ⊗ g) t (t ⊗ (t ⊖ one)) (t ⊗ b)

-- ---- of ((n·δᵈ)·τᵗ)·e^(−(α·(δ−ε)² + β·(τ−γ)²)): b = d − ((2α)·δ)·(δ−ε), s = t − ((2β)·τ)·(τ−γ)
module _ (d t α β γ ε δ τ : Formula) where
  unfoldable pub gaussian : Derivative → Formula
  gaussian =
      let 2α = two ⊗ α in
      let 2β = two ⊗ β in
      let b = d ⊖ 2α ⊗ δ ⊗ (δ ⊖ ε) in
      let s = t ⊖ 2β ⊗ τ ⊗ (τ ⊖ γ) in
      columns b (b ⊗ b ⊖ d ⊖ 2α ⊗ δ ^^ 2) s (s ⊗ s ⊖ t ⊖ 2β ⊗ τ ^^ 2) (b ⊗ s)
