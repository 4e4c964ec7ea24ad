-- Rows 40 to 42 one after the other, of any one of the five sums: from what code has of them. Assumes nothing.
use mathlib.Core.Path.{◌≡◌, refl, ap}
use mathlib.Core.Bool.{Bool}
use lib.Dec.{T}
use lib.ListN.{get_or}
use lib.Ieee.{Float, nan}
use Rattle.num_working.specs.Working.{checked, ◌+ᵂ◌, Worked}
use Rattle.eos_brackets.specs.Derivative.{Derivative, of, asked}
use Rattle.eos_brackets.specs.declared.Five.{Five}
use Rattle.eos_rows.specs.Row.{non_analytics, row40, row41, row42}
use Rattle.eos_rows.specs.declared.NonAnalytic.{NonAnalytic}
use Rattle.eos_isotherm.specs.declared.Isotherm.{Isotherm}
use Rattle.eos_non_analytic.specs.Parts.{critical}
use Rattle.eos_non_analytic.specs.declared.parts.Critical.{Critical}
use Rattle.eos_non_analytic.specs.Figures.{non_analytic_figure, non_analytic_figures}
use Rattle.eos_non_analytic.proofs.Rows.{Grown, figure_added}
use Rattle.eos_terms.specs.declared.term.Point.{Point}
use Rattle.eos_terms.specs.Term.{point}
use Rattle.eos_residual.specs.Sum.{onto}
use Rattle.eos_terms.proofs.Points.{first_psi, other_psi}

in_turn : (iso : Isotherm) (delta : Float) (k : Derivative) (w x y z : Worked)
    → x ≡ w +ᵂ non_analytic_figure iso delta k row40
    → y ≡ x +ᵂ non_analytic_figure iso delta k row41
    → z ≡ y +ᵂ non_analytic_figure iso delta k row42
    → z ≡ onto w (non_analytic_figures iso delta k)
unfolding onto non_analytic_figures non_analytics
in_turn iso delta k w x y z p q r = rw (r, q, p) refl

module _ (iso : Isotherm) (p : Point) (c : Critical) (e : p ≡ point iso p.delta) (f : c ≡ critical iso p.delta)
    {w x y : NonAnalytic} (g : w ≡ get_or non_analytics 0 row42) (h : x ≡ get_or non_analytics 1 row42) (i : y ≡ get_or non_analytics 2 row42)
    (all : Bool) (k : Derivative) (b : T (asked all k)) where
  abbrev z40 : Float
  z40 = get_or p.psis 0 nan

  abbrev z42 : Float
  z42 = get_or p.psis 1 nan

  pub three_rows : (s s40 s41 s42 : Five)
      → Grown iso p.delta w c.near c.first z40 all s s40
      → Grown iso p.delta x c.near c.second z40 all s40 s41
      → Grown iso p.delta y c.near c.third z42 all s41 s42
      → checked (of s42 k) ≡ onto (checked (of s k)) (non_analytic_figures iso p.delta k)
  unfolding critical non_analytics
  three_rows s s40 s41 s42 l m n =
      let near = ap (λ (q : Critical). q.near) f in
      in_turn iso p.delta k _ _ _ _
      (figure_added iso p.delta w _ _ _ all k row40 s s40 b g near (ap (λ (q : Critical). q.first) f) (first_psi iso p e) l)
      (figure_added iso p.delta x _ _ _ all k row41 s40 s41 b h near (ap (λ (q : Critical). q.second) f) (first_psi iso p e) m)
      (figure_added iso p.delta y _ _ _ all k row42 s41 s42 b i near (ap (λ (q : Critical). q.third) f) (other_psi iso p e) n)
