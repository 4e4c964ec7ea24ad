-- The point by the twelve exponentials of its arguments, and the rows by what they say, where it is told. Assumes nothing.
use mathlib.Core.Path.{◌≡◌, ap, ◌∙◌}
use mathlib.Core.Bool.{cond}
use Rattle.eos_terms.specs.Term.{point}
use Rattle.eos_terms.specs.Fallen.{fallen_terms, fallen_rows, at_density}
use Rattle.eos_terms.proofs.Counts.{counted}
use Rattle.eos_terms.proofs.Points.{point_is}
use Rattle.eos_terms.proofs.term.at_density.Goals as goal
use Rattle.eos_terms.proofs.term.at_density.Goals.{then-told, else-told}

pub returns : goal.returns
unfolding at_density
returns c =
    let a = c.args in
    let placed : c.point_by.result ≡ point a.iso a.delta =
    c.point_by.ensures ∙ rw (c.twelve_decays.ensures, c.exponents-x.ensures, c.powers_to_10-powers.ensures) (point_is a.iso a.delta) in
    let count : fallen_rows c.exponents-x.result ≡ fallen_terms a.iso a.delta = ap fallen_rows c.exponents-x.ensures ∙ counted a.iso a.delta in
    let told : c.if-told.fallen ≡ cond a.told (fallen_terms a.iso a.delta) 0 = elim c.if-told.branch [
      | then-told w ↦ rw w.if-told.true (w.fallen-is ∙ w.fallen_rows-fallen.ensures ∙ count)
      | else-told w ↦ rw w.if-told.false w.fallen-is
    ] in
    λ i. record { point = placed i; fallen = told i }
