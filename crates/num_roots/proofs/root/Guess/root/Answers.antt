-- Two neighbours between which the power passes t are the one place where it does; where neither pair is, the root is looked for. Assumes nothing.
use Rattle.std.specs.Prelude.{Some}
use mathlib.Core.Path.{sym, ap, ◌∙◌}
use mathlib.Core.Bool.{true≢false}
use native.Mathlib.Omega.{arith}
use lib.Ieee.{binary64, of_bits}
use Rattle.num_working.proofs.Numbers.{no_nan}
use Rattle.num_roots.proofs.Searchables.{at_below, at_here}
use Rattle.num_roots.proofs.root.Guess.root.Goals as goal
use Rattle.num_roots.proofs.root.Guess.root.Goals.{then-under, else-under, then-under-2, else-under-2}

pub float_from_bits-result : goal.float_from_bits-result
float_from_bits-result c = no_nan _ (elim c.if-under.branch [ then-under w ↦ omega arith | else-under w ↦ omega arith ])

pub returns-then-shown : goal.returns-then-shown
returns-then-shown c =
    let g = c.args.self in
    let below = at_below g.e g.x g.target g.at g.guessed _ _ _ c.requires in
    let here = at_here g.e g.x g.target g.at g.guessed _ _ _ c.requires in
    elim c.if-under.branch [
      | then-under i ↦ elim c.if-under-2.branch [
        | then-under-2 j ↦ ap (λ b. Some (of_bits binary64 b)) i.place-is ∙ sym (below i.if-under.true (sym j.shown-is ∙ c.if-shown.true))
        | else-under-2 j ↦ absurd (true≢false (sym i.if-under.true ∙ j.if-under-2.false))
      ]
      | else-under i ↦ elim c.if-under-2.branch [
        | then-under-2 j ↦ absurd (true≢false (sym j.if-under-2.true ∙ i.if-under.false))
        | else-under-2 j ↦ ap (λ b. Some (of_bits binary64 b)) i.place-is ∙ sym (here i.if-under.false (sym j.shown-is ∙ c.if-shown.true))
      ]
    ]
