-- No blank is told, and the slice finds the number where the definition does. Assumes nothing.
use Rattle.std.specs.Prelude.{Some}
use mathlib.Core.Path.{◌≡◌, sym, ◌∙◌}
use mathlib.Core.Bool.{true, false}
use native.Mathlib.Omega.{arith}
use Rattle.std.proofs.lemmas.Grind.{common_steps}
use borrow.Author.Rules.{rules}
use Rattle.sheet_standing.specs.Standing.{is_on, lacking, standing}
use Rattle.sheet_standing.proofs.Standings.{any_on}
use Rattle.sheet_standing.proofs.standing_of.Goals as goal

pub returns-then-contains : goal.returns-then-contains
unfolding standing lacking
returns-then-contains c =
    let number : c.args.l.number ≡ Some c.in_ok-n.n = search rules in
    let on : is_on c.args.numbers.now c.in_ok-n.n ≡ true = grind (arith, common_steps, any_on c.args.numbers.now c.in_ok-n.n) in
    rw (number, sym c.is_lacking.ensures ∙ c.if-is_lacking.false, on)

pub returns : goal.returns
unfolding standing lacking
returns c =
    let number : c.args.l.number ≡ Some c.in_ok-n.n = search rules in
    let on : is_on c.args.numbers.now c.in_ok-n.n ≡ false = grind (arith, common_steps, any_on c.args.numbers.now c.in_ok-n.n) in
    rw (number, sym c.is_lacking.ensures ∙ c.if-is_lacking.false, on)
