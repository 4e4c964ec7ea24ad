-- Worked step by step together, each number is the definition's. Assumes nothing.
use mathlib.Core.Path.{sym, ap, ◌∙◌, subst}
use mathlib.Core.List.{List, map}
use lib.Dec.{T}
use lib.Ieee.{Float}
use Rattle.num_working.specs.Number.{whole}
use Rattle.num_exponential.specs.Decay.{every}
use Rattle.num_exponential.specs.Lockstep.{chain, squarings}
use Rattle.num_laws.specs.Quotient.{normal}
use Rattle.num_exponential.proofs.Lanes.{all_worked, normal_parts}
use Rattle.num_exponential.proofs.decay.side_by_side.Goals as goal

pub chains-requires : goal.chains-requires
chains-requires c = subst (λ (y : List Float). T (every normal y)) (sym c.by_1024.ensures) (normal_parts c.args.x c.requires)

pub returns : goal.returns
returns c =
    c.ten_squarings.ensures
    ∙ ap (map (squarings 10)) (c.chains.ensures ∙ ap (map (λ (v : Float). chain v 14 (whole 1))) c.by_1024.ensures)
    ∙ all_worked c.args.x c.requires
