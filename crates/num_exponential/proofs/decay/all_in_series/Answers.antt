-- One test after the other, as the definition has them. Assumes nothing.
use Rattle.std.proofs.Common.{rules, refl}
use Rattle.std.proofs.lemmas.Iterator.{YieldsList-from_slice}
use Rattle.std.proofs.lemmas.Iterator.Search.{all_from_yields_List}
use Rattle.std.proofs.lemmas.List.Recursion.{same_from_clauses}
use Rattle.std.specs.List.{list_all}
use mathlib.Core.Path.{◌∙◌}
use mathlib.Core.Bool.{◌&&◌, Bool}
use Rattle.num_exponential.specs.Decay.{every, in_series}
use Rattle.num_exponential.proofs.decay.all_in_series.Goals as goal

pub returns : goal.returns
unfolding every
returns c =
    let x = c.args.x in
    all_from_yields_List in_series _ _ _ c.all.ensures.ran (YieldsList-from_slice x cc) (λ v b q k. search rules)
    ∙ same_from_clauses (list_all in_series) (every in_series) (λ v (b : Bool). in_series v && b) refl (λ _ _. refl) (λ _ _. refl) x
