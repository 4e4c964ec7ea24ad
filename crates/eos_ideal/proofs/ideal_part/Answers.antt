-- One test at the end of each stands for all. Assumes nothing.
use mathlib.Core.Path.{◌≡◌, ◌∙◌}
use Rattle.num_working.specs.Working.{Worked}
use Rattle.num_formulas.specs.Formula.{num, ◌⊗◌, value}
use Rattle.num_formulas.proofs.Formulas.{once}
use Rattle.eos_ideal.specs.declared.Ideal.{Ideal}
use Rattle.eos_ideal.specs.Ideal.{phi_τ, phi_ττ, ideal_part}
use Rattle.eos_ideal.proofs.ideal_part.Goals as goal

pair : {a b c d : Worked} → a ≡ b → c ≡ d → ◌≡◌ {A = Ideal} (record { first = a; second = c }) (record { first = b; second = d })
pair p q = cc

pub returns : goal.returns
unfolding ideal_part value
returns c =
    let τ = c.args.tau in
    pair
    ((rw c.all_rows-s.ensures at c.checked.ensures) ∙ once (num τ ⊗ phi_τ τ))
    ((rw c.all_rows-s.ensures at c.checked-2.ensures) ∙ once (num τ ⊗ num τ ⊗ phi_ττ τ))
