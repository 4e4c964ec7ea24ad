-- Each argument is worked as the definition has it. Assumes nothing.
use mathlib.Core.Path.{◌≡◌, ap, ◌∙◌}
use mathlib.Core.List.{List, [], ◌∷◌}
use Prim.Native.Nat.{ℕ}
use lib.ListN.{get_or}
use lib.Ieee.{Float, nan}
use Rattle.num_powers.specs.Power.{power, powers}
use Rattle.eos_terms.specs.Term.{bell_exponent, psi_exponent, exponents}
use Rattle.eos_terms.proofs.term.exponents.Goals as goal

pub returns : goal.returns
unfolding exponents powers power
returns c =
    let iso = c.args.iso in
    let delta = c.args.delta in
    let p : (k : ℕ) → get_or c.args.powers k nan ≡ get_or (powers 10 delta) k nan = λ k. ap (λ (l : List Float). get_or l k nan) c.requires in
    let g = c.bell_exponent.ensures ∙ ap (bell_exponent iso delta 0) c.gaussian_row.ensures in
    let h = c.bell_exponent-2.ensures ∙ ap (bell_exponent iso delta 1) c.gaussian_row-2.ensures in
    let i = c.bell_exponent-3.ensures ∙ ap (bell_exponent iso delta 2) c.gaussian_row-3.ensures in
    let j = c.bell_exponent-4.ensures ∙ ap (bell_exponent iso delta 3) c.gaussian_row-4.ensures in
    let k = c.psi_exponent.ensures ∙ ap (psi_exponent iso delta) c.non_analytic_row.ensures in
    let l = c.psi_exponent-2.ensures ∙ ap (psi_exponent iso delta) c.non_analytic_row-2.ensures in
    λ s. p 1 s ∷ p 2 s ∷ p 3 s ∷ p 4 s ∷ p 5 s ∷ p 6 s ∷ g s ∷ h s ∷ i s ∷ j s ∷ k s ∷ l s ∷ []
