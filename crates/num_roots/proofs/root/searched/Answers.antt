-- The power and the crossing are those of the definition; the crossing's bits lie below the infinity's. Assumes nothing.
use Rattle.std.specs.Prelude.{Ok, Err, Some, None, option_map}
use Rattle.std.specs.Result.{result_ok}
use mathlib.Core.Path.{◌≡◌, refl, sym, ap, subst, ◌∙◌}
use Prim.Native.Nat.{ℕ}
use native.Mathlib.Omega.{arith}
use lib.Dec.{T}
use lib.Ieee.{Float, binary64, of_bits}
use lib.Ieee.Scale.{finite}
use Rattle.num_working.specs.Working.{Worked, checked, or_else}
use Rattle.num_working.specs.Number.{nonneg}
use Rattle.num_powers.specs.Power.{power}
use Rattle.num_halving.specs.Halving.{Crossing}
use Rattle.num_halving.specs.declared.Missed.TheVariants.{Nowhere, Broke}
use Rattle.num_roots.specs.Root.{searched, root_bits, root_of}
use Rattle.num_working.proofs.Numbers.{no_nan}
use Rattle.num_powers.proofs.Powers.{checked_power}
use Rattle.num_working.proofs.Workings.{checked_number}
use Rattle.num_working.proofs.Cases.{never}
use Rattle.num_laws.proofs.Orders.{power_unsigned}
use Rattle.num_roots.proofs.Roots.{crossing_below}
use Rattle.num_roots.proofs.root.searched.Goals as goal
use Rattle.num_roots.proofs.root.searched.Goals.{After-checked, After-crossing, Start}

abbrev looked_for : ℕ → Worked → Worked
looked_for k w = or_else w None (λ t. root_of (root_bits k t))

abbrev asked : Start → Worked
asked s = searched s.args.m s.args.k s.args.x

-- the power, as it was worked
raised : (c : After-checked) → asked c.before.before ≡ looked_for c.args.k c.checked.result
unfolding searched
raised c =
    let a = c.args in
    ap (looked_for a.k) (sym (checked_power a.x a.m) ∙ sym (ap checked c.whole_power.ensures) ∙ sym c.checked.ensures)

-- the root of what the crossing comes to, whatever has missed it
at_crossing : (r : Crossing) → root_of r ≡ option_map (of_bits binary64) (result_ok r)
at_crossing (Ok b) = refl
at_crossing (Err Nowhere) = refl
at_crossing (Err Broke) = refl

passed_at : (r : Crossing) (b : ℕ) → result_ok r ≡ Some b → r ≡ Ok b
passed_at (Ok a) b e = cc
passed_at (Err m) b e = never (cc)

told : (c : After-crossing) → option_map (of_bits binary64) (result_ok c.crossing.result) ≡ asked c.before.before.before.before.before.before.before.before
told c =
    sym (at_crossing c.crossing.result) ∙ ap root_of c.crossing.ensures ∙ sym (raised c.before.before.before.before.before.before ∙ ap (looked_for _) c.in_ok-t.was)

pub returns-in_err-t : goal.returns-in_err-t
returns-in_err-t c = c.from_residual.ensures ∙ sym (raised (goal.at.returns-in_err-t c).After-checked ∙ ap (looked_for _) c.in_err-t.was)

pub crossing-requires : goal.crossing-requires
crossing-requires c =
    let n = checked_number c.whole_power.result c.in_ok-t.t (sym c.checked.ensures ∙ c.in_ok-t.was) in
    let f : T (finite (power c.args.x c.args.m)) = rw c.whole_power.ensures at n.1 in
    let p = power_unsigned c.args.x c.args.m c.requires.t f in
    record { t = subst (λ (z : Float). T (nonneg z)) (sym c.whole_power.ensures ∙ n.0) p; le_k = (omega arith, omega arith) }

pub returns-in_err-b : goal.returns-in_err-b
returns-in_err-b c =
    c.from_residual-in_err-b.ensures ∙ ap (option_map _) (sym c.in_err-b.was ∙ c.ok.ensures.value) ∙ told (goal.at.returns-in_err-b c).After-crossing

pub float_from_bits-result : goal.float_from_bits-result
float_from_bits-result c = no_nan _ (crossing_below _ _ _ (sym c.crossing.ensures ∙ passed_at _ _ (sym c.ok.ensures.value ∙ c.in_ok-b.was)))

pub returns : goal.returns
returns c = ap (option_map (of_bits binary64)) (sym c.in_ok-b.was ∙ c.ok.ensures.value) ∙ told (goal.at.returns c).After-crossing
