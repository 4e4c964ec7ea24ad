-- Each step is the definition's, on twelve numbers that it treats alike, with each quotient in one of two forms (`stepped`). Assumes nothing.
use mathlib.Core.Path.{◌≡◌, ◌∙◌}
use mathlib.Core.List.{List}
use Prim.Native.Nat.{ℕ}
use native.Mathlib.Omega.{arith}
use lib.ListN.{length, replicate}
use lib.Ieee.{Float, binary64, div, of_bits, of_int, round}
use Rattle.num_working.specs.Number.{fraction, whole}
use Rattle.num_exponential.specs.Lockstep.{turn}
use Rattle.num_laws.specs.Quotient.{just_above, divisor, just_below, normal}
use Rattle.num_exponential.proofs.Lanes.{Of, all_one, itself, same_map, turned}
use Rattle.num_exponential.proofs.Steps.{seven, upper, lower, stepped}
use Rattle.num_exponential.proofs.lockstep.chains.Goals as goal
use Rattle.num_exponential.proofs.lockstep.chains.Goals.{After-parts-thirteenth, After-step, After-step-s-7, Start}

-- ---- the six quotients
abbrev begun : After-parts-thirteenth → Start
begun c = c.before.before.before.before.before.before

abbrev Quotient : ℕ → After-parts-thirteenth → List Float → Type 0
Quotient k c q = Of (λ v. div binary64 v (whole k)) (begun c).args.y q

third : (c : After-parts-thirteenth) → Quotient 3 c c.parts-third.result
unfolding whole of_bits of_int round
third c = record { is = c.parts-third.ensures }

fifth : (c : After-parts-thirteenth) → Quotient 5 c c.parts-fifth.result
unfolding whole of_bits of_int round
fifth c = record { is = c.parts-fifth.ensures }

seventh : (c : After-parts-thirteenth) → Quotient 7 c c.parts-seventh.result
unfolding whole of_bits of_int round
seventh c = record { is = c.parts-seventh.ensures }

ninth : (c : After-parts-thirteenth) → Quotient 9 c c.parts-ninth.result
unfolding whole of_bits of_int round
ninth c = record { is = c.parts-ninth.ensures }

eleventh : (c : After-parts-thirteenth) → Quotient 11 c c.parts-eleventh.result
unfolding whole of_bits of_int round
eleventh c = record { is = c.parts-eleventh.ensures }

thirteenth : (c : After-parts-thirteenth) → Quotient 13 c c.parts-thirteenth.result
unfolding whole of_bits of_int round
thirteenth c = record { is = c.parts-thirteenth.ensures }

-- ---- the steps, from k = 14 down to 8 and from 7 down to 1
abbrev parted : After-step-s-7 → After-parts-thirteenth
parted c = c.before.before.before.before.before.before.before

abbrev halfway : After-step → After-step-s-7
halfway c = c.before.before.before.before.before.before.before

first_half : (c : After-step-s-7) → Of upper (begun (parted c)).args.y c.step-s-7.result
unfolding upper seven turn fraction whole of_bits of_int round
first_half c =
    let q = parted c in
    let y = (begun q).args.y in
    let w = (begun q).well_formed in
    let long : length y ≡ 12 = omega arith in
    let s0 : Of (λ v. whole 1) y (replicate 12 (whole 1)) = rw long at (all_one (whole 1) y) in
    let s1 = turned (fraction 1 2) c.step-s.ensures (seventh q) s0 in
    let s2 = turned (fraction 1 1) c.step-s-2.ensures (thirteenth q) s1 in
    let s3 = turned (fraction 1 4) c.step-s-3.ensures (third q) s2 in
    let s4 = turned (fraction 1 1) c.step-s-4.ensures (eleventh q) s3 in
    let s5 = turned (fraction 1 2) c.step-s-5.ensures (fifth q) s4 in
    let s6 = turned (fraction 1 1) c.step-s-6.ensures (ninth q) s5 in
    turned (fraction 1 8) c.step-s-7.ensures (itself _) s6

second_half : (c : After-step) → Of (λ v. lower v (upper v)) (begun (parted (halfway c))).args.y c.step.result
unfolding lower seven turn fraction whole of_bits of_int round
second_half c =
    let q = parted (halfway c) in
    let s7 = first_half (halfway c) in
    let s8 = turned (fraction 1 1) c.step-s-8.ensures (seventh q) s7 in
    let s9 = turned (fraction 1 2) c.step-s-9.ensures (third q) s8 in
    let s10 = turned (fraction 1 1) c.step-s-10.ensures (fifth q) s9 in
    let s11 = turned (fraction 1 4) c.step-s-11.ensures (itself _) s10 in
    let s12 = turned (fraction 1 1) c.step-s-12.ensures (third q) s11 in
    let s13 = turned (fraction 1 2) c.step-s-13.ensures (itself _) s12 in
    turned (fraction 1 1) c.step.ensures (itself _) s13

-- ---- what is asked of k, of 1/k less a little and of 1/k and a little more is computed
pub parts-third-requires : goal.parts-third-requires
unfolding divisor just_below just_above of_bits
parts-third-requires c = (c.requires, tt, tt, tt)

pub parts-fifth-requires : goal.parts-fifth-requires
unfolding divisor just_below just_above of_bits
parts-fifth-requires c = (c.requires, tt, tt, tt)

pub parts-seventh-requires : goal.parts-seventh-requires
unfolding divisor just_below just_above of_bits
parts-seventh-requires c = (c.requires, tt, tt, tt)

pub parts-ninth-requires : goal.parts-ninth-requires
unfolding divisor just_below just_above of_bits
parts-ninth-requires c = (c.requires, tt, tt, tt)

pub parts-eleventh-requires : goal.parts-eleventh-requires
unfolding divisor just_below just_above of_bits
parts-eleventh-requires c = (c.requires, tt, tt, tt)

pub parts-thirteenth-requires : goal.parts-thirteenth-requires
unfolding divisor just_below just_above of_bits
parts-thirteenth-requires c = (c.requires, tt, tt, tt)

pub returns : goal.returns
returns c =
    let at = (goal.at.returns c).After-step in
    let s = begun (parted (halfway at)) in
    (second_half at).is ∙ same_map normal _ _ s.args.y stepped s.requires
