-- By the limits of RULES 2.2 no door answers a density above 1,400 kg/m³, and so a door's line has no more than 1,400,000,000 mg. Assumes nothing.
use Rattle.std.specs.Prelude.{Some, None, Ok}
use Prim.Native.Nat.{ℕ, ◌+◌, ◌*◌, ◌^◌, ◌≤◌, ◌<◌}
use mathlib.Core.Path.{◌≡◌, refl, sym, subst}
use mathlib.Core.Bool.{Bool, true, false, cond, ◌||◌, true≢false}
use native.Mathlib.Nat.{mul-pos}
use native.Mathlib.Omega.{arith}
use borrow.Author.Tests.{ltb-false}
use lib.Dec.{T, ltb→lt}
use lib.Ieee.{Float, nan, inf, fin, binary64, up, down, round, of_int, of_bits, to_bits, mul, div, lt, le, eq}
use lib.Ieee.Back.{round_whole}
use lib.Ieee.Bits.{of_bits-to_bits}
use lib.Ieee.Fits.{up_pos, down_pos}
use lib.Ieee.Order.{round_mono, transfer}
use lib.Ieee.Positive as Positive
use lib.Ieee.Positive.{den, den_pos, positive, value→cross}
use lib.Ieee.Scale.{finite}
use Rattle.num_working.specs.Number.{whole, decimal, fraction, nonneg}
use Rattle.num_working.specs.Working.{Worked}
use Rattle.num_whole.specs.Whole.{whole_below}
use Rattle.num_whole.proofs.Wholes.{is_at_or_below}
use Rattle.num_laws.proofs.Orders.{cross, under, round_unsigned, bits_mono, Ordered}
use Rattle.num_laws.proofs.Sums.{Ranked, ordered, not_below, onward, mul_keeps}
use Rattle.num_formulas.specs.Formula.{num, ◌⊗◌, work}
use Rattle.eos_constants.specs.Constant.{span_wagner}
use Rattle.eos_densities.specs.Density.{vapour_density}
use Rattle.eos_densities.proofs.Bounds.{UpTo, in_order, further, number_up_to, product_up_to}
use Rattle.eos_densities.proofs.Mosts.{vapour_most}
use Rattle.eos_state.specs.declared.Phase.{Phase}
use Rattle.eos_state.specs.declared.Phase.TheVariants.{Vapour}
use Rattle.eos_state.specs.declared.State.{State}
use Rattle.equation.specs.Equation.{Equation, Lawful, of1996}
use Rattle.equation.proofs.Laws.{lawful}
use Rattle.door_limits.specs.Limits.{document01, outside, search_ends}
use Rattle.door_limits.specs.declared.Range.{Range}
use Rattle.door_limits.specs.declared.Limits.{Limits}
use Rattle.door_answers.specs.Answer.{Answer}
use Rattle.door_pressure.specs.PressureDoor.{scaled, pressure_door}
use Rattle.door_pressure.proofs.Searches.{bits_below}
use Rattle.door_density.specs.DensityDoor.{density_door}
use Rattle.sheet_text.specs.Field.{Field}
use Rattle.sheet_line.specs.declared.cylinder.Kind.{Kind}
use Rattle.sheet_line.specs.declared.cylinder.Cylinder.{Cylinder}
use Rattle.demands.specs.Demands as demands
use Rattle.demands.specs.Demands.{InRangeP, Beside, lower, Ranged, supercritical, Answered}
use Rattle.demands.specs.Lines.{Volume, product, Asked, by_pressure, by_density, Figures}
use Rattle.demands.proofs.Checks.{first, second}
use Rattle.demands.proofs.PressureDoors.{ends, pressure_answers}
use Rattle.demands.proofs.DensityDoors.{density_answers}

-- ---- what is not outside a range above 0
no_minus : (x c : Float) → finite x ≡ true → T (positive c) → lt x c ≡ false → T (nonneg x)
unfolding lt
no_minus nan c f p h = absurd (true≢false (sym f))
no_minus (inf s) c f p h = absurd (true≢false (sym f))
no_minus (fin false m e) c f p h = tt
no_minus (fin true m e) nan f p h = absurd p
no_minus (fin true m e) (inf t) f p h = absurd p
no_minus (fin true m e) (fin true n d) f p h = absurd p
no_minus (fin true m e) (fin false n d) f p h =
    let q : 0 < n * up d * down e = mul-pos (mul-pos (ltb→lt 0 n p) (up_pos d)) (down_pos e) in
    absurd (omega (arith, ltb-false 0 (m * up e * down d + n * up d * down e) h))

neither : (a b : Bool) → cond a true b ≡ false → (a ≡ false) × (b ≡ false)
neither true b h = absurd (true≢false h)
neither false b h = (refl, h)

up_to_its_top : (r : Range) (x : Float) → T (positive r.from) → T (nonneg r.to) → finite x ≡ true → outside r x ≡ false → Ordered x r.to
up_to_its_top r x p q f h =
    let b = neither (lt x r.from) (lt r.to x) h in
    not_below x r.to (no_minus x r.from f p b.0) q b.1

-- ---- the range for each phase ends at 1,400 kg/m³, the vapour's at 1.01 times the critical density or below
not_above : (t c : Float) → T (nonneg t) → T (nonneg c) → le c t ≡ false → Ordered t c
unfolding le
not_above t c p q h = not_below t c p q (left (lt c t) (eq c t) h)
  where
    left : (a b : Bool) → (a || b) ≡ false → a ≡ false
    left true b e = e
    left false b e = refl

below_critical : (t p : Float) → InRangeP of1996 document01 t p → Beside of1996 document01 t p Vapour → Ordered t span_wagner.temperature
unfolding of1996 document01 span_wagner decimal fraction whole of_int round
below_critical t p r (lower cold e f g) =
    let o = up_to_its_top document01.asked.temperature t tt tt (first (finite t) (finite p) r.numbers) r.temperature in
    not_above t span_wagner.temperature o.first tt cold

scaled_most : (w : Worked) → UpTo span_wagner.density w → UpTo (whole 1400) (scaled search_ends.vapour w)
unfolding work search_ends span_wagner decimal fraction mul le whole of_int round
scaled_most None u = tt
scaled_most (Some d) u =
    let a = search_ends.vapour in
    let c = span_wagner.density in
    further (mul binary64 a c) (whole 1400) (work (num a ⊗ num d)) (in_order tt)
    (product_up_to a c (work (num a)) (work (num d)) tt (in_order tt) (number_up_to d c u))

to_1400 : Ordered (whole 1400) (whole 1400)
unfolding le whole of_int round
to_1400 = in_order tt

end_most : (t p : Float) {phase : Phase} {from to : Float} → InRangeP of1996 document01 t p → Ranged of1996 document01 t p phase from to
    → Ordered to (whole 1400)
unfolding of1996 search_ends
end_most t p r (supercritical h) = to_1400
end_most t p r (demands.vapour b e) = subst (UpTo (whole 1400)) e (scaled_most (vapour_density t) (vapour_most t (below_critical t p r b)))
end_most t p r (demands.liquid b e) = to_1400

-- a density that was found is no more than the end
up_to_its_end : (E : Equation) (L : Limits) → Lawful E → (t p : Float) (x : State) (a : Answered E L t p x) → Ordered x.rho a.to
up_to_its_end E L lawful t p x a =
    let h = (ends E L lawful t p a.ranged).second in
    let top = bits_below a.to h.nonneg h.fits in
    let v = a.found.to in
    let r = lawful.density t x.phase (of_bits binary64 a.bits) x a.worked in
    rw r (subst (Ordered (of_bits binary64 a.bits)) (of_bits-to_bits binary64 a.to h.fits)
    (bits_mono a.bits (to_bits binary64 a.to) (omega arith) top))

-- ---- what a door answers is no denser than 1,400 kg/m³
pub pressure_door_most : (t p : Float) (x : State) → pressure_door of1996 document01 t p ≡ Ok x → Ordered x.rho (whole 1400)
pressure_door_most t p x e =
    let a = pressure_answers of1996 document01 lawful t p x e in
    onward (up_to_its_end of1996 document01 lawful t p x a) (end_most t p a.past.ranged a.ranged)

pub density_door_most : (t rho : Float) (x : State) → density_door of1996 document01 t rho ≡ Ok x → Ordered x.rho (whole 1400)
unfolding document01 decimal fraction le whole of_int round
density_door_most t rho x e =
    let a = density_answers of1996 document01 lawful t rho x e in
    let r = a.past.ranged in
    let o = up_to_its_top document01.asked.density rho tt tt (second (finite t) (finite rho) r.numbers) r.value in
    rw a.density (onward o (in_order tt))

-- ---- a whole number at or below a float is no more than a whole number that the float is at most
whole_order : (m n : ℕ) → m ≤ n → T (finite (whole n)) → Ordered (whole m) (whole n)
unfolding whole of_int
whole_order m n h f =
    let r : Ranked (whole m) (whole n) = record {
      first = round_unsigned binary64 m 1;
      second = round_unsigned binary64 n 1;
      order = round_mono binary64 m 1 n 1 (omega arith) (omega arith) (omega arith);
    } in
    ordered r f

whole_back : (m n : ℕ) → m < 2 ^ 53 → n < 2 ^ 53 → Ordered (whole m) (whole n) → m ≤ n
unfolding whole of_int
whole_back m n h k o =
    let x = whole m in
    let y = whole n in
    let a = value→cross x m 1 (round_whole binary64 false m (omega arith)) in
    let b = value→cross y n 1 (round_whole binary64 false n (omega arith)) in
    let l = cross x y o.first o.second o.order in
    omega (arith, transfer m n 1 1 (Positive.num x) (Positive.num y) (den x) (den y) (den_pos x) (den_pos y) (sym a) (sym b) l)

below_most : (x : Float) (n top : ℕ) → top < 2 ^ 53 → Ordered x (whole top) → whole_below x ≡ Some n → n ≤ top
unfolding whole of_int
below_most x n top h o e =
    let b = is_at_or_below x n e in
    let l = subst T (sym b.0) tt in
    let r : Ordered (whole n) x = record { first = under (whole n) x (round_unsigned binary64 n 1) o.first l; second = o.first; order = l } in
    whole_back n top b.2 h (onward r o)

-- ---- the milligrams of such a density in a volume of RULES 2.4
pub milligrams_most : (rho : Float) (v mg : ℕ) → Ordered rho (whole 1400) → v ≤ 1_000_000 → whole_below (mul binary64 rho (whole v)) ≡ Some mg
    → mg ≤ 1_400_000_000
unfolding mul le whole of_int round
milligrams_most rho v mg o h e =
    let l = ordered (mul_keeps binary64 rho (whole 1400) (whole v) (whole 1_000_000) o (whole_order v 1_000_000 h tt)) tt in
    below_most (mul binary64 rho (whole v)) mg 1_400_000_000 (omega arith) (onward l (in_order {y = whole 1_400_000_000} tt)) e

-- ---- and so of a line whose door answered
answer_most : (t : Float) (k : Kind) (f : Field) (a : Answer) (x : State) → Asked document01 t k f a → a ≡ Ok x → Ordered x.rho (whole 1400)
answer_most t k f a x (by_pressure n) e = pressure_door_most t (whole n) x e
answer_most t k f a x (by_density n) e = density_door_most t (div binary64 (whole n) (whole 1000)) x e

pub line_most : (c : Cylinder) (v mg : ℕ) (s : State) → Figures document01 c v (Ok s) → Volume v → whole_below (product s v) ≡ Some mg
    → mg ≤ 1_400_000_000
line_most c v mg s f r e = milligrams_most s.rho v mg (answer_most _ _ _ _ s f.asked refl) r.at_most e
