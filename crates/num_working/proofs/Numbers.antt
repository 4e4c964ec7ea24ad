-- Decimals against outside bits; what is no NaN; what has no minus sign. Assumes nothing.
use Prim.Native.Nat.{ℕ, ◌+◌, ◌*◌, ◌<◌, ◌%◌}
use mathlib.Core.List.{List, [], ◌∷◌, map}
use mathlib.Core.Path.{◌≡◌, refl, sym, subst, ap, ◌∙◌}
use mathlib.Core.Bool.{Bool, true, false, not, ◌&&◌, true≢false}
use native.Mathlib.Omega.{arith}
use native.Mathlib.Nat.{mod-eq_of_lt}
use borrow.Author.Tests.{le-ltb, ltb-false, eq-eqb}
use lib.Dec.{T, ltb, eqb}
use lib.Ieee.{Float, nan, inf, fin, binary64, up, down, is_nan, nan_bits, of_bits, of_int, round, lt, eq}
use lib.Ieee.Bits.{nan_bits_above}
use lib.Ieee.Scale.{finite}
use Rattle.num_working.specs.Number.{fraction, decimal, whole, nonneg}

-- ---- decimals as printed, and the bits of the nearest f64 as worked elsewhere, in exact fractions: 216.592, 0.1, 350.7, 584.5, 0.05, 1.01,
-- 0.99, and the first coefficient of the residual part
decimals : List Float
decimals =
    decimal 216592 3 ∷ decimal 1 1 ∷ decimal 3507 1 ∷ decimal 5845 1 ∷ decimal 5 2 ∷ decimal 101 2
    ∷ decimal 99 2 ∷ decimal 38856823203161 14 ∷ []

worked_elsewhere : List ℕ
worked_elsewhere =
    0x406b_12f1_a9fb_e76d ∷ 0x3fb9_9999_9999_999a ∷ 0x4075_eb33_3333_3333 ∷ 0x4082_4400_0000_0000
    ∷ 0x3fa9_9999_9999_999a ∷ 0x3ff0_28f5_c28f_5c29 ∷ 0x3fef_ae14_7ae1_47ae ∷ 0x3fd8_de4d_4a35_c78d ∷ []

decimals_agree : decimals ≡ map (of_bits binary64) worked_elsewhere
unfolding decimals worked_elsewhere decimal fraction whole of_bits of_int round
decimals_agree = refl

-- ---- bits and NaNs
-- the bits of the infinity
abbrev pub infinity : ℕ
infinity = 0x7ff0_0000_0000_0000

pub no_nan : (b : ℕ) → b < infinity → T (not (nan_bits binary64 b))
no_nan b h =
    let m : b % 0x8000_0000_0000_0000 ≡ b = mod-eq_of_lt (omega arith) in
    let e = nan_bits_above binary64 b ∙ ap (ltb infinity) m ∙ le-ltb infinity b (omega arith) in
    subst (λ (t : Bool). T (not t)) (sym e) tt

-- a number that is finite, has no minus sign, or is less than another or more, is no NaN
pub finite_no_nan : (x : Float) → finite x ≡ true → T (not (is_nan x))
unfolding is_nan
finite_no_nan nan h = absurd (true≢false (sym h))
finite_no_nan (inf s) h = tt
finite_no_nan (fin s m e) h = tt

pub nonneg_no_nan : (x : Float) → T (nonneg x) → T (not (is_nan x))
unfolding is_nan
nonneg_no_nan nan h = absurd h
nonneg_no_nan (inf s) h = tt
nonneg_no_nan (fin s m e) h = tt

pub less_no_nan : (x y : Float) → lt x y ≡ true → T (not (is_nan x))
unfolding lt is_nan
less_no_nan nan y h = absurd (true≢false (sym h))
less_no_nan (inf s) y h = tt
less_no_nan (fin s m e) y h = tt

pub more_no_nan : (x y : Float) → lt y x ≡ true → T (not (is_nan x))
unfolding lt is_nan
more_no_nan nan nan h = absurd (true≢false (sym h))
more_no_nan nan (inf s) h = absurd (true≢false (sym h))
more_no_nan nan (fin s m e) h = absurd (true≢false (sym h))
more_no_nan (inf s) y h = tt
more_no_nan (fin s m e) y h = tt

-- what is finite, not below 0 and not 0 has no minus sign
zero_is_0 : (a b : ℕ) → b ≡ 0 → ltb 0 (a + b) ≡ false → eqb a b && eqb a 0 ≡ false → ⊥
zero_is_0 a b e l n =
    let h = ltb-false 0 (a + b) l in
    true≢false (sym (simp (eq-eqb a b (omega arith), eq-eqb a 0 (omega arith))) ∙ n)

pub above_0 : (x : Float) → finite x ≡ true → lt x (whole 0) ≡ false → eq x (whole 0) ≡ false → T (nonneg x)
unfolding lt eq whole of_int
above_0 nan f l e = absurd (true≢false (sym f))
above_0 (inf s) f l e = absurd (true≢false (sym f))
above_0 (fin false m e) f l n = tt
above_0 (fin true m e) f l n = absurd (zero_is_0 (m * up e * 1) (0 * down e) (omega arith) l n)
