-- The k-th whole power rises with the bits, so that the place where it passes a target is the halving's answer, however it was come by. Assumes nothing.
use Rattle.num_halving.specs.declared.Missed.TheVariants.{Nowhere, Broke}
use Rattle.std.specs.Prelude.{Some, None, Ok, Err}
use mathlib.Core.Path.{◌≡◌, refl, sym, ap, ◌∙◌}
use mathlib.Core.Bool.{Bool, true, false}
use Prim.Native.Nat.{ℕ, zero, suc, ◌+◌, ◌-◌, ◌*◌, ◌≤◌, ◌<◌}
use native.Mathlib.Omega.{arith}
use borrow.Author.Tests.{le-ltb}
use lib.Dec.{T}
use lib.Ieee.{Float, nan, inf, fin, binary64, of_bits, to_bits, of_int, up, down, lt, mul}
use lib.Ieee.Scale.{finite}
use Rattle.num_working.specs.Working.{Worked, checked}
use Rattle.num_working.specs.Number.{whole, nonneg}
use Rattle.num_powers.specs.Power.{power, ◌^ᵂ◌}
use Rattle.num_halving.specs.Halving.{halve, NotAbove, Above, worthy, failed, second_not_above, at_second}
use Rattle.num_roots.specs.Root.{power_at, root_bits, root_of, searched}
use Rattle.num_exponential.proofs.Tables.{at}
use Rattle.num_working.proofs.Numbers.{infinity}
use Rattle.num_working.proofs.Cases.{by_working}
use Rattle.num_working.proofs.Workings.{checked_number}
use Rattle.num_powers.proofs.Powers.{power_next, checked_power}
use Rattle.num_halving.proofs.Halvings.{Rises, Works, answer, nowhere_back, breaks_back, unique_crossing}
use Rattle.num_laws.proofs.Orders.{Ordered, bits_mono, power_mono, never_falls}

-- the bits of 2²⁰
abbrev pub top : ℕ
top = 0x4130_0000_0000_0000

pub root_bits_is : (k : ℕ) (t : Float) → root_bits k t ≡ halve (power_at k) t 0 top
unfolding root_bits to_bits of_int whole
root_bits_is k t = refl

-- ---- the figure, as code works it
pub power_at_is : (k b : ℕ) → power_at k b ≡ checked (power (of_bits binary64 b) k)
unfolding power_at
power_at_is k b = sym (checked_power (of_bits binary64 b) k)

pub nonneg_checked : (x : Float) → T (nonneg x) → checked x ≡ Some x
nonneg_checked nan p = absurd p
nonneg_checked (inf s) p = absurd p
nonneg_checked (fin s m e) p = refl

-- ---- it rises
figure_mono : (k b c : ℕ) → b ≤ c → c < infinity → T (finite (power (of_bits binary64 c) k))
    → Ordered (power (of_bits binary64 b) k) (power (of_bits binary64 c) k)
figure_mono k b c l h f = power_mono (of_bits binary64 b) (of_bits binary64 c) k (bits_mono b c l h) f

rises : (k : ℕ) (t : Float) → T (nonneg t) → Rises (power_at k) t top
rises k t p b c l h a n =
    let y = checked_number (power (of_bits binary64 c) k) n.number (sym (power_at_is k c) ∙ n.worked) in
    let o = figure_mono k b c l (omega arith) y.1 in
    let e : a.number ≡ power (of_bits binary64 b) k = cc (a.worked, power_at_is k b, nonneg_checked (power (of_bits binary64 b) k) o.first) in
    never_falls t (power (of_bits binary64 b) k) (power (of_bits binary64 c) k) p o (sym (ap (lt t) e) ∙ a.stands) (ap (lt t) y.0 ∙ n.stands)

-- ---- the ends
-- a whole power of 0 is 0
power_of_0 : (k : ℕ) → power (of_bits binary64 0) (suc k) ≡ whole 0
unfolding power whole of_int of_bits mul
power_of_0 zero = refl
power_of_0 (suc k) = ap (λ (x : Float). mul binary64 x (of_bits binary64 0)) (power_of_0 k)

not_below_0 : (t : Float) → T (nonneg t) → lt t (whole 0) ≡ false
unfolding whole of_int lt
not_below_0 nan p = absurd p
not_below_0 (inf s) p = absurd p
not_below_0 (fin true m e) p = absurd p
not_below_0 (fin false m e) p = le-ltb (m * up e * 1) (0 * down e) (omega arith)

pub at_0 : (k : ℕ) → 1 ≤ k → power_at k 0 ≡ Some (whole 0)
unfolding whole of_int
at_0 zero h = absurd (omega arith)
at_0 (suc k) h = power_at_is (suc k) 0 ∙ ap checked (power_of_0 k)

zero_finite : finite (whole 0) ≡ true
unfolding whole of_int
zero_finite = refl

pub first_not_above : (k : ℕ) (t : Float) → 1 ≤ k → T (nonneg t) → NotAbove (power_at k) t 0
first_not_above k t h p = record { number = whole 0; worked = at_0 k h; bounded = zero_finite; stands = not_below_0 t p }

-- up to the 51st a whole power of 2²⁰ is finite, and from the 52nd on it is not
pub top_finite : (k : ℕ) → k ≤ 51 → T (finite (power (of_bits binary64 top) k))
unfolding of_bits power whole of_int mul
top_finite k h = at 52 (λ n. finite (power (of_bits binary64 top) n)) tt k (omega arith)

top_infinite : (j : ℕ) → power (of_bits binary64 top) (j + 52) ≡ inf false
unfolding of_bits power whole of_int mul
top_infinite zero = refl
top_infinite (suc j) =
    let e : suc j + 52 ≡ j + 52 + 1 = omega arith in
    ap (power (of_bits binary64 top)) e
    ∙ sym (power_next (of_bits binary64 top) (j + 52) (omega arith))
    ∙ ap (λ (x : Float). mul binary64 x (of_bits binary64 top)) (top_infinite j)

-- ---- so, for k up to 51, every figure of the search is a number
pub works : (k b : ℕ) → k ≤ 51 → b ≤ top → power_at k b ≡ Some (power (of_bits binary64 b) k)
works k b h l = power_at_is k b ∙ nonneg_checked _ (figure_mono k b top l (omega arith) (top_finite k h)).first

nonneg_finite : (x : Float) → T (nonneg x) → finite x ≡ true
nonneg_finite nan p = absurd p
nonneg_finite (inf s) p = absurd p
nonneg_finite (fin s m e) p = refl

bounded_at : (k b : ℕ) → k ≤ 51 → b ≤ top → finite (power (of_bits binary64 b) k) ≡ true
bounded_at k b h l = nonneg_finite (power (of_bits binary64 b) k) (figure_mono k b top l (omega arith) (top_finite k h)).first

-- and past it none ever: 2²⁰ has no power to compare with
pub fails : (k : ℕ) (t : Float) → 52 ≤ k → root_bits k t ≡ Err Broke
fails k t h =
    let e : k ≡ k - 52 + 52 = omega arith in
    let f : power_at k top ≡ None =
    power_at_is k top ∙ ap (λ (i : ℕ). checked (power (of_bits binary64 top) i)) e ∙ ap checked (top_infinite (k - 52)) in
    root_bits_is k t ∙ breaks_back (power_at k) t 0 top (omega arith) (omega arith) (at_second (failed f))

-- a figure that code worked, and what it tested of it
pub above_at : (k b : ℕ) (t x : Float) → k ≤ 51 → b ≤ top → x ≡ power (of_bits binary64 b) k → lt t x ≡ true → Above (power_at k) t b
above_at k b t x h l e s = record { number = x; worked = works k b h l ∙ ap Some (sym e); bounded = ap finite e ∙ bounded_at k b h l; stands = s }

pub not_above_at : (k b : ℕ) (t x : Float) → k ≤ 51 → b ≤ top → x ≡ power (of_bits binary64 b) k → lt t x ≡ false → NotAbove (power_at k) t b
not_above_at k b t x h l e s = record { number = x; worked = works k b h l ∙ ap Some (sym e); bounded = ap finite e ∙ bounded_at k b h l; stands = s }

module _ (k : ℕ) (t : Float) (one : 1 ≤ k) (few : k ≤ 51) (p : T (nonneg t)) where
  last_above : (b : ℕ) → b ≤ top → Above (power_at k) t b → Above (power_at k) t top
  last_above b h a = go (lt t (power (of_bits binary64 top) k)) refl
    where
      go : (x : Bool) → lt t (power (of_bits binary64 top) k) ≡ x → Above (power_at k) t top
      go true e = above_at k top t _ few (omega arith) refl e
      go false e = absurd (rises k t p b top h (omega arith) a (not_above_at k top t _ few (omega arith) refl e))

  every_worthy : Works (power_at k) 0 top
  every_worthy c l u = worthy (power (of_bits binary64 c) k) (works k c few u) (bounded_at k c few u)

  -- the two neighbours between which the power passes t, however they were come by
  pub crossing_is : (r s : ℕ) → s ≡ r + 1 → s ≤ top → NotAbove (power_at k) t r → Above (power_at k) t s → root_bits k t ≡ Ok r
  crossing_is r s e h a b =
      root_bits_is k t
      ∙ unique_crossing (power_at k) t 0 top r (rises k t p) every_worthy (omega arith) (first_not_above k t one p) (last_above s h b)
      (omega arith) (omega arith) a (rw e at b)

  pub no_crossing : NotAbove (power_at k) t top → root_bits k t ≡ Err Nowhere
  no_crossing b = root_bits_is k t ∙ nowhere_back (power_at k) t 0 top (second_not_above (worthy (whole 0) (at_0 k one) zero_finite) b)

-- the bits of an answer are those of a number
pub crossing_below : (k : ℕ) (t : Float) (b : ℕ) → root_bits k t ≡ Ok b → b < infinity
crossing_below k t b e = let h = answer (power_at k) t 0 top b (omega arith) (sym (root_bits_is k t) ∙ e) in omega arith

-- past k = 51 the search fails, whatever x is
pub search_fails : (m k : ℕ) (x : Float) → 52 ≤ k → searched m k x ≡ None
unfolding searched
search_fails m k x h = by_working (λ (w : Worked). w ≡ None) (checked x ^ᵂ m) None _ (λ _. refl) (λ t _. ap root_of (fails k t h))
