-- Roots have no minus sign, nor have products and whole powers of what has none; a product by what has one has one, and so has a sum of such. Assumes nothing.
use Rattle.num_halving.specs.declared.Missed.TheVariants.{Nowhere, Broke}
use Rattle.std.specs.Prelude.{Some, None, Ok, Err}
use Prim.Native.Nat.{ℕ, zero, suc, ◌+◌, ◌*◌, ◌^◌}
use mathlib.Core.Path.{◌≡◌, refl, sym, subst}
use mathlib.Core.Bool.{Bool, true, false}
use native.Mathlib.Omega.{arith}
use lib.Dec.{T, ltb}
use lib.Ieee.{Float, nan, inf, fin, Format, binary64, prec, emax, low, up, down, odd, units, round, of_int, sum, add, mul, lt, eq}
use lib.Ieee.Fits.{round_is}
use lib.Ieee.Scale.{finite}
use Rattle.num_working.specs.Number.{whole, nonneg}
use Rattle.num_working.specs.Working.{checked, ◌+ᵂ◌, ◌*ᵂ◌, Worked}
use Rattle.num_working.proofs.Cases.{by_test, by_working}
use Rattle.num_powers.specs.Power.{◌^ᵂ◌}
use Rattle.num_halving.specs.Halving.{Crossing}
use Rattle.num_laws.proofs.Orders.{unsigned, mul_unsigned, bits_mono}
use Rattle.num_roots.specs.Root as Root
use Rattle.num_roots.specs.Root.{root_bits, root_of, searched}
use Rattle.num_roots.specs.declared.root.Exponent.{Exponent}
use Rattle.num_roots.proofs.Roots.{crossing_below}
use Rattle.num_formulas.specs.Formula.{Formula, root, work}
use Rattle.eos_densities.proofs.Bounds.{minus}

-- where w is a number, it has no minus sign
abbrev pub Plus : Worked → Type 0
Plus None = Unit {0}
Plus (Some x) = T (nonneg x)

-- where w is a number, it has one
abbrev pub Minus : Worked → Type 0
Minus None = Unit {0}
Minus (Some x) = T (minus x)

plus_tested : (x : Float) → T (unsigned x) → Plus (checked x)
plus_tested nan h = tt
plus_tested (inf s) h = tt
plus_tested (fin s m e) h = h

-- ---- rounding keeps a minus sign, the infinity included
abbrev signed : Float → Bool
signed nan = false
signed (inf s) = s
signed (fin s m e) = s

minus_tested : (x : Float) → T (signed x) → Minus (checked x)
minus_tested nan h = tt
minus_tested (inf s) h = tt
minus_tested (fin s m e) h = h

odd_signed : (d q k l : ℕ) → T (signed (odd d true q k l))
unfolding odd
odd_signed d zero k l = tt
odd_signed d (suc q) k l = tt

units_signed : (f : Format) (q k : ℕ) → T (signed (units f true q k))
unfolding units
units_signed f q k =
    by_test (λ (x : Float). T (signed x)) (ltb (q * 2 ^ k) (2 ^ (low f + suc (emax f)))) _ (inf true) (λ _. odd_signed (suc (prec f)) q k (low f)) (λ _. tt)

round_signed : (f : Format) (a b : ℕ) → T (signed (round f true a b))
round_signed f a b = subst (λ (z : Float). T (signed z)) (sym (round_is f true a b)) (units_signed f _ _)

-- ---- a product and a sum
mul_signed : (x y : Float) → T (minus x) → T (nonneg y) → T (signed (mul binary64 x y))
unfolding mul
mul_signed nan y p q = absurd p
mul_signed (inf s) y p q = absurd p
mul_signed (fin false m e) y p q = absurd p
mul_signed (fin true m e) nan p q = absurd q
mul_signed (fin true m e) (inf t) p q = absurd q
mul_signed (fin true m e) (fin true n d) p q = absurd q
mul_signed (fin true m e) (fin false n d) p q = round_signed binary64 (m * up e * (n * up d)) (down e * down d)

add_signed : (x y : Float) → T (minus x) → T (minus y) → T (signed (add binary64 x y))
unfolding add sum
add_signed nan y p q = absurd p
add_signed (inf s) y p q = absurd p
add_signed (fin false m e) y p q = absurd p
add_signed (fin true m e) nan p q = absurd q
add_signed (fin true m e) (inf t) p q = absurd q
add_signed (fin true m e) (fin false n d) p q = absurd q
add_signed (fin true m e) (fin true n d) p q = round_signed binary64 (m * up e * down d + n * up d * down e) (down e * down d)

pub minus_times : (v w : Worked) → Minus v → Plus w → Minus (v *ᵂ w)
unfolding ◌*ᵂ◌
minus_times None w p q = tt
minus_times (Some x) None p q = tt
minus_times (Some x) (Some y) p q = minus_tested (mul binary64 x y) (mul_signed x y p q)

pub minus_added : (v w : Worked) → Minus v → Minus w → Minus (v +ᵂ w)
unfolding ◌+ᵂ◌
minus_added None w p q = tt
minus_added (Some x) None p q = tt
minus_added (Some x) (Some y) p q = minus_tested (add binary64 x y) (add_signed x y p q)

pub plus_times : (v w : Worked) → Plus v → Plus w → Plus (v *ᵂ w)
unfolding ◌*ᵂ◌
plus_times None w p q = tt
plus_times (Some x) None p q = tt
plus_times (Some x) (Some y) p q = plus_tested (mul binary64 x y) (mul_unsigned binary64 x y p q)

pub plus_power : (w : Worked) (n : ℕ) → Plus w → Plus (w ^ᵂ n)
unfolding ◌^ᵂ◌ whole of_int round
plus_power w zero p = tt
plus_power w (suc zero) p = p
plus_power w (suc (suc n)) p = plus_times (w ^ᵂ suc n) w (plus_power w (suc n) p) p

-- ---- a root
plus_found : (k : ℕ) (t : Float) (c : Crossing) → root_bits k t ≡ c → Plus (root_of c)
plus_found k t (Ok b) e = let h = crossing_below k t b e in (bits_mono b b (omega arith) h).first
plus_found k t (Err Nowhere) e = tt
plus_found k t (Err Broke) e = tt

plus_searched : (m k : ℕ) (x : Float) → Plus (searched m k x)
unfolding searched
plus_searched m k x = by_working Plus (checked x ^ᵂ m) None (λ t. root_of (root_bits k t)) (λ _. tt) (λ t _. plus_found k t (root_bits k t) refl)

root_plus : (e : Exponent) (x : Float) → Plus (Root.root e x)
unfolding Root.root whole of_int
root_plus e x =
    by_test Plus (ltb e.m (2 * e.k)) _ None
    (λ _. by_test Plus (finite x) _ None
    (λ _. by_test Plus (lt x (whole 0)) None _ (λ _. tt)
    (λ _. by_test Plus (eq x (whole 0)) (Some (whole 0)) (searched e.m e.k x) (λ _. tt) (λ _. plus_searched e.m e.k x))) (λ _. tt)) (λ _. tt)

pub plus_root : (e : Exponent) (a : Formula) → Plus (work (root e a))
unfolding work
plus_root e a = by_working Plus (work a) None (Root.root e) (λ _. tt) (λ x _. root_plus e x)
