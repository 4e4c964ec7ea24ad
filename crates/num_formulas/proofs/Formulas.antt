-- A formula worked in plain f64 and tested once at its end is the formula worked with a test of every number. Assumes nothing.
use Rattle.num_halving.specs.declared.Missed.TheVariants.{Nowhere, Broke}
use Rattle.std.specs.Prelude.{Some, None, Ok, Err}
use Prim.Native.Nat.{ℕ, zero, suc, ◌*◌}
use mathlib.Core.Path.{◌≡◌, refl, sym, ap, ◌∙◌}
use mathlib.Core.Bool.{Bool, true, false, not, cond}
use lib.Dec.{T, ltb}
use lib.IntN.{ℤ}
use lib.Ieee as Ieee
use lib.Ieee.{Float, nan, inf, fin, binary64}
use lib.Ieee.Scale.{finite}
use Rattle.num_working.specs.Number.{whole}
use Rattle.num_working.specs.Working.{checked, over, plain, or_else, ◌+ᵂ◌, ◌-ᵂ◌, ◌*ᵂ◌, ◌/ᵂ◌, Worked}
use Rattle.num_powers.specs.Power.{◌^ᵂ◌}
use Rattle.num_exponential.specs.Exponential.{exponential, answer_alone, steps}
use Rattle.num_roots.specs.Root as Root
use Rattle.num_roots.specs.Root.{root_bits, root_of, searched}
use Rattle.num_formulas.specs.Formula.{Formula, num, ◌⊕◌, ◌⊖◌, ◌⊗◌, ◌⊘◌, ◌^^◌, minus, size, e^, root, absolute, value, work}
use Rattle.num_halving.specs.Halving.{Crossing}
use Rattle.num_roots.specs.declared.root.Exponent.{Exponent}
use Rattle.num_working.proofs.Cases.{by_test}
use Rattle.num_working.proofs.Sound.{sound, checked_sound, both_sound, cond_sound, or_else_sound, checked_plain}
use Rattle.num_working.proofs.Workings.{checked_add, checked_sub, checked_mul, checked_div}
use Rattle.num_powers.proofs.Powers.{checked_power}
use Rattle.num_exponential.proofs.Sayings.{answer_is, exponential_sound}
use Rattle.num_laws.proofs.Orders.{bits_finite}
use Rattle.num_roots.proofs.Roots.{crossing_below}

-- ---- what was worked is finite
found_sound : (k : ℕ) (t : Float) (c : Crossing) → root_bits k t ≡ c → T (sound (root_of c))
found_sound k t (Ok b) e = bits_finite b (crossing_below k t b e)
found_sound k t (Err Nowhere) e = tt
found_sound k t (Err Broke) e = tt

searched_sound : (m k : ℕ) (x : Float) → T (sound (searched m k x))
unfolding searched
searched_sound m k x = or_else_sound (checked x ^ᵂ m) (λ t. root_of (root_bits k t)) (λ t. found_sound k t (root_bits k t) refl)

pub root_sound : (e : Exponent) (x : Float) → T (sound (Root.root e x))
unfolding Root.root whole Ieee.of_int
root_sound e x =
    cond_sound (ltb e.m (2 * e.k)) _ None
    (cond_sound (finite x) _ None
    (cond_sound (Ieee.lt x (whole 0)) _ _ tt
    (cond_sound (Ieee.eq x (whole 0)) _ _ tt (searched_sound e.m e.k x))) tt) tt

-- ---- an operation of one number
checked_neg : (x : Float) → checked (Ieee.neg x) ≡ or_else (checked x) None (λ y. Some (Ieee.neg y))
unfolding Ieee.neg
checked_neg nan = refl
checked_neg (inf s) = refl
checked_neg (fin s m e) = refl

either_finite : (b s : Bool) (m : ℕ) (e : ℤ) → checked (cond b (fin (not s) m e) (fin s m e)) ≡ Some (cond b (fin (not s) m e) (fin s m e))
either_finite b s m e = by_test (λ (x : Float). checked x ≡ Some x) b _ _ (λ _. refl) (λ _. refl)

checked_absolute : (x : Float) → checked (absolute x) ≡ or_else (checked x) None (λ y. Some (absolute y))
unfolding absolute Ieee.lt Ieee.neg whole Ieee.of_int
checked_absolute nan = refl
checked_absolute (inf true) = refl
checked_absolute (inf false) = refl
checked_absolute (fin s m e) = either_finite (Ieee.lt (fin s m e) (whole 0)) s m e

-- an operation that refuses what is not finite, and whose answers are finite
checked_refusing : (f : Float → Worked) → ((x : Float) → T (sound (f x))) → f nan ≡ None → ((s : Bool) → f (inf s) ≡ None)
    → (x : Float) → checked (plain (f x)) ≡ or_else (checked x) None f
checked_refusing f s n i nan = ap (λ (w : Worked). checked (plain w)) n
checked_refusing f s n i (inf b) = ap (λ (w : Worked). checked (plain w)) (i b)
checked_refusing f s n i (fin b m e) = checked_plain (f (fin b m e)) (s (fin b m e))

checked_exponential : (x : Float) → checked (plain (answer_alone (exponential x))) ≡ or_else (checked x) None (λ y. answer_alone (exponential y))
unfolding exponential steps
checked_exponential = checked_refusing (λ x. answer_alone (exponential x)) exponential_sound refl (λ s. refl)

either_failed : (b : Bool) → cond {A = Worked} b None None ≡ None
either_failed b = by_test (λ (w : Worked). w ≡ None) b None None (λ _. refl) (λ _. refl)

refused : (e : Exponent) → Root.root e nan ≡ None
unfolding Root.root
refused e = either_failed (ltb e.m (2 * e.k))

refused_infinite : (e : Exponent) (s : Bool) → Root.root e (inf s) ≡ None
unfolding Root.root
refused_infinite e s = either_failed (ltb e.m (2 * e.k))

checked_root : (e : Exponent) (x : Float) → checked (plain (Root.root e x)) ≡ or_else (checked x) None (Root.root e)
checked_root e = checked_refusing (Root.root e) (root_sound e) (refused e) (refused_infinite e)

-- ---- a quotient
over_failed : (w : Worked) → None ≡ w /ᵂ None
unfolding ◌/ᵂ◌
over_failed None = refl
over_failed (Some x) = refl

by_nan : (x : Float) → checked (Ieee.div binary64 x nan) ≡ None
unfolding Ieee.div
by_nan nan = refl
by_nan (inf s) = refl
by_nan (fin s m e) = refl

checked_over : (x y : Float) → checked (over x y) ≡ checked x /ᵂ checked y
checked_over x nan = by_nan x ∙ over_failed (checked x)
checked_over x (inf s) = by_nan x ∙ over_failed (checked x)
checked_over x (fin s m e) = checked_div x (fin s m e) tt

-- ---- so one test, of the last number, stands for all
of_both : (op : Worked → Worked → Worked) {v v' w w' : Worked} → v ≡ v' → w ≡ w' → op v w ≡ op v' w'
of_both op p q = cc

pub once : (e : Formula) → checked (value e) ≡ work e
unfolding value work
once (num x) = refl
once (a ⊕ b) = checked_add (value a) (value b) ∙ of_both ◌+ᵂ◌ (once a) (once b)
once (a ⊖ b) = checked_sub (value a) (value b) ∙ of_both ◌-ᵂ◌ (once a) (once b)
once (a ⊗ b) = checked_mul (value a) (value b) ∙ of_both ◌*ᵂ◌ (once a) (once b)
once (a ⊘ b) = checked_over (value a) (value b) ∙ of_both ◌/ᵂ◌ (once a) (once b)
once (a ^^ n) = checked_power (value a) n ∙ ap (λ (w : Worked). w ^ᵂ n) (once a)
once (minus a) = checked_neg (value a) ∙ ap (λ (w : Worked). or_else w None (λ x. Some (Ieee.neg x))) (once a)
once (size a) = checked_absolute (value a) ∙ ap (λ (w : Worked). or_else w None (λ x. Some (absolute x))) (once a)
once (e^ a) = checked_exponential (value a) ∙ ap (λ (w : Worked). or_else w None (λ x. answer_alone (exponential x))) (once a)
once (root e a) = checked_root e (value a) ∙ ap (λ (w : Worked). or_else w None (Root.root e)) (once a)

-- an exponential in a formula is the five steps of RULES 4.4: what it says beside is dropped
pub exp_is : (a : Formula) → work (e^ a) ≡ or_else (work a) None steps
unfolding work
exp_is a = alone (work a)
  where
    alone : (w : Worked) → or_else w None (λ x. answer_alone (exponential x)) ≡ or_else w None steps
    alone None = refl
    alone (Some x) = answer_is x

-- an exponential or a root of a formula, as code calls it
pub once_exp : (a : Formula) → answer_alone (exponential (value a)) ≡ work (e^ a)
unfolding value
once_exp a = sym (checked_plain (answer_alone (exponential (value a))) (exponential_sound (value a))) ∙ once (e^ a)

pub once_root : (e : Exponent) (a : Formula) → Root.root e (value a) ≡ work (root e a)
unfolding value
once_root e a = sym (checked_plain (Root.root e (value a)) (root_sound e (value a))) ∙ once (root e a)

-- ---- what a formula is worked to is finite
power_sound : (w : Worked) (n : ℕ) → T (sound w) → T (sound (w ^ᵂ n))
unfolding ◌^ᵂ◌ ◌*ᵂ◌
power_sound w zero s = checked_sound (whole 1)
power_sound w (suc zero) s = s
power_sound w (suc (suc n)) s = both_sound (Ieee.mul binary64) (w ^ᵂ suc n) w

neg_sound : (w : Worked) → T (sound w) → T (sound (or_else w None (λ x. Some (Ieee.neg x))))
unfolding Ieee.neg
neg_sound None s = tt
neg_sound (Some nan) s = s
neg_sound (Some (inf b)) s = s
neg_sound (Some (fin b m e)) s = tt

size_sound : (w : Worked) → T (sound w) → T (sound (or_else w None (λ x. Some (absolute x))))
unfolding absolute Ieee.neg
size_sound None s = tt
size_sound (Some nan) s = absurd s
size_sound (Some (inf b)) s = absurd s
size_sound (Some (fin b m e)) s = by_test (λ (x : Float). T (finite x)) (Ieee.lt (fin b m e) (whole 0)) _ _ (λ _. tt) (λ _. tt)

pub work_sound : (f : Formula) → T (sound (work f))
unfolding work ◌+ᵂ◌ ◌-ᵂ◌ ◌*ᵂ◌ ◌/ᵂ◌
work_sound (num x) = checked_sound x
work_sound (a ⊕ b) = both_sound (Ieee.add binary64) (work a) (work b)
work_sound (a ⊖ b) = both_sound (Ieee.sub binary64) (work a) (work b)
work_sound (a ⊗ b) = both_sound (Ieee.mul binary64) (work a) (work b)
work_sound (a ⊘ b) = both_sound (Ieee.div binary64) (work a) (work b)
work_sound (a ^^ n) = power_sound (work a) n (work_sound a)
work_sound (minus a) = neg_sound (work a) (work_sound a)
work_sound (size a) = size_sound (work a) (work_sound a)
work_sound (e^ a) = or_else_sound (work a) (λ x. answer_alone (exponential x)) exponential_sound
work_sound (root e a) = or_else_sound (work a) (Root.root e) (root_sound e)
