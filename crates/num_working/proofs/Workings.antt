-- A number is tested once at the end: what is not finite stays so through +, −, × and a division by a finite number. Assumes nothing.
use Rattle.std.specs.Prelude.{Some, None}
use mathlib.Core.Path.{◌≡◌, refl, sym}
use mathlib.Core.Bool.{Bool, true, false, cond, not, true≢false, beq}
use lib.Dec.{T, eqb}
use lib.Ieee as Ieee
use lib.Ieee.{Float, nan, inf, fin, binary64, unlike}
use lib.Ieee.Scale.{finite}
use Rattle.num_working.proofs.Cases.{never}
use Rattle.num_working.specs.Working.{checked, ◌+ᵂ◌, ◌-ᵂ◌, ◌*ᵂ◌, ◌/ᵂ◌}

-- ---- the test
pub checked_finite : (x : Float) → finite x ≡ true → Some x ≡ checked x
checked_finite nan h = absurd (true≢false (sym h))
checked_finite (inf s) h = absurd (true≢false (sym h))
checked_finite (fin s m e) h = refl

pub checked_failed : (x : Float) → finite x ≡ false → None ≡ checked x
checked_failed nan h = refl
checked_failed (inf s) h = refl
checked_failed (fin s m e) h = absurd (true≢false h)

pub checked_number : (x y : Float) → checked x ≡ Some y → (x ≡ y) × T (finite x)
checked_number nan y e = never (cc)
checked_number (inf s) y e = never (cc)
checked_number (fin s m e) y g = (cc, tt)

-- ---- the operations
nan_or_inf : (b c : Bool) → checked (cond b nan (inf c)) ≡ None
nan_or_inf true c = refl
nan_or_inf false c = refl

inf_or_nan : (b c : Bool) → checked (cond b (inf c) nan) ≡ None
inf_or_nan true c = refl
inf_or_nan false c = refl

pub checked_add : (x y : Float) → checked (Ieee.add binary64 x y) ≡ checked x +ᵂ checked y
unfolding Ieee.add ◌+ᵂ◌
checked_add nan y = refl
checked_add (inf s) nan = refl
checked_add (inf s) (inf t) = inf_or_nan (beq s t) s
checked_add (inf s) (fin t n d) = refl
checked_add (fin s m e) nan = refl
checked_add (fin s m e) (inf t) = refl
checked_add (fin s m e) (fin t n d) = refl

pub checked_sub : (x y : Float) → checked (Ieee.sub binary64 x y) ≡ checked x -ᵂ checked y
unfolding Ieee.sub ◌-ᵂ◌
checked_sub nan y = refl
checked_sub (inf s) nan = refl
checked_sub (inf s) (inf t) = inf_or_nan (beq s (not t)) s
checked_sub (inf s) (fin t n d) = refl
checked_sub (fin s m e) nan = refl
checked_sub (fin s m e) (inf t) = refl
checked_sub (fin s m e) (fin t n d) = refl

pub checked_mul : (x y : Float) → checked (Ieee.mul binary64 x y) ≡ checked x *ᵂ checked y
unfolding Ieee.mul ◌*ᵂ◌
checked_mul nan y = refl
checked_mul (inf s) nan = refl
checked_mul (inf s) (inf t) = refl
checked_mul (inf s) (fin t n d) = nan_or_inf (eqb n 0) (unlike s t)
checked_mul (fin s m e) nan = refl
checked_mul (fin s m e) (inf t) = nan_or_inf (eqb m 0) (unlike s t)
checked_mul (fin s m e) (fin t n d) = refl

-- the divisor has to be known finite: a number over an infinity is 0
pub checked_div : (x y : Float) → T (finite y) → checked (Ieee.div binary64 x y) ≡ checked x /ᵂ checked y
unfolding Ieee.div ◌/ᵂ◌
checked_div x nan h = absurd h
checked_div x (inf t) h = absurd h
checked_div nan (fin t n d) h = refl
checked_div (inf s) (fin t n d) h = refl
checked_div (fin s m e) (fin t n d) h = refl
