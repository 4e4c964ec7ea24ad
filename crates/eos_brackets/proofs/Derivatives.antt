-- Five numbers, by their derivative; a sum that is asked for grows by its figure. Assumes nothing.
use mathlib.Core.Path.{◌≡◌, refl, ◌∙◌}
use mathlib.Core.Bool.{Bool, true, false, cond}
use lib.Dec.{T}
use lib.Ieee.{Float, binary64, add, mul}
use Rattle.eos_brackets.specs.Derivative.{Derivative, Delta, DeltaDelta, Tau, TauTau, DeltaTau, of, grown, asked, five}
use Rattle.eos_brackets.specs.declared.Five.{Five}

pub of_five : (f : Derivative → Float) (k : Derivative) → of (five f) k ≡ f k
of_five f Delta = refl
of_five f DeltaDelta = refl
of_five f Tau = refl
of_five f TauTau = refl
of_five f DeltaTau = refl

-- of all five each is asked for
pub all_asked : (k : Derivative) → T (asked true k)
all_asked Delta = tt
all_asked DeltaDelta = tt
all_asked Tau = tt
all_asked TauTau = tt
all_asked DeltaTau = tt

taken : (b : Bool) (x y : Float) → T b → cond b x y ≡ x
taken true x y h = refl
taken false x y h = absurd h

pub of_grown : (all : Bool) (s : Five) (term : Float) (bracket : Derivative → Float) (k : Derivative) → T (asked all k)
    → of (grown all s term bracket) k ≡ add binary64 (of s k) (mul binary64 term (bracket k))
of_grown all s term bracket k h =
    of_five (λ j. cond (asked all j) (add binary64 (of s j) (mul binary64 term (bracket j))) (of s j)) k
    ∙ taken (asked all k) _ _ h
