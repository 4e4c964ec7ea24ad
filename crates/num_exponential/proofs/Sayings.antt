-- The exponential's answer is what its steps come to, and is finite; and what it says, by whether there is an answer. Assumes nothing.
use Rattle.std.specs.Prelude.{Some, None}
use Prim.Native.Nat.{ℕ, zero, suc}
use mathlib.Core.Path.{◌≡◌, refl}
use mathlib.Core.Bool.{Bool, false}
use lib.Dec.{T}
use lib.Ieee as Ieee
use lib.Ieee.{Float, binary64}
use lib.Ieee.Scale.{finite}
use Rattle.num_working.specs.Number.{whole}
use Rattle.num_working.specs.Working.{checked, or_else, ◌*ᵂ◌, ◌/ᵂ◌, Worked}
use Rattle.num_working.proofs.Sound.{sound, both_sound, cond_sound}
use Rattle.num_exponential.specs.Exponential.{exponential, answer_alone, fell, steps, falling, squared, series, Raised}

-- ---- the answer
abbrev saying : Worked → Bool → Raised
saying w b = or_else w None (λ e. Some (record { value = e; fallen = b }))

answer_of : (w : Worked) (b : Bool) → answer_alone (saying w b) ≡ w
answer_of None b = refl
answer_of (Some e) b = refl

pub answer_is : (x : Float) → answer_alone (exponential x) ≡ steps x
unfolding exponential
answer_is x = answer_of (steps x) (Ieee.lt x (Ieee.neg (whole 36)))

-- ---- it is finite
squared_sound : (n : ℕ) (s : Worked) → T (sound (squared (suc n) s))
unfolding squared ◌*ᵂ◌
squared_sound zero s = both_sound (Ieee.mul binary64) s s
squared_sound (suc n) s = squared_sound n (s *ᵂ s)

falling_sound : (x : Float) → T (sound (falling x))
unfolding falling
falling_sound x = squared_sound 9 (series (checked (Ieee.neg x) /ᵂ checked (whole 1024)) 14 (checked (whole 1)))

steps_sound : (x : Float) → T (sound (steps x))
unfolding steps whole Ieee.of_int ◌/ᵂ◌
steps_sound x =
    cond_sound (finite x) _ None
    (cond_sound (Ieee.lt x (Ieee.neg (whole 700))) _ _ tt
    (cond_sound (Ieee.lt (whole 700) x) _ _ tt
    (cond_sound (Ieee.le x (whole 0)) _ _ (falling_sound x) (both_sound (Ieee.div binary64) (checked (whole 1)) (falling (Ieee.neg x)))))) tt

pub exponential_sound : (x : Float) → T (sound (answer_alone (exponential x)))
exponential_sound x = rw (answer_is x) (steps_sound x)

-- ---- what it says: nothing where it is refused, no where its argument is not below −36
said : (w : Worked) (b : Bool) → b ≡ false → fell (saying w b) ≡ false
said None b e = refl
said (Some x) b e = e

pub silent : (x : Float) → Ieee.lt x (Ieee.neg (whole 36)) ≡ false → fell (exponential x) ≡ false
unfolding exponential
silent x e = said (steps x) (Ieee.lt x (Ieee.neg (whole 36))) e

pub spoken : (x v : Float) → steps x ≡ Some v → fell (exponential x) ≡ Ieee.lt x (Ieee.neg (whole 36))
unfolding exponential
spoken x v e = rw e refl

pub refused : (x : Float) → finite x ≡ false → fell (exponential x) ≡ false
unfolding exponential steps
refused x e = rw e refl
