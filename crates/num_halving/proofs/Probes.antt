-- What a probe of a figure shows that is finite where it is worked. Assumes nothing.
use Rattle.std.specs.Prelude.{Some}
use mathlib.Core.Path.{◌≡◌}
use mathlib.Core.Bool.{true, false}
use Prim.Native.Nat.{ℕ}
use lib.Ieee.{Float, lt}
use lib.Ieee.Scale.{finite}
use Rattle.num_halving.specs.Halving.{Figure, NotAbove, Above, Worthy, worthy}

module _ (f : Figure) (sound : (b : ℕ) (x : Float) → f b ≡ Some x → finite x ≡ true) (b : ℕ) (x : Float) (e : f b ≡ Some x) where
  pub is_above : (t : Float) → lt t x ≡ true → Above f t b
  is_above t h = record { number = x; worked = e; bounded = sound b x e; stands = h }

  pub is_not_above : (t : Float) → lt t x ≡ false → NotAbove f t b
  is_not_above t h = record { number = x; worked = e; bounded = sound b x e; stands = h }

  pub is_worthy : Worthy f b
  is_worthy = worthy x e (sound b x e)
