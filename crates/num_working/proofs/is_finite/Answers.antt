-- The library's test is that of the definition, whatever kind of number x is. Assumes nothing.
use mathlib.Core.Path.{◌≡◌, refl}
use mathlib.Core.Bool.{Bool, true, false}
use Prim.Native.Nat.{ℕ}
use lib.Ieee.{Float, nan, inf, fin, lt, of_bits}
use lib.IntN.{ℤ}
use Rattle.std.specs.Float.{float_is_finite}
use Rattle.num_working.proofs.is_finite.Goals as goal

by_kind : {A : Type 0} (x : Float) → (x ≡ nan → A) → (x ≡ inf true → A) → (x ≡ inf false → A) → ((s : Bool) (m : ℕ) (e : ℤ) → x ≡ fin s m e → A) → A
by_kind nan f g h k = f refl
by_kind (inf true) f g h k = g refl
by_kind (inf false) f g h k = h refl
by_kind (fin s m e) f g h k = k s m e refl

pub returns : goal.returns
unfolding float_is_finite lt of_bits
returns c = rw c.is_finite.ensures.value (by_kind c.args.x (λ p. rw p refl) (λ p. rw p refl) (λ p. rw p refl) (λ s m e p. rw p refl))
