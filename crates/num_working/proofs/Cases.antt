-- What holds of both cases of a choice holds of the choice, of `cond` and of `or_else`; a number that is tested is a choice by whether it is finite;
-- and a case that can't be. Assumes nothing.
use Rattle.std.specs.Prelude.{Some, None}
use mathlib.Core.Path.{◌≡◌, refl}
use mathlib.Core.Bool.{Bool, true, false, cond}
use Prim.Native.Nat.{ℕ}
use native.Mathlib.Omega.{arith}
use lib.Ieee.{Float, nan, inf, fin}
use lib.Ieee.Scale.{finite}
use Rattle.num_working.specs.Working.{checked, or_else, Worked}

module _ {A : Type 0} (P : A → Type 0) where
  pub by_test : (b : Bool) (x y : A) → (b ≡ true → P x) → (b ≡ false → P y) → P (cond b x y)
  by_test true x y f g = f refl
  by_test false x y f g = g refl

  pub by_working : (w : Worked) (z : A) (f : Float → A) → (w ≡ None → P z) → ((x : Float) → w ≡ Some x → P (f x)) → P (or_else w z f)
  by_working None z f g h = g refl
  by_working (Some x) z f g h = h x refl

pub tested_choice : {A : Type 0} (x : Float) (z : A) (f : Float → A) → or_else (checked x) z f ≡ cond (finite x) (f x) z
tested_choice nan z f = refl
tested_choice (inf s) z f = refl
tested_choice (fin s m e) z f = refl

-- where two constructors would be one: `never (cc)`
pub never : {A : Type 0} → ◌≡◌ {A = ℕ} 0 1 → A
never z = absurd (omega arith)
