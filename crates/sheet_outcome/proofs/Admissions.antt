-- A sheet that is admitted has 32 lines at most. Assumes nothing.
use Rattle.std.specs.Prelude.{Ok, Err}
use Rattle.refusal.specs.Refused.{refused}
use Rattle.refusal.specs.declared.Refusal.{Refusal}
use mathlib.Core.Path.{◌≡◌, refl}
use mathlib.Core.Bool.{Bool, true, false, not, cond}
use Prim.Native.Nat.{ℕ, ◌≤◌}
use lib.Dec.{ltb, eqb}
use borrow.Author.Tests.{ltb-false}
use Rattle.sheet_text.specs.Field.{Field}
use Rattle.sheet_outcome.specs.Outcome.{needed, admitted, Admitted}

no_need : {A : Type 0} {r : Refusal} {mg : ℕ} → ◌≡◌ {A = Admitted} (Err r) (Ok mg) → A
no_need e = cc

pub few : (ok : Bool) (n : ℕ) (f : Field) (mg : ℕ) → admitted ok n f ≡ Ok mg → n ≤ 32
unfolding admitted
few ok n f mg e = go (not ok) (eqb n 0) (ltb 32 n) refl e
  where
    go : (a b c : Bool) → ltb 32 n ≡ c
        → cond a (refused 14) (cond b (refused 10) (cond c (refused 11) (needed f))) ≡ Ok mg → n ≤ 32
    go true b c l q = no_need q
    go false true c l q = no_need q
    go false false true l q = no_need q
    go false false false l q = ltb-false 32 n l
