-- Each turn of the loop is a turn of the definition. Assumes nothing.
use mathlib.Core.Path.{◌≡◌, sym, ap, ◌∙◌}
use mathlib.Core.List.{List, map, map-map}
use Prim.Native.Nat.{ℕ, zero, suc, ◌<◌, ◌≤◌, ◌-◌}
use native.Mathlib.Numerals.{sub-one}
use native.Mathlib.Omega.{arith}
use lib.Ieee.{Float, binary64, mul}
use Rattle.num_exponential.specs.Lockstep.{squarings}
use Rattle.num_exponential.proofs.Lanes.{itself}
use Rattle.num_exponential.proofs.lockstep.ten_squarings.Goals as goal

turn : (n : ℕ) (s : List Float) → 0 < n → map (squarings n) s ≡ map (squarings (n - 1)) (map (λ v. mul binary64 v v) s)
unfolding squarings
turn zero s h = absurd (omega arith)
turn (suc n) s h = rw sub-one (simp map-map)

end : (n : ℕ) (s : List Float) → n ≤ 0 → map (squarings n) s ≡ s
unfolding squarings
end zero s h = sym (itself s).is
end (suc n) s h = absurd (omega arith)

pub loop-n-preserved : goal.loop-n-preserved
loop-n-preserved c = let l = c.loop-n in l.invariant ∙ turn l.n l.s (omega arith) ∙ ap (map (squarings (l.n - 1))) (sym c.square.ensures)

pub returns : goal.returns
returns c = let l = c.loop-n in sym (l.invariant ∙ end l.n l.s (omega arith))
