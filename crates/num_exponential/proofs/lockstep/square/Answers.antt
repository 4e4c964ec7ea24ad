-- A turn squares the i-th number, and the last has squared all. Assumes nothing.
use mathlib.Core.Path.{◌≡◌, ◌∙◌}
use mathlib.Core.List.{List}
use Prim.Native.Nat.{ℕ, ◌+◌, ◌<◌}
use native.Mathlib.Omega.{arith}
use lib.Ieee.{Float, binary64, mul, nan}
use lib.ListN.{length, length-set, set, get_or}
use Rattle.std.proofs.Common.{◌≢◌, get_or-set_other}
use Rattle.std.proofs.lemmas.List.Edits.{fill_by_more}
use Rattle.num_exponential.proofs.Lanes.{is_map}
use Rattle.num_exponential.proofs.lockstep.square.Goals as goal

abbrev sq : Float → Float
sq v = mul binary64 v v

placed : (x s : List Float) (i : ℕ) → i < length s → ((k : ℕ) → k < i → get_or s k nan ≡ sq (get_or x k nan)) → get_or s i nan ≡ get_or x i nan
    → (k : ℕ) → k < i + 1 → get_or (set s i (sq (get_or s i nan))) k nan ≡ sq (get_or x k nan)
placed x s i n d e k h = rw e (fill_by_more (λ k. sq (get_or x k nan)) s i nan n d k h)

pub loop-i-preserved : goal.loop-i-preserved
loop-i-preserved c =
    let l = c.loop-i in
    record {
      long = length-set _ _ _ ∙ l.invariant.long;
      done = placed c.args.s.now l.s l.i (omega arith) l.invariant.done (l.invariant.left l.i (omega arith));
      left = λ k h. let ne : k ≢ l.i = omega arith in rw get_or-set_other (l.invariant.left k (omega arith));
    }

pub returns : goal.returns
returns c = let l = c.loop-i in is_map sq c.args.s.now l.s (omega arith) (λ k n. l.invariant.done k (omega arith))
