-- A turn writes the i-th power at its place, and the last has written all N. Assumes nothing.
use mathlib.Core.Path.{◌≡◌, refl, ap, ◌∙◌}
use Prim.Native.Nat.{◌<◌}
use native.Mathlib.Omega.{arith}
use lib.Ieee.{Float, binary64, mul, nan, of_bits, of_int}
use lib.ListN.{length-replicate, length-set, get_or-replicate}
use Rattle.num_working.specs.Number.{whole}
use Rattle.num_powers.specs.Power.{power}
use Rattle.num_powers.proofs.Powers.{power_next}
use Rattle.std.proofs.lemmas.List.Edits.{fill_by_more}
use Rattle.std.proofs.lemmas.List.FromFn.{fill_by_all}
use Rattle.eos_powers.proofs.first_powers.Goals as goal

pub loop-i-init : goal.loop-i-init
unfolding power whole of_bits of_int
loop-i-init g c = record {
  long = length-replicate _ _;
  next = refl;
  placed = λ k h n. let e : k ≡ 0 = omega arith in rw e (get_or-replicate g.row.N 0 (whole 1) nan (let m : 0 < g.row.N = omega arith in m));
}

pub loop-i-preserved : goal.loop-i-preserved
loop-i-preserved g c =
    let l = c.loop-i in
    let x = c.args.x in
    let long = l.invariant.long in
    record {
      long = length-set _ _ _ ∙ long;
      next = ap (λ (p : Float). mul binary64 p x) l.invariant.next ∙ power_next x l.i (omega arith);
      placed = λ k h n. rw (l.invariant.next)
          (fill_by_more (power x) l.powers l.i nan (omega arith) (λ j below. l.invariant.placed j below (omega arith)) k h);
    }

pub returns : goal.returns
returns g c =
    let l = c.loop-i in
    fill_by_all (power c.args.x) l.powers g.row.N nan l.invariant.long (λ k h. l.invariant.placed k (omega arith) h)
