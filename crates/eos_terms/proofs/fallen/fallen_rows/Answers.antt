-- Each exponential that says so adds the rows that it serves. Assumes nothing.
use mathlib.Core.Path.{◌≡◌, refl, sym, ap, ◌∙◌}
use Prim.Native.Nat.{ℕ, ◌+◌, ◌<◌}
use native.Mathlib.Omega.{arith}
use mathlib.Core.List.{List}
use lib.Ieee.{Float, nan}
use lib.ListN.{length, get_or, take}
use Rattle.std.specs.List.{sum_by, zip}
use Rattle.std.proofs.lemmas.List.{length_push, take_all}
use Rattle.std.proofs.lemmas.List.Sums.{sum_by_more}
use Rattle.std.proofs.lemmas.Slice.Zip.{zip_turn, zip_end, length-zip, get_or-zip}
use Rattle.eos_terms.specs.Fallen.{rows_of, served, fallen_rows}
use Rattle.eos_terms.proofs.fallen.fallen_rows.Goals as goal
use Rattle.eos_terms.proofs.fallen.fallen_rows.Goals.{After-from-fallen}

abbrev rows : Float × ℕ → ℕ
rows p = rows_of p.0 p.1

more : (x : List Float) (n : List ℕ) (i : ℕ) (v : Float) (r : ℕ) → i < length x → i < length n → v ≡ get_or x i nan → r ≡ get_or n i 0
    → sum_by rows (take (i + 1) (zip x n)) ≡ sum_by rows (take i (zip x n)) + rows_of v r
more x n i v r l m e f = sum_by_more rows (zip x n) i (nan, 0) (omega (arith, length-zip x n)) ∙ rw (get_or-zip x n i (nan, 0) l m, e, f) refl

-- where this turn's pair lies
turn : (c : After-from-fallen) → let k = length c.loop-v.yielded in
    (k < length c.args.x) × (k < length served)
    × ((d : Float) → c.in-Some.v.now ≡ get_or c.args.x k d) × ((d : ℕ) → c.in-Some.rows.now ≡ get_or served k d)
turn c =
    let l = c.loop-v in
    zip_turn c.args.x served l.yielded c.into_iter-v-iterator.result l.v-iterator c.next.new.self c.next.result (cc) (cc) l.yielded_by
    (c.in-Some.v, c.in-Some.rows) c.in-Some.is c.next.ensures.steps

pub overflow_add-fallen : goal.overflow_add-fallen
overflow_add-fallen c = let t = turn c in omega arith

pub loop-v-preserved : goal.loop-v-preserved
loop-v-preserved c =
    let l = c.loop-v in
    let t = turn c in
    let p = length_push l.yielded (c.in-Some.v, c.in-Some.rows) in
    record {
      fits = omega arith;
      so_far = rw p (rw (c.from-fallen.ensures, c.rows_of.ensures, l.invariant.so_far) (sym (more c.args.x served _ _ _ t.0 t.1 (t.2 nan) (t.3 0))));
    }

pub returns : goal.returns
unfolding fallen_rows
returns c =
    let l = c.loop-v in
    let n = zip_end c.args.x served l.yielded c.into_iter-v-iterator.result l.v-iterator c.next.new.self c.next.result (cc) (cc) l.yielded_by c.in-None.is c.next.ensures.steps in
    l.invariant.so_far ∙ ap (sum_by rows) (take_all _ (zip c.args.x served) (omega (arith, n, length-zip c.args.x served)))
