-- Each return is what the tests before it make of the definition. Assumes nothing.
use mathlib.Core.Path.{sym, ◌∙◌}
use Prim.Native.Nat.{◌*◌}
use native.Mathlib.Omega.{arith}
use borrow.Author.Tests.{lt-ltb, le-ltb}
use lib.Ieee.{of_bits, of_int}
use Rattle.num_working.specs.Number.{whole}
use Rattle.num_roots.specs.Side.{searchable}
use Rattle.num_roots.proofs.root.searchable.Goals as goal

pub returns-then-k-m : goal.returns-then-k-m
unfolding searchable
returns-then-k-m c =
    let e = c.args.e in
    simp (searchable, le-ltb e.m (2 * e.k) (omega arith))

pub returns-then-k-gt51 : goal.returns-then-k-gt51
unfolding searchable
returns-then-k-gt51 c =
    let e = c.args.e in
    simp (searchable, lt-ltb e.m (2 * e.k) (omega arith), le-ltb e.k 52 (omega arith))

pub returns-then-x : goal.returns-then-x
unfolding searchable of_bits of_int whole
returns-then-x c =
    let e = c.args.e in
    simp (searchable, lt-ltb e.m (2 * e.k) (omega arith), lt-ltb e.k 52 (omega arith), c.if-x.true)

pub returns-then-x-2 : goal.returns-then-x-2
unfolding searchable of_bits of_int whole
returns-then-x-2 c =
    let e = c.args.e in
    simp (searchable, lt-ltb e.m (2 * e.k) (omega arith), lt-ltb e.k 52 (omega arith), c.if-x.false, c.if-x-2.true)

pub returns : goal.returns
unfolding searchable of_bits of_int whole
returns c =
    let e = c.args.e in
    c.is_finite.ensures
    ∙ sym (simp (searchable, lt-ltb e.m (2 * e.k) (omega arith), lt-ltb e.k 52 (omega arith), c.if-x.false, c.if-x-2.false))
