-- Each return is the arm of the definition that the tests before it lead to; past k = 51 the search fails at once. Assumes nothing.
use mathlib.Core.Path.{◌≡◌, sym, ◌∙◌}
use mathlib.Core.Bool.{true}
use Prim.Native.Nat.{◌*◌}
use native.Mathlib.Omega.{arith}
use borrow.Author.Tests.{lt-ltb, le-ltb}
use lib.Dec.{ltb}
use lib.Ieee.{of_bits, of_int}
use lib.Ieee.Scale.{finite}
use Rattle.num_working.specs.Number.{whole}
use Rattle.num_roots.specs.Root.{root, searched}
use Rattle.num_working.proofs.Numbers.{above_0}
use Rattle.num_roots.proofs.Roots.{search_fails}
use Rattle.num_roots.proofs.root.looked_for.Goals as goal
use Rattle.num_roots.proofs.root.looked_for.Goals.{Else-x-2, Start}

abbrev begun : Else-x-2 → Start
begun c = c.before.before.before.before.before

finite_so : (c : Else-x-2) → finite (begun c).args.x ≡ true
finite_so c = sym c.is_finite.ensures ∙ c.if-not-is_finite.false

-- past the exact cases
rest : (c : Else-x-2)
    → root (begun c).args.e (begun c).args.x ≡ searched (begun c).args.e.m (begun c).args.e.k (begun c).args.x
unfolding root of_bits of_int whole
rest c =
    let e = (begun c).args.e in
    let b : ltb e.m (2 * e.k) ≡ true = lt-ltb e.m (2 * e.k) (omega arith) in
    simp (root, b, finite_so c, c.if-x.false, c.if-x-2.false)

pub returns-then-k-m : goal.returns-then-k-m
unfolding root
returns-then-k-m c =
    let e = c.args.e in
    simp (root, le-ltb e.m (2 * e.k) (omega arith))

pub returns-then-not-is_finite : goal.returns-then-not-is_finite
unfolding root
returns-then-not-is_finite c =
    let e = c.args.e in
    simp (root, lt-ltb e.m (2 * e.k) (omega arith), sym c.is_finite.ensures ∙ c.if-not-is_finite.true)

pub returns-then-x : goal.returns-then-x
unfolding root of_bits of_int whole
returns-then-x c =
    let e = c.args.e in
    simp (root, lt-ltb e.m (2 * e.k) (omega arith), sym c.is_finite.ensures ∙ c.if-not-is_finite.false, c.if-x.true)

pub returns-then-x-2 : goal.returns-then-x-2
unfolding root of_bits of_int whole
returns-then-x-2 c =
    let e = c.args.e in
    let f = sym c.is_finite.ensures ∙ c.if-not-is_finite.false in
    simp (root, lt-ltb e.m (2 * e.k) (omega arith), f, c.if-x.false, c.if-x-2.true)

pub returns-then-k-gt51 : goal.returns-then-k-gt51
returns-then-k-gt51 c =
    let a = c.args in
    sym (rest (goal.at.returns-then-k-gt51 c).Else-x-2 ∙ search_fails a.e.m a.e.k a.x (omega arith))

pub searched-requires : goal.searched-requires
unfolding of_bits of_int whole
searched-requires c =
    record { t = above_0 c.args.x (finite_so (goal.at.searched-requires c).Else-x-2) c.if-x.false c.if-x-2.false; le_k = (omega arith, omega arith, omega arith) }

pub returns : goal.returns
returns c = c.searched.ensures ∙ sym (rest (goal.at.returns c).Else-x-2)
