-- The marks are the lines', 32 at most and each light enough to be added. Assumes nothing.
use Rattle.std.specs.Prelude.{Float}
use mathlib.Core.List.{List}
use Prim.Native.Nat.{ℕ, ◌≤◌}
use native.Mathlib.Omega.{arith}
use lib.ListN.{length, take, length-take}
use Rattle.sheet_line.specs.declared.line.Line.{Line}
use Rattle.sheet_weigh.proofs.Markings.{marks_of_lem, fit_to_add}
use Rattle.sheet_weigh.proofs.work.Goals as goal

few : (n : ℕ) (ls : List (Line Float)) → n ≤ 32 → length (take n ls) ≤ 32
few n ls h = omega (arith, length-take n ls)

pub total-requires : goal.total-requires
total-requires c =
    let s = c.args.s in
    let f = fit_to_add c.args.limits (take s.count s.lines) (few s.count s.lines c.requires) in
    rw c.weigh_all-marks.ensures (record { count_bound = f.0; light = f.1 })

pub returns : goal.returns
returns c =
    let s = c.args.s in
    rw (c.conclude.ensures, c.total.ensures, c.weigh_all-marks.ensures, marks_of_lem _ _ (few s.count s.lines c.requires))
