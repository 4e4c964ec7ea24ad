-- Before the line at i the one array holds the marks of those before it, and the other their cylinder numbers. Assumes nothing.
use mathlib.Core.Path.{◌≡◌, refl, sym, ◌∙◌}
use Prim.Native.Nat.{◌+◌}
use native.Mathlib.Omega.{arith}
use borrow.Author.Rules.{rules}
use lib.ListN.{length, take}
use lib.Seq.{length-take-le}
use Rattle.sheet_line.specs.Line.{blank_line}
use Rattle.sheet_read.specs.Padded.{padded}
use Rattle.sheet_weigh.specs.Sheet.{marks_for, marked_after, marked}
use Rattle.sheet_weigh.proofs.Knowns.{Known, none_known, known_most, known_room, known_taken, one_blank, one_known}
use Rattle.sheet_weigh.proofs.Markings.{marked_length, held_more}
use Rattle.sheet_weigh.proofs.weigh_all.Goals as goal
use Rattle.sheet_weigh.proofs.weigh_all.Goals.{in-Some, in_default}

pub loop-i-init : goal.loop-i-init
unfolding marks_for marked marked_after padded
loop-i-init c = (refl, none_known _)

pub slice_bounds-weigh_after-end : goal.slice_bounds-weigh_after-end
slice_bounds-weigh_after-end c =
    let k = c.loop-i.invariant.1 in
    sym (length-take-le c.loop-i.known c.loop-i.numbers (omega (arith, known_most k, known_room k)))

pub loop-i-preserved : goal.loop-i-preserved
loop-i-preserved c =
    let ls = c.args.s.lines in
    let i = c.loop-i.i in
    let size : length ls ≡ 32 = search rules in
    let k = c.loop-i.invariant.1 in
    let w = rw (known_taken k (omega arith)) at c.weigh_after.ensures in
    let after : Known ls (i + 1) c.match-l.numbers c.match-l.known =
    elim c.match-l.branch [
      | in-Some w ↦ rw (w.numbers-is, w.known-is) (one_known k blank_line (omega arith) _ (omega arith) w.in-Some.is)
      | in_default w ↦ rw (w.numbers-is, w.known-is) (one_blank k blank_line (omega arith) w.in_default.is)
    ] in
    (held_more c.args.limits ls i blank_line _ _ (omega arith) (omega arith) w c.loop-i.invariant.0, after)

pub returns : goal.returns
unfolding marks_for
returns c =
    let s = c.args.s in
    let ls = take s.count s.lines in
    let size : length s.lines ≡ 32 = search rules in
    let all : c.loop-i.i ≡ s.count = omega arith in
    let many : length (marked c.args.limits ls) ≡ s.count = marked_length c.args.limits ls ∙ length-take-le s.count s.lines (omega arith) in
    rw (c.loop-i.invariant.0, all, many)
