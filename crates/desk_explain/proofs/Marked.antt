-- What a line's explanation takes is what the report has of the line. Assumes nothing.
use Rattle.std.specs.Prelude.{Float, Ok, Some, true}
use Rattle.refusal.specs.Refused.{refused}
use mathlib.Core.Path.{◌≡◌, refl, sym, ap, ◌∙◌}
use mathlib.Core.List.{List}
use Prim.Native.Nat.{ℕ, ◌≤◌, ◌<◌}
use native.Mathlib.Omega.{arith}
use lib.ListN.{length, take, get_or}
use lib.Seq.{get_or-take, take-take, length-take-le}
use Rattle.door_limits.specs.declared.Limits.{Limits}
use Rattle.sheet_line.specs.declared.line.Line.{Line}
use Rattle.sheet_read.specs.declared.Sheet.{Sheet}
use Rattle.sheet_outcome.specs.Outcome.{admitted, Weighed}
use Rattle.sheet_outcome.proofs.Admissions.{few}
use Rattle.sheet_standing.specs.Standing.{numbers}
use Rattle.sheet_weigh.specs.Weighing.{weighed_after}
use Rattle.sheet_weigh.specs.Sheet.{marks_for, marked, outcome}
use Rattle.sheet_weigh.proofs.Markings.{marked_length, marked_at, marks_of_lem}
use Rattle.desk_look.specs.Held.{look}
use Rattle.desk_look.proofs.Agrees.{weighs, same_as_report}
use Rattle.desk_explain.specs.Explain.{mark_at}

module _ (L : Limits) where
  of_lines : (ls : List (Line Float)) (i : ℕ) (d : Line Float) → length ls ≤ 32 → i < length ls
      → mark_at (marks_for (marked L ls)) i ≡ weighed_after L (numbers (take i ls)) (get_or ls i d)
  unfolding marks_for
  of_lines ls i d h k =
      let m = marks_for (marked L ls) in
      let none : Weighed = refused 0 in
      let there = get_or-take m.count m.marks i none (omega (arith, marked_length L ls)) in
      let back = ap (λ (ms : List Weighed). get_or ms i none) (marks_of_lem L ls h) in
      sym there ∙ back ∙ marked_at L ls i none d k

  -- of a text that is in the form
  module _ (s : Sheet) (mg : ℕ) (e : admitted true s.count s.need ≡ Ok mg) (size : length s.lines ≡ 32) where
    -- of a sheet that is worked, the line after i others: what came of it after those
    pub marked_as : (i : ℕ) (d : Line Float) → i < s.count
        → mark_at (outcome L (Some s)).marks i ≡ weighed_after L (numbers (take i s.lines)) (get_or s.lines i d)
    unfolding outcome
    marked_as i d k =
        let n = s.count in
        let ls = s.lines in
        let most : n ≤ 32 = few _ _ _ mg e in
        let long : length (take n ls) ≡ n = length-take-le n ls (omega arith) in
        rw (e)
        (of_lines (take n ls) i d (omega arith) (omega arith)
        ∙ rw (take-take i n ls (omega arith), get_or-take n ls i d k) refl)

    -- THE EXPLANATION OF A LINE IS THAT OF ITS REPORT
    pub explained : (i : ℕ) (d : Line Float) → i < s.count
        → weighs (look L (mark_at (outcome L (Some s)).marks i) (get_or s.lines i d)) ≡ mark_at (outcome L (Some s)).marks i
    explained i d k = rw (marked_as i d k) (same_as_report L (numbers (take i s.lines)) (get_or s.lines i d))
