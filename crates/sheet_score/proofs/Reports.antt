-- What the arrays of 32 hold is the sheet's lines and their marks, so the outcome's report is the sheet's. Assumes nothing.
use Rattle.std.specs.Prelude.{Float, Ok, Err, Option, Some, None}
use mathlib.Core.Path.{◌≡◌, refl}
use mathlib.Core.Bool.{true}
use mathlib.Core.List.{List, [], map}
use Prim.Native.Nat.{◌≤◌}
use native.Mathlib.Omega.{arith}
use lib.ListN.{length, take, length-map}
use Rattle.door_limits.specs.declared.Limits.{Limits}
use Rattle.refusal.specs.declared.Refusal.{Refusal}
use Rattle.sheet_line.specs.Line.{line_of, blank_line}
use Rattle.sheet_line.specs.declared.line.Line.{Line}
use Rattle.sheet_read.specs.Form.{Bank}
use Rattle.sheet_read.specs.Padded.{padded}
use Rattle.sheet_read.specs.Sheet.{sheet_of, sheet_read}
use Rattle.sheet_read.proofs.Paddings.{taken_back}
use Rattle.sheet_outcome.specs.Outcome.{admitted, Admitted, Weighed}
use Rattle.sheet_outcome.proofs.Admissions.{few}
use Rattle.sheet_weigh.specs.Sheet.{marks_for, finished, marked, outcome}
use Rattle.sheet_weigh.proofs.Markings.{marks_of_lem}
use Rattle.sheet_report.specs.Report.{lines_bytes, report_bytes}
use Rattle.sheet_score.specs.Score.{sent_back, listed, report}

-- a sheet that is sent back has the one line
sent_back_lem : (refusal : Refusal) (ms : List Weighed) → report_bytes (finished (Err refusal) ms) ≡ sent_back refusal.0
unfolding report_bytes lines_bytes marks_for
sent_back_lem refusal ms = refl

module _ (L : Limits) where
  module _ (b : Bank) where
    abbrev lines : List (Line Float)
    lines = map line_of b.cylinders

    lines_back : length b.cylinders ≤ 32 → take (length b.cylinders) (padded blank_line 32 lines) ≡ lines
    lines_back h =
        let n = length-map b.cylinders line_of in
        rw (← n) (taken_back blank_line 32 lines (omega (arith, n)))

    by_admission : (a : Admitted) → admitted true (length b.cylinders) b.need ≡ a
        → report_bytes (finished a (marked L (take (length b.cylinders) (padded blank_line 32 lines)))) ≡ listed a (marked L lines)
    unfolding report_bytes
    by_admission (Err refusal) e = sent_back_lem refusal (marked L lines)
    by_admission (Ok mg) e =
        let h = few true (length b.cylinders) b.need mg e in
        rw (lines_back h, marks_of_lem L lines (omega (arith, length-map b.cylinders line_of)))

  pub reported : (o : Option Bank) → report_bytes (outcome L (sheet_read o)) ≡ report L o
  unfolding report outcome sheet_of admitted
  reported None = sent_back_lem (record { 0 = 14 }) []
  reported (Some b) = by_admission b (admitted true (length b.cylinders) b.need) refl
