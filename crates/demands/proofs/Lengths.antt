-- How long a report is, whatever the text: at most 32 lines of 46 bytes and an ending of 40, since each number has 20 digits at most. Assumes nothing.
use Rattle.std.specs.Prelude.{Ok, Err}
use Prim.Native.Nat.{ℕ, suc, ◌+◌, ◌*◌, ◌^◌, ◌≤◌, ◌<◌}
use mathlib.Core.Path.{◌≡◌, refl, ◌∙◌}
use mathlib.Core.List.{List, [], ◌∷◌, ◌++◌, map}
use native.Mathlib.Omega.{arith}
use lib.ListN.{length, get_or, length-append, length-map}
use Rattle.sheet_text.specs.Decimal.{decimal}
use Rattle.sheet_text.proofs.Decimals.{digits_most}
use Rattle.sheet_mass.specs.Mass.{as_milligrams}
use Rattle.sheet_line.specs.Line.{line_of}
use Rattle.sheet_line.specs.declared.cylinder.Cylinder.{Cylinder}
use Rattle.sheet_read.specs.Form.{Bank, in_form}
use Rattle.door_limits.specs.declared.Limits.{Limits}
use Rattle.sheet_weigh.specs.Sheet.{marked}
use Rattle.sheet_weigh.proofs.Markings.{marked_length, all_light}
use Rattle.sheet_write.specs.Writing.{ascii}
use Rattle.sheet_report.specs.Report.{line_bytes, lines_bytes, ending_bytes}
use Rattle.sheet_outcome.specs.Outcome.{Weighed}
use Rattle.sheet_outcome.specs.declared.Ending.{Ending}
use Rattle.sheet_report.proofs.Reports.{between_length, number_of, line_size}
use Rattle.sheet_score.specs.Score.{report}
use Rattle.demands.specs.Demands.{Numbered, to_9, is_19}
use Rattle.demands.specs.Twice.{no_mark, came, as_door, is_23, NumberedAt, as_alone, is_30}
use Rattle.demands.specs.Sheets as sheets
use Rattle.demands.specs.Sheets.{sum, AllWeighed, Lined, Reported, not_in_form, no_lines, many_lines, no_need, one_refused, named_twice, covered, short}
use Rattle.demands.proofs.Twice.{refusals_at}
use Rattle.demands.proofs.Numbers.{number_at}
use Rattle.demands.proofs.Sheets.{reported, largest_total}

-- ---- the parts

between_most : (front : List ℕ) (n : ℕ) (back : List ℕ) → n < 10 ^ 20 → length (front ++ decimal n ++ back) ≤ length front + 20 + length back
between_most front n back h = let d = digits_most 19 n h in omega (arith, between_length front n back)

numbered_most : {n : ℕ} → Numbered 1 n → n < 10 ^ 20
numbered_most (to_9 n h k) = omega arith
numbered_most is_19 = omega arith

at_most : {n : ℕ} → NumberedAt n → n < 10 ^ 20
at_most (as_alone (as_door k)) = numbered_most k
at_most (as_alone is_23) = omega arith
at_most is_30 = omega arith

-- a line's number: its milligrams, or its refusal's
number_most : (L : Limits) (cs : List Cylinder) (i : ℕ) → i < length cs → number_of (came L cs i) < 10 ^ 20
number_most L cs i h = go (came L cs i) refl
  where
    go : (w : Weighed) → came L cs i ≡ w → number_of w < 10 ^ 20
    go (Err n) e = at_most (number_at ((refusals_at L cs i h n.0).0 e))
    go (Ok mg) e =
        let m = marked_length L (map line_of cs) in
        let u = all_light L (map line_of cs) i mg no_mark (omega (arith, m, length-map cs line_of)) e in
        omega (arith, u)

line_most : (i : ℕ) (w : Weighed) → i < 10 ^ 20 → number_of w < 10 ^ 20 → length (line_bytes i w) ≤ 46
line_most i w h k = omega (arith, line_size i w, digits_most 19 i h, digits_most 19 (number_of w) k)

lines_most : (i : ℕ) (ms : List Weighed) → ((k : ℕ) → k < length ms → number_of (get_or ms k no_mark) < 10 ^ 20) → i + length ms < 10 ^ 20
    → length (lines_bytes i ms) ≤ length ms * 46
unfolding lines_bytes
lines_most i [] each h = omega arith
lines_most i (m ∷ ms) each h =
    let ih = lines_most (i + 1) ms (λ k g. each (suc k) (omega (arith, g))) (omega arith) in
    let l = line_most i m (omega arith) (each 0 (omega arith)) in
    simp length-append (omega arith)

-- what an ending writes
abbrev number_in : Ending → ℕ
number_in (Ending.Covered mg) = mg.0
number_in (Ending.Short mg) = mg.0
number_in (Ending.SentBack n) = n.0

ending_most : (e : Ending) → number_in e < 10 ^ 20 → (1 ≤ length (ending_bytes e)) × (length (ending_bytes e) ≤ 40)
unfolding ending_bytes
ending_most (Ending.Covered mg) h = (omega arith, omega (arith, between_most (ascii "TOTAL ") mg.0 (ascii " COVERED\n") h))
ending_most (Ending.Short mg) h = (omega arith, omega (arith, between_most (ascii "TOTAL ") mg.0 (ascii " SHORT\n") h))
ending_most (Ending.SentBack n) h = (omega arith, omega (arith, between_most (ascii "SENT BACK ") n.0 (ascii "\n") h))

-- ---- the report

abbrev Sized : List ℕ → Type 0
Sized bs = (1 ≤ length bs) × (length bs ≤ 1512)

module _ (L : Limits) (t : List ℕ) where
  alone : (n : ℕ) → n < 10 ^ 20 → Sized (ending_bytes (Ending.SentBack (record { 0 = n })))
  alone n h = let r = ending_most (Ending.SentBack (record { 0 = n })) h in (r.0, omega (arith, r.1))

  after_lines : {b : Bank} → Lined t b → (e : Ending) → number_in e < 10 ^ 20 → Sized (lines_bytes 1 (marked L (sheets.lines b)) ++ ending_bytes e)
  after_lines {b} l e h =
      let n = marked_length L (sheets.lines b) ∙ length-map b.cylinders line_of in
      let each : (k : ℕ) → k < length (marked L (sheets.lines b)) → number_of (came L b.cylinders k) < 10 ^ 20 =
      λ k g. number_most L b.cylinders k (omega (arith, g, n)) in
      let m = lines_most 1 (marked L (sheets.lines b)) each (omega (arith, n, l.at_most)) in
      let r = ending_most e h in
      (simp length-append (omega (arith, r.0)), simp length-append (omega (arith, r.1, m, n, l.at_most)))

  total_most : {b : Bank} {mgs : List ℕ} → Lined t b → AllWeighed L (sheets.lines b) mgs → sum mgs < 10 ^ 20
  total_most {b} l a = omega (arith, largest_total L a (omega (arith, length-map b.cylinders line_of, l.at_most)))

  report_length : {bs : List ℕ} → Reported L t bs → Sized bs
  report_length (not_in_form e) = alone 14 (omega arith)
  report_length (no_lines e z) = alone 10 (omega arith)
  report_length (many_lines e h) = alone 11 (omega arith)
  report_length (no_need l n) = alone 12 (omega arith)
  report_length (one_refused n r) = after_lines n.lined (Ending.SentBack (record { 0 = 13 })) (omega arith)
  report_length (named_twice n w) = after_lines n.lined (Ending.SentBack (record { 0 = 13 })) (omega arith)
  report_length (covered {b} {need} {mgs} n once a h) = after_lines n.lined (Ending.Covered (as_milligrams (sum mgs))) (total_most n.lined a)
  report_length (short {b} {need} {mgs} n once a h) = after_lines n.lined (Ending.Short (as_milligrams (sum mgs))) (total_most n.lined a)

-- EVERY REPORT has at least one byte and at most 1,512
pub length_of_report : (L : Limits) (t : List ℕ) → (1 ≤ length (report L (in_form t))) × (length (report L (in_form t)) ≤ 1512)
length_of_report L t = report_length L t (reported L t)
