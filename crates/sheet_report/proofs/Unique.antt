-- No second answer meets a public function's promise, and no other bytes: two runs over the same output leave the
-- same answer and the same bytes. Assumes nothing.
use Rattle.std.specs.Prelude.{Ok, Err}
use mathlib.Core.Path.{◌≡◌, ap}
use mathlib.Core.List.{List}
use Prim.Native.Nat.{ℕ}
use native.Mathlib.Omega.{arith}
use contract.Lifetimes.{Lfts}
use Rattle.num_working.proofs.Unique.{by_equation}
use Rattle.sheet_write.proofs.Unique.{OneWriting}
use Rattle.sheet_report.specs.Report.{ReportIs, Written}
use Rattle.sheet_report.proofs.write_report.Reads as write_report

pub one_report : (o bs xs ys : List ℕ) (r s : Written) → ReportIs o xs bs r → ReportIs o ys bs s → (r ≡ s) × (xs ≡ ys)
one_report o bs xs ys (Ok n) (Ok k) p q = (ap Ok (by_equation p.0.count q.0.count), by_equation p.0.bytes q.0.bytes)
one_report o bs xs ys (Ok n) (Err k) p q = absurd (omega (arith, p.1, q.2))
one_report o bs xs ys (Err n) (Ok k) p q = absurd (omega (arith, p.2, q.1))
one_report o bs xs ys (Err n) (Err k) p q = (ap (λ (k : ℕ). Err (record { 0 = k })) (by_equation p.0 q.0), by_equation p.1 q.1)

pub write_report_once : (κs : Lfts 1) → OneWriting Written (write_report.Post κs)
write_report_once κs a r s x y = one_report _ _ _ _ r s
