-- No second answer meets the promise of `score`, and no other bytes. Assumes nothing.
use Prim.Native.Nat.{ℕ}
use mathlib.Core.Path.{◌≡◌}
use mathlib.Core.List.{List}
use contract.Lifetimes.{Lfts}
use denote.MutBor.{MutBor}
use Rattle.sheet_report.proofs.Unique.{one_report}
use Rattle.sheet_report.specs.Report.{Written}
use Rattle.sheet_score.proofs.score.Reads as score

-- of a function that writes into its third argument
abbrev OneWriting : {A S U T : Type 0} (R : Type 0) → (A → R → S × (U × (MutBor (List ℕ) × T)) → Type 0) → Type 0
OneWriting {A} {S} {U} {T} R Post =
    (a : A) (r s : R) (x y : S × (U × (MutBor (List ℕ) × T)))
    → Post a r x → Post a s y → (r ≡ s) × (x.1.1.0.now ≡ y.1.1.0.now)

pub score_once : (κs : Lfts 2) → OneWriting Written (score.Post κs)
score_once κs a r s x y = one_report _ _ _ _ r s
