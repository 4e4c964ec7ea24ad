-- No second answer meets a public function's promise, and no other bytes: two runs over the same output leave the
-- same answer and the same bytes. Assumes nothing.
use Prim.Native.Nat.{ℕ}
use mathlib.Core.Path.{◌≡◌}
use mathlib.Core.List.{List}
use contract.Lifetimes.{Lfts}
use denote.MutBor.{MutBor}
use Rattle.num_working.proofs.Unique.{OneAnswer, by_equation}
use Rattle.sheet_write.specs.Writing.{Wrote, Fitted}
use Rattle.sheet_write.proofs.put.Reads as put
use Rattle.sheet_write.proofs.put_whole.Reads as put_whole
use Rattle.sheet_write.proofs.number_len.Reads as number_len
use Rattle.sheet_write.proofs.put_number.Reads as put_number

-- of a function that writes into its first argument
abbrev pub OneWriting : {A T : Type 0} (R : Type 0) → (A → R → MutBor (List ℕ) × T → Type 0) → Type 0
OneWriting {A} {T} R Post = (a : A) (r s : R) (x y : MutBor (List ℕ) × T) → Post a r x → Post a s y → (r ≡ s) × (x.0.now ≡ y.0.now)

one_writing : {o xs ys bs : List ℕ} {r s : ℕ} → Wrote o xs r bs → Wrote o ys s bs → (r ≡ s) × (xs ≡ ys)
one_writing p q = (by_equation p.count q.count, by_equation p.bytes q.bytes)

pub one_fitted : {o xs ys bs : List ℕ} {r s : ℕ} → Fitted o xs bs r → Fitted o ys bs s → (r ≡ s) × (xs ≡ ys)
one_fitted p q = (by_equation p.number q.number, by_equation p.bytes q.bytes)

pub put_once : (κs : Lfts 2) → OneWriting ℕ (put.Post κs)
put_once κs a r s x y = one_writing

pub put_whole_once : (κs : Lfts 2) → OneWriting ℕ (put_whole.Post κs)
put_whole_once κs a r s x y = one_fitted

pub number_len_once : OneAnswer ℕ (number_len.Post tt)
number_len_once a r s x y p q = by_equation p.0 q.0

pub put_number_once : (κs : Lfts 1) → OneWriting ℕ (put_number.Post κs)
put_number_once κs a r s x y = one_writing
