-- No second answer meets a public function's promise, and no other bytes. Assumes nothing.
use Prim.Native.Nat.{ℕ}
use mathlib.Core.Path.{◌≡◌}
use mathlib.Core.List.{List}
use contract.Lifetimes.{Lfts}
use denote.MutBor.{MutBor}
use Rattle.num_working.proofs.Unique.{OneAnswer, by_equation}
use Rattle.sheet_write.proofs.Unique.{one_fitted}
use Rattle.desk_words.proofs.version.Reads as version
use Rattle.desk_words.proofs.put_words.Reads as put_words

abbrev OneInSecond : {A S T : Type 0} → (A → ℕ → S × (MutBor (List ℕ) × T) → Type 0) → Type 0
OneInSecond {A} {S} {T} Post = (a : A) (r s : ℕ) (x y : S × (MutBor (List ℕ) × T)) → Post a r x → Post a s y → (r ≡ s) × (x.1.0.now ≡ y.1.0.now)

pub version_once : OneAnswer ℕ (version.Post tt)
version_once a r s x y = by_equation

-- however many bytes are lent
pub put_words_once : (κs : Lfts 1) → OneInSecond (put_words.Post κs)
put_words_once κs a r s x y = one_fitted
