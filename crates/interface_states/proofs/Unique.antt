-- No second answer meets the public function's promise, no other answers and no other figures. Assumes nothing.
use Prim.Native.Nat.{ℕ}
use mathlib.Core.Path.{◌≡◌}
use mathlib.Core.List.{List}
use contract.Lifetimes.{Lfts}
use denote.MutBor.{MutBor}
use lib.Ieee.{Float}
use Rattle.num_working.proofs.Unique.{by_equation}
use Rattle.interface_states.specs.States.{StatesIn}
use Rattle.interface_states.proofs.put_states.Reads as put_states

pub one_worked : {ts ps : List Float} {answers new out : List ℕ} {figures given got : List Float} {r s : ℕ} → StatesIn ts ps answers new figures given r
    → StatesIn ts ps answers out figures got s → (r ≡ s) × ((new ≡ out) × (given ≡ got))
one_worked p q = (by_equation p.number q.number, (by_equation p.answered q.answered, by_equation p.figured q.figured))

-- of a function that writes into its third and fourth arguments
abbrev pub AnswersAndFigures : Type 0 → Type 0 → Type 0 → Type 0
AnswersAndFigures S T U = S × (T × (MutBor (List ℕ) × (MutBor (List Float) × U)))

abbrev pub OneWorked : {A S T U : Type 0} → (A → ℕ → AnswersAndFigures S T U → Type 0) → Type 0
OneWorked {A} {S} {T} {U} Post = (a : A) (r s : ℕ) (x y : AnswersAndFigures S T U) → Post a r x → Post a s y
    → (r ≡ s) × ((x.1.1.0.now ≡ y.1.1.0.now) × (x.1.1.1.0.now ≡ y.1.1.1.0.now))

pub put_states_once : (κs : Lfts 4) → OneWorked (put_states.Post κs)
put_states_once κs a r s x y = one_worked
