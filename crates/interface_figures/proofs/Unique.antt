-- No second answer meets a public function's promise, and no other figures. Assumes nothing.
use Prim.Native.Nat.{ℕ}
use mathlib.Core.Path.{◌≡◌}
use mathlib.Core.List.{List}
use contract.Lifetimes.{Lfts}
use denote.MutBor.{MutBor}
use lib.Ieee.{Float}
use Rattle.num_working.proofs.Unique.{by_equation}
use Rattle.interface_figures.specs.Figures.{HandedIn}
use Rattle.interface_figures.proofs.put_answer.Reads as put_answer
use Rattle.interface_figures.proofs.put_state.Reads as put_state
use Rattle.interface_figures.proofs.put_saturated.Reads as put_saturated

pub one_handed : {least : ℕ} {old new out given : List Float} {number r s : ℕ} → HandedIn least old new given number r → HandedIn least old out given number s
    → (r ≡ s) × (new ≡ out)
one_handed p q = (by_equation p.number q.number, by_equation p.figures q.figures)

-- of a function that writes into its second argument
abbrev OneHanded : {A S T : Type 0} → (A → ℕ → S × (MutBor (List Float) × T) → Type 0) → Type 0
OneHanded {A} {S} {T} Post = (a : A) (r s : ℕ) (x y : S × (MutBor (List Float) × T)) → Post a r x → Post a s y → (r ≡ s) × (x.1.0.now ≡ y.1.0.now)

pub put_answer_once : (κs : Lfts 1) → OneHanded (put_answer.Post κs)
put_answer_once κs a r s x y = one_handed

pub put_state_once : (κs : Lfts 1) → OneHanded (put_state.Post κs)
put_state_once κs a r s x y = one_handed

pub put_saturated_once : (κs : Lfts 1) → OneHanded (put_saturated.Post κs)
put_saturated_once κs a r s x y = one_handed
