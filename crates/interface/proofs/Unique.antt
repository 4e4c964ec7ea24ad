-- No second answer meets the promise of a function for C, and no other figures or bytes. Assumes nothing.
use Prim.Native.Nat.{ℕ}
use mathlib.Core.Path.{◌≡◌}
use mathlib.Core.List.{List}
use contract.Lifetimes.{Lfts}
use denote.MutBor.{MutBor}
use lib.Ieee.{Float}
use Rattle.num_working.proofs.Unique.{OneAnswer, by_equation}
use Rattle.interface_figures.proofs.Unique.{one_handed}
use Rattle.interface_states.proofs.Unique.{OneWorked, one_worked}
use Rattle.sheet_write.proofs.Unique.{one_fitted}
use Rattle.interface.proofs.makhroeng_from_pressure.Reads as from_pressure
use Rattle.interface.proofs.makhroeng_from_density.Reads as from_density
use Rattle.interface.proofs.makhroeng_state_from_pressure.Reads as state_from_pressure
use Rattle.interface.proofs.makhroeng_state_from_density.Reads as state_from_density
use Rattle.interface.proofs.makhroeng_states_from_pressure.Reads as states_from_pressure
use Rattle.interface.proofs.makhroeng_saturation.Reads as saturation
use Rattle.interface.proofs.makhroeng_report.Reads as report
use Rattle.interface.proofs.makhroeng_words.Reads as words
use Rattle.interface.proofs.makhroeng_version.Reads as version

-- of a function that writes into its third argument, and of one that writes into its second
abbrev OneAnswered : {A S T U : Type 0} → (A → ℕ → S × (T × (MutBor (List Float) × U)) → Type 0) → Type 0
OneAnswered {A} {S} {T} {U} Post =
    (a : A) (r s : ℕ) (x y : S × (T × (MutBor (List Float) × U))) → Post a r x → Post a s y → (r ≡ s) × (x.1.1.0.now ≡ y.1.1.0.now)

abbrev OneInSecond : {A S T : Type 0} (E : Type 0) → (A → ℕ → S × (MutBor (List E) × T) → Type 0) → Type 0
OneInSecond {A} {S} {T} E Post = (a : A) (r s : ℕ) (x y : S × (MutBor (List E) × T)) → Post a r x → Post a s y → (r ≡ s) × (x.1.0.now ≡ y.1.0.now)

pub from_pressure_once : (κs : Lfts 1) → OneAnswered (from_pressure.Post κs)
from_pressure_once κs a r s x y = one_handed

pub from_density_once : (κs : Lfts 1) → OneAnswered (from_density.Post κs)
from_density_once κs a r s x y = one_handed

pub state_from_pressure_once : (κs : Lfts 1) → OneAnswered (state_from_pressure.Post κs)
state_from_pressure_once κs a r s x y = one_handed

pub state_from_density_once : (κs : Lfts 1) → OneAnswered (state_from_density.Post κs)
state_from_density_once κs a r s x y = one_handed

pub states_from_pressure_once : (κs : Lfts 4) → OneWorked (states_from_pressure.Post κs)
states_from_pressure_once κs a r s x y = one_worked

pub saturation_once : (κs : Lfts 1) → OneInSecond Float (saturation.Post κs)
saturation_once κs a r s x y = one_handed

pub report_once : (κs : Lfts 2) → OneInSecond ℕ (report.Post κs)
report_once κs a r s x y = one_fitted

pub words_once : (κs : Lfts 1) → OneInSecond ℕ (words.Post κs)
words_once κs a r s x y = one_fitted

pub version_once : OneAnswer ℕ (version.Post tt)
version_once a r s x y = by_equation
