-- No second answer meets a public function's promise, and no other bytes. Assumes nothing.
use Prim.Native.Nat.{ℕ}
use contract.Lifetimes.{Lfts}
use Rattle.num_working.proofs.Unique.{OneAnswer, by_equation}
use Rattle.sheet_write.proofs.Unique.{OneWriting, one_fitted}
use Rattle.desk_units.specs.declared.Shown.{Shown}
use Rattle.desk_units.specs.Units.{Figure}
use Rattle.desk_units.proofs.celsius.Reads as celsius
use Rattle.desk_units.proofs.bar.Reads as bar
use Rattle.desk_units.proofs.thousandth.Reads as thousandth
use Rattle.desk_units.proofs.kilograms_down.Reads as kilograms_down
use Rattle.desk_units.proofs.kilograms_up.Reads as kilograms_up
use Rattle.desk_units.proofs.density.Reads as density
use Rattle.desk_units.proofs.pressure.Reads as pressure
use Rattle.desk_units.proofs.put_shown.Reads as put_shown

pub celsius_once : OneAnswer Shown (celsius.Post tt)
celsius_once a r s x y = by_equation

pub bar_once : OneAnswer Shown (bar.Post tt)
bar_once a r s x y = by_equation

pub thousandth_once : OneAnswer Shown (thousandth.Post tt)
thousandth_once a r s x y = by_equation

pub kilograms_down_once : OneAnswer Shown (kilograms_down.Post tt)
kilograms_down_once a r s x y = by_equation

pub kilograms_up_once : OneAnswer Shown (kilograms_up.Post tt)
kilograms_up_once a r s x y = by_equation

pub density_once : OneAnswer Figure (density.Post tt)
density_once a r s x y = by_equation

pub pressure_once : OneAnswer Figure (pressure.Post tt)
pressure_once a r s x y = by_equation

-- however many bytes are lent
pub put_shown_once : (κs : Lfts 1) → OneWriting ℕ (put_shown.Post κs)
put_shown_once κs a r s x y = one_fitted
