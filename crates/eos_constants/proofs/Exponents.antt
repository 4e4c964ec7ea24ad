-- An exponent is worked as the number that is printed. Assumes nothing.
use Prim.Native.Nat.{◌*◌}
use mathlib.Core.Path.{◌≡◌, refl}
use Rattle.eos_constants.specs.declared.Printed.{Printed}
use Rattle.eos_constants.specs.declared.Printed.TheVariants.{Of0_34, Of10_6, Of0_875, Of0_925}
use Rattle.eos_constants.specs.Exponent.{worked_as, as_printed}

pub same_number : (p : Printed) → (worked_as p).m * (as_printed p).denominator ≡ (worked_as p).k * (as_printed p).numerator
same_number Of0_34 = refl
same_number Of10_6 = refl
same_number Of0_875 = refl
same_number Of0_925 = refl
