-- RULES 4.7: four exponents of roots that 004 prints in another way than as the fraction that is worked. Definitions only.
use Rattle.std.specs.Prelude.{ℕ}
use Rattle.num_roots.specs.declared.root.Exponent.{Exponent}
use Rattle.eos_constants.specs.declared.Printed.{Printed}
use Rattle.eos_constants.specs.declared.Printed.TheVariants.{Of0_34, Of10_6, Of0_875, Of0_925}

-- as worked: m/k. 10/6 stands for 1/(2β) too
abbrev pub worked_as : Printed → Exponent
worked_as Of0_34 = record { m = 17; k = 50 }
worked_as Of10_6 = record { m = 5; k = 3 }
worked_as Of0_875 = record { m = 7; k = 8 }
worked_as Of0_925 = record { m = 37; k = 40 }

-- as printed: a numerator and a denominator
pub record Fraction : Type 0 where
  pub numerator : ℕ
  pub denominator : ℕ

abbrev pub as_printed : Printed → Fraction
as_printed Of0_34 = record { numerator = 34; denominator = 100 }
as_printed Of10_6 = record { numerator = 10; denominator = 6 }
as_printed Of0_875 = record { numerator = 875; denominator = 1000 }
as_printed Of0_925 = record { numerator = 925; denominator = 1000 }
