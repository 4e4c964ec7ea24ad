-- What is read past the end of an array of marks. Assumes nothing.
use Rattle.std.specs.Prelude.{Ok}
use Rattle.sheet_mass.specs.Mass.{as_milligrams}
use Rattle.sheet_outcome.specs.Outcome.{Weighed}

abbrev pub past_end : Weighed
past_end = Ok (as_milligrams 0)
