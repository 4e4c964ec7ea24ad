-- No rule, since nothing rests on a count of comparisons: it goes up by one, or stays at the largest u64; the others are as they were. Definitions only.
use Rattle.std.specs.Prelude.{ℕ, ◌+◌, min, Bool, true, false, List, replicate, slice_index, slice_set}
use Rattle.run_print.specs.declared.tally.Count.{Count}

-- the place of a count
abbrev pub place : Count → ℕ
place Count.Rows = 0
place Count.InRange = 1
place Count.OnSaturationLine = 2
place Count.OnMeltingLine = 3
place Count.InCriticalBox = 4
place Count.Compared = 5
place Count.Cells = 6
place Count.Damaged = 7
place Count.WithoutDensity = 8
place Count.Differences = 9
place Count.DifferencesLeftOut = 10
place Count.Failures = 11

abbrev pub none : List ℕ
none = replicate 12 0

abbrev pub more : ℕ → ℕ
more n = min (n + 1) 18446744073709551615

abbrev pub counted : List ℕ → ℕ → List ℕ
counted tally which = slice_set tally which (more (slice_index tally which))

-- A comparison is counted, and one that was not found right is a failure besides, count 11.
abbrev pub found : List ℕ → ℕ → Bool → List ℕ
found tally which true = counted tally which
found tally which false = counted (counted tally which) 11
