-- No rule: what the code's answers say of a place. Definitions only.
use Rattle.std.specs.Prelude.{ℕ, ◌≤◌, Ok, Err, Result}
use Rattle.desk_form.specs.declared.stop.Expected.TheVariants.{LineEnd}
use Rattle.desk_form.specs.declared.stop.Behind.TheVariants.{Other}
use Rattle.desk_form.specs.declared.stop.Stop.{Stop}

-- on to a place, or stopped
abbrev pub Step : Type 0
Step = Result ℕ Stop

-- a step goes on, or stops, at this place or behind it
abbrev pub StepsOn : ℕ → Step → Type 0
StepsOn at (Ok n) = at ≤ n
StepsOn at (Err x) = at ≤ x.at

-- where a step stopped; the end of the line at the place that it went on to where it didn't
abbrev pub stop_of : Step → Stop
stop_of (Err x) = x
stop_of (Ok n) = record { at = n; expected = LineEnd; behind = Other }
