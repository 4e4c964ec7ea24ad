-- RULES 3.1: a refusal by its number. Definitions only.
use Rattle.std.specs.Prelude.{ℕ, Result, Err}
use Rattle.refusal.specs.declared.Refusal.{Refusal}

-- refused by this number, whatever else would have been answered
abbrev pub refused : {A : Type 0} → ℕ → Result A Refusal
refused n = Err (record { 0 = n })
