-- Rows 1 to 34 of Table 31 by column: one number of each row, in the table's order. Nothing is printed here again. Definitions only.
use Rattle.std.specs.Prelude.{ℕ, List, ◌++◌, map, Float}
use Rattle.eos_rows.specs.Row.{Polynomial, Exponential, polynomials, exponentials}

-- of rows 1 to 7, and behind them of rows 8 to 34
abbrev pub column : {A : Type 0} → (Polynomial → A) → (Exponential → A) → List A
column f g = map f polynomials ++ map g exponentials

-- n
unfoldable pub coefficients : List Float
coefficients = column (λ r. r.n) (λ r. r.n)

-- d
unfoldable pub delta_powers : List ℕ
delta_powers = column (λ r. r.d) (λ r. r.d)

-- t, in quarters
unfoldable pub tau_quarters : List ℕ
tau_quarters = column (λ r. r.q) (λ r. r.q)

-- c, of rows 8 to 34 alone: the others have no exponential, and so no number here
unfoldable pub decay_powers : List ℕ
decay_powers = map (λ (r : Exponential). r.c) exponentials
