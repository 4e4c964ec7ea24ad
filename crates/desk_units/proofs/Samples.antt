-- Numbers as they are shown, worked by the definitions. Assumes nothing.
use mathlib.Core.Path.{◌≡◌, refl}
use mathlib.Core.List.{List, [], ◌∷◌, map}
use Prim.Native.Nat.{ℕ}
use Rattle.sheet_text.specs.Decimal.{decimal, decimal_within}
use Rattle.sheet_write.specs.Writing.{ascii}
use Rattle.desk_units.specs.declared.Shown.{Shown}
use Rattle.desk_units.specs.Units.{shortest, celsius, bar, thousandth, rounded_up, kilograms_down, kilograms_up}
use Rattle.desk_units.specs.Shown.{front, last_digits, sign_text, shown_text}

-- a temperature at 20 C and at the triple point, a pressure, a volume, the least that is missing, and what is less than a gram
abbrev pub samples : List (Shown × List ℕ)
samples =
    (celsius 2_931_500, ascii "20.0")
    ∷ (celsius 2_165_920, ascii "-56.558")
    ∷ (bar 5_730_000, ascii "57.3")
    ∷ (thousandth 40_000, ascii "40.0")
    ∷ (kilograms_up 1, ascii "0.001")
    ∷ (kilograms_down 999, ascii "0.000")
    ∷ []

pub all_shown : map (λ p. shown_text p.0) samples ≡ map (λ p. p.1) samples
unfolding celsius bar thousandth shortest kilograms_up rounded_up kilograms_down shown_text sign_text front last_digits decimal decimal_within
all_shown = refl
