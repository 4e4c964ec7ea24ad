-- Sample points of 002 that are proved (RULES 8.5). Definitions only.
use Rattle.std.specs.Prelude.{ℕ, ◌+◌, ◌-◌, Bool, false, ◌&&◌, List, [], ◌∷◌}
use Rattle.std.specs.Float.Ieee.{lt}
use Rattle.num_working.specs.Number.{decimal, whole}
use Rattle.num_working.specs.Working.{or_else, Worked}
use Rattle.eos_conductivity.specs.Conductivity.{conductivity_at, background_at, dilute_at}

-- within a unit of the last printed digit: the digits, and how many places stand after the point
unfoldable pub within : Worked → ℕ → ℕ → Bool
within w digits places = or_else w false (λ x. lt (decimal (digits - 1) places) x && lt x (decimal (digits + 1) places))

-- Table 7 at 310 K and 400 kg/m³: 76.05 mW/(m K) with eq. (10), and 39.92 without an enhancement; Table 8 at 0 MPa: 12.28 at 240 K
unfoldable pub samples : List Bool
samples =
    within (conductivity_at (whole 310) (whole 400)) 7605 5
    ∷ within (background_at (whole 310) (whole 400)) 3992 5
    ∷ within (dilute_at (whole 240)) 1228 2
    ∷ []
