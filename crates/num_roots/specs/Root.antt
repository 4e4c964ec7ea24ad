-- RULES 4.6: the root x^(m/k). Definitions only.
use Rattle.num_halving.specs.declared.Missed.TheVariants.{Nowhere, Broke}
use Rattle.std.specs.Prelude.{ℕ, ◌*◌, cond, ltb, Float, Some, None, Ok, Err}
use Rattle.std.specs.Float.Ieee as Ieee
use Rattle.std.specs.Float.{binary64}
use Rattle.std.specs.Float.Ieee.Scale.{finite}
use Rattle.num_working.specs.Number.{whole}
use Rattle.num_working.specs.Working.{checked, or_else, Worked}
use Rattle.num_powers.specs.Power.{◌^ᵂ◌}
use Rattle.num_halving.specs.Halving.{Figure, halve, Crossing}
use Rattle.num_roots.specs.declared.root.Exponent.{Exponent}

-- the k-th whole power of the float with the bits b
unfoldable pub power_at : ℕ → Figure
power_at k b = checked (Ieee.of_bits binary64 b) ^ᵂ k

-- halve between the bits of 0 and the bits of 2²⁰, with the k-th whole power as the figure and t as the target
unfoldable pub root_bits : ℕ → Float → Crossing
root_bits k t = halve (power_at k) t (Ieee.to_bits binary64 (whole 0)) (Ieee.to_bits binary64 (whole 1048576))

-- no crossing is refused, as a failure is
abbrev pub root_of : Crossing → Worked
root_of (Ok b) = Some (Ieee.of_bits binary64 b)
root_of (Err Nowhere) = None
root_of (Err Broke) = None

-- with xᵐ as the target, refused where that is not finite
unfoldable pub searched : ℕ → ℕ → Float → Worked
searched m k x = or_else (checked x ^ᵂ m) None (λ t. root_of (root_bits k t))

-- an m/k that is not below 2, or with k = 0, is refused, and an x that is below 0 or not finite; of 0, of either sign, the root is 0; any other is searched for
unfoldable pub root : Exponent → Float → Worked
root e x =
    let rest = searched e.m e.k x in
    cond (ltb e.m (2 * e.k))
    (cond (finite x)
    (cond (Ieee.lt x (whole 0)) None
    (cond (Ieee.eq x (whole 0)) (Some (whole 0)) rest))
    None)
    None
