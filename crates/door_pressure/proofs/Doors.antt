-- The ends of a search have no minus sign, and are numbers that an f64 holds. Assumes nothing.
use Rattle.std.specs.Prelude.{Some, None}
use mathlib.Core.Path.{◌≡◌, refl, subst, ◌∙◌}
use Prim.Native.Nat.{ℕ}
use native.Mathlib.Omega.{arith}
use lib.Dec.{T}
use lib.Ieee.{Float, binary64, mul, fits, of_int, round}
use lib.Ieee.Fits.{mul-fits}
use Rattle.num_working.specs.Number.{whole, decimal, fraction, nonneg}
use Rattle.num_working.specs.Working.{Worked}
use Rattle.num_working.proofs.Workings.{checked_number}
use Rattle.num_formulas.specs.Formula.{num, ◌⊗◌, value}
use Rattle.num_formulas.proofs.Formulas.{once}
use Rattle.num_laws.proofs.Orders.{mul_unsigned, unsigned_finite}
use Rattle.door_limits.specs.Limits.{search_ends}
use Rattle.door_limits.specs.declared.Ends.{Ends}
use Rattle.door_pressure.specs.PressureDoor.{scaled}

-- that the floats up to x can be searched
pub record Reached (x : Float) : Type 0 where
  pub nonneg : T (nonneg x)
  pub fits : T (fits binary64 x)

-- so many times a density, where neither has a minus sign
pub scaled_reached : (a : Float) (w : Worked) (x : Float) → T (nonneg a) → ((d : Float) → w ≡ Some d → T (nonneg d)) → scaled a w ≡ Some x → Reached x
unfolding value
scaled_reached a None x p q e = let z : ◌≡◌ {A = ℕ} 0 1 = cc in absurd (omega arith)
scaled_reached a (Some d) x p q e =
    let n = checked_number (mul binary64 a d) x (once (num a ⊗ num d) ∙ e) in
    record {
      nonneg = subst (λ (y : Float). T (nonneg y)) n.0 (unsigned_finite (mul binary64 a d) (mul_unsigned binary64 a d p (q d refl)) n.1);
      fits = subst (λ (y : Float). T (fits binary64 y)) n.0 (mul-fits binary64 a d);
    }

-- ends that can be searched between, as those of RULES 5.1 can
pub record Searchable (ends : Ends) : Type 0 where
  pub from : Reached ends.from
  pub to : Reached ends.to
  pub vapour : T (nonneg ends.vapour)
  pub liquid : T (nonneg ends.liquid)

pub searchable : Searchable search_ends
unfolding search_ends decimal fraction whole of_int round fits
searchable = record { from = record { nonneg = tt; fits = tt }; to = record { nonneg = tt; fits = tt }; vapour = tt; liquid = tt }
