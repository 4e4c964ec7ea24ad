-- RULES 4.9: the state at a temperature and a density, each field by its own formula (docs/ARRANGEMENT.md, section 9; 004, Table 3), or a failure.
-- Definitions only.
use Rattle.std.specs.Prelude.{ℕ, Float, List, [], ◌∷◌, Some, None, Option}
use Rattle.num_working.specs.Working.{or_else, Worked}
use Rattle.num_formulas.specs.Formula.{Formula, num, one, two, ◌⊕◌, ◌⊖◌, ◌⊗◌, ◌⊘◌, minus, root, value, work}
use Rattle.eos_constants.specs.Constant.{span_wagner}
use Rattle.eos_constants.specs.Reduced.{delta}
use Rattle.eos_isotherm.specs.Isotherm.{half}
use Rattle.eos_isotherm.specs.declared.Isotherm.{Isotherm}
use Rattle.eos_brackets.specs.declared.Five.{Five}
use Rattle.eos_terms.specs.Fallen.{fallen_terms}
use Rattle.eos_residual.specs.Sum.{five_sums, Sums}
use Rattle.eos_ideal.specs.Ideal.{ideal_part}
use Rattle.eos_pressure.specs.Pressure.{pressure_formula}
use Rattle.eos_state.specs.declared.Phase.{Phase}
use Rattle.eos_state.specs.declared.State.{State}

-- a state, or none where a working failed
abbrev pub Stated : Type 0
Stated = Option State

-- ---- Table 3, with S₁ to S₅ the sums, i1 = τφ°_τ and i2 = τ²φ°_ττ

-- s = I₁ + S₃, and z = I₂ + S₄
abbrev pub s : Five → Float → Formula
s sums i1 = num i1 ⊕ num sums.t

abbrev pub z : Five → Float → Formula
z sums i2 = num i2 ⊕ num sums.tt

-- g = (1 + S₁) − S₅, and k = (1 + 2·S₁) + S₂
abbrev pub g : Five → Formula
g sums = one ⊕ num sums.d ⊖ num sums.dt

abbrev pub k : Five → Formula
k sums = one ⊕ two ⊗ num sums.d ⊕ num sums.dd

-- R·T
abbrev pub thermal : Float → Formula
thermal t = num span_wagner.gas ⊗ num t

-- u, h, cᵥ, cₚ and the sound speed
abbrev pub energy : Float → Five → Float → Formula
energy t sums i1 = thermal t ⊗ s sums i1

abbrev pub enthalpy : Float → Five → Float → Formula
enthalpy t sums i1 = thermal t ⊗ (one ⊕ s sums i1 ⊕ num sums.d)

abbrev pub heat_v : Five → Float → Formula
heat_v sums i2 = num span_wagner.gas ⊗ minus (z sums i2)

abbrev pub heat_p : Five → Float → Formula
heat_p sums i2 = num span_wagner.gas ⊗ (minus (z sums i2) ⊕ g sums ⊗ g sums ⊘ k sums)

abbrev pub sound : Float → Five → Float → Formula
sound t sums i2 = root half (thermal t ⊗ (k sums ⊖ g sums ⊗ g sums ⊘ z sums i2))

-- ---- the state

-- p, u, h, cᵥ, cₚ and w with T, ρ, the phase and how many terms fell away, where each was worked
abbrev pub stated : Phase → ℕ → Float → Float → Worked → Worked → Worked → Worked → Worked → Worked → Stated
stated phase fallen t rho p u h cv cp w =
    or_else p None (λ p.
    or_else u None (λ u.
    or_else h None (λ h.
    or_else cv None (λ cv.
    or_else cp None (λ cp.
    or_else w None (λ w.
    Some (record { t = t; p = p; rho = rho; u = u; h = h; cv = cv; cp = cp; w = w; phase = phase; fallen = fallen })))))))

unfoldable pub state_of : Phase → ℕ → Float → Float → Five → Float → Float → Stated
state_of phase fallen t rho sums i1 i2 =
    stated phase fallen t rho (work (pressure_formula t rho sums.d))
    (work (energy t sums i1))
    (work (enthalpy t sums i1))
    (work (heat_v sums i2))
    (work (heat_p sums i2))
    (work (sound t sums i2))

-- with the ideal part at the isotherm's τ
unfoldable pub state_ideal : Phase → ℕ → Float → Isotherm → Float → Five → Stated
state_ideal phase fallen t iso rho sums =
    or_else (ideal_part iso.tau).first None (λ i1.
    or_else (ideal_part iso.tau).second None (λ i2.
    state_of phase fallen t rho sums i1 i2))

abbrev pub then_sums : Sums → (Five → Stated) → Stated
then_sums None f = None
then_sums (Some sums) f = f sums

-- at a temperature, on its isotherm, at a density
unfoldable pub state_on : Float → Isotherm → Phase → Float → Stated
state_on t iso phase rho = or_else (work (delta rho)) None (λ δ. then_sums (five_sums iso δ) (state_ideal phase (fallen_terms iso δ) t iso rho))

-- T, p, ρ, u, h, cᵥ, cₚ, w
abbrev pub eight : State → List Float
eight x = x.t ∷ x.p ∷ x.rho ∷ x.u ∷ x.h ∷ x.cv ∷ x.cp ∷ x.w ∷ []
