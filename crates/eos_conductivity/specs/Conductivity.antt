-- 002: the thermal conductivity at a temperature and a density, in the order of docs/ARRANGEMENT.md, section 13. Definitions only.
use Rattle.std.specs.Prelude.{ℕ, Float}
use Rattle.std.specs.Float.Ieee as Ieee
use Rattle.num_working.specs.Number.{decimal, whole}
use Rattle.num_working.specs.Working.{Worked}
use Rattle.num_formulas.specs.Formula.{Formula, one, num, ◌⊕◌, ◌⊖◌, ◌⊗◌, ◌⊘◌, ◌^^◌, e^, root, work}
use Rattle.eos_constants.specs.Constant.{span_wagner}
use Rattle.eos_constants.specs.Reduced.{delta}

-- T_r = T/T_c; the density is reduced to ρ/ρ_c, which is δ (section 3: T_c and ρ_c are those of 004)
abbrev pub reduced : Float → Formula
reduced t = num t ⊘ num span_wagner.temperature

-- a number as printed: its digits, and how many places stand after the point, those of its power of ten among them
abbrev pub printed : ℕ → ℕ → Formula
printed digits places = num (decimal digits places)

abbrev pub negative : ℕ → ℕ → Formula
negative digits places = num (Ieee.neg (decimal digits places))

-- ---- the three contributions, with r for T_r

-- eq. (3), Table 3: the dilute gas, in mW/(m K)
unfoldable pub dilute : Formula → Formula
dilute r =
    root (record { m = 1; k = 2 }) r
    ⊘ (printed 151874307 10 ⊕ printed 280674040 10 ⊘ r ⊕ printed 228564190 10 ⊘ r ^^ 2 ⊕ negative 741624210 11 ⊘ r ^^ 3)

-- eq. (4), Table 4: the residual, in W/(m K), each term by its B₁ᵢ, B₂ᵢ and i
abbrev pub term : Formula → Formula → Formula → Formula → ℕ → Formula
term r δ b1 b2 i = (b1 ⊕ b2 ⊗ r) ⊗ δ ^^ i

unfoldable pub residual : Formula → Formula → Formula
residual r δ =
    term r δ (printed 100128 7) (printed 430829 8) 1
    ⊕ term r δ (printed 560488 7) (negative 358563 7) 2
    ⊕ term r δ (negative 811620 7) (printed 671480 7) 3
    ⊕ term r δ (printed 624337 7) (negative 522855 7) 4
    ⊕ term r δ (negative 206336 7) (printed 174571 7) 5
    ⊕ term r δ (printed 253248 8) (negative 196414 8) 6

-- eq. (10): the critical enhancement, in mW/(m K), with t for ΔT_c = T_r − 1 and d for Δρ_c = δ − 1; what its exponential says is dropped
unfoldable pub exponent : Formula → Formula → Formula
exponent t d = printed 8865 3 ⊗ t ⊕ printed 416 2 ⊗ d ^^ 2 ⊕ printed 2302 3 ⊗ t ⊗ d ⊖ d ^^ 3

unfoldable pub enhancement : Formula → Formula → Formula
enhancement t d = (negative 1747 2 ⊖ printed 4488 2 ⊗ t) ⊘ (printed 8563 4 ⊖ e^ (exponent t d) ⊖ printed 4503 4 ⊗ d ⊖ printed 7197 3 ⊗ t)

-- ---- the conductivity, in W/(m K)

-- 1 W is 1000 mW
abbrev pub in_watts : Formula → Formula
in_watts milliwatts = milliwatts ⊘ num (whole 1000)

-- without the enhancement
abbrev pub background : Formula → Formula → Formula
background r δ = in_watts (dilute r) ⊕ residual r δ

-- eq. (1)
abbrev pub conductivity : Formula → Formula → Formula
conductivity r δ = background r δ ⊕ in_watts (enhancement (r ⊖ one) (δ ⊖ one))

unfoldable pub conductivity_at : Float → Float → Worked
conductivity_at t rho = work (conductivity (reduced t) (delta rho))

-- ---- what is compared with tables of 002 besides: the dilute gas by itself, and the conductivity without the enhancement
unfoldable pub dilute_at : Float → Worked
dilute_at t = work (dilute (reduced t))

unfoldable pub background_at : Float → Float → Worked
background_at t rho = work (background (reduced t) (delta rho))
