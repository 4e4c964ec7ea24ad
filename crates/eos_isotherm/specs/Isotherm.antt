-- What hangs on the temperature alone, in plain f64: the powers of τ (RULES 4.7), and parts of exponents (docs/ARRANGEMENT.md, sections 2, 5 and 6).
-- Where τ or its quarter root fails, so does every sum (eos_residual, proofs/Failures.antt). Definitions only.
use Rattle.std.specs.Prelude.{ℕ, ◌-◌, ◌/◌, ◌%◌, cond, List, ◌++◌, map, ltb, take, drop, Float}
use Rattle.num_roots.specs.declared.root.Exponent.{Exponent}
use Rattle.num_formulas.specs.Formula.{Formula, num, one, ◌⊖◌, ◌⊗◌, ◌^^◌, root, value}
use Rattle.eos_constants.specs.Reduced as Reduced
use Rattle.eos_rows.specs.Row.{gaussians, row40}
use Rattle.eos_rows.specs.Column.{tau_quarters}
use Rattle.eos_rows.specs.declared.Gaussian.{Gaussian}
use Rattle.eos_rows.specs.declared.NonAnalytic.{NonAnalytic}
use Rattle.eos_isotherm.specs.declared.Isotherm.{Isotherm}

abbrev pub half : Exponent
half = record { m = 1; k = 2 }

-- the quarter root of τ, by two square roots
unfoldable pub quarter_of : Float → Formula
quarter_of t = root half (root half (Reduced.tau t))

-- τ to j/4: one product of two whole powers
unfoldable pub tau_power : Float → Float → ℕ → Formula
tau_power tau quarter j = num tau ^^ (j / 4) ⊗ num quarter ^^ (j % 4)

-- t of rows 1 to 39, in quarters
unfoldable pub quarters : List ℕ
quarters = tau_quarters ++ map (λ (r : Gaussian). r.q) gaussians

unfoldable pub tau_powers : Float → Float → List Float
tau_powers tau quarter = map (λ (j : ℕ). value (tau_power tau quarter j)) quarters

-- β·(τ−γ)² of a row of 35 to 39, and D·(τ−1)² of one of 40 to 42: the parts of the exponents that don't see δ
unfoldable pub bell_tau : Float → Gaussian → Formula
bell_tau tau r = let y = num tau ⊖ num r.gamma in num r.beta ⊗ (y ⊗ y)

unfoldable pub psi_tau : Float → NonAnalytic → Formula
psi_tau tau r = let f = num tau ⊖ one in num r.kd ⊗ (f ⊗ f)

-- row 37 has the α, β, γ and ε of row 36 (Table 31), so that five rows have four bells: that of row 35 + i stands at place `bell_at i`
unfoldable pub four_bells : Float → List Float
four_bells tau = map (λ (r : Gaussian). value (bell_tau tau r)) (take 2 gaussians ++ drop 3 gaussians)

abbrev pub bell_at : ℕ → ℕ
bell_at i = cond (ltb i 2) i (i - 1)

-- rows 40 to 42 have one D
unfoldable pub isotherm : Float → Isotherm
isotherm t =
    let tau = value (Reduced.tau t) in
    record {
      tau = tau;
      powers = tau_powers tau (value (quarter_of t));
      bell = four_bells tau;
      psi = value (psi_tau tau row40);
    }
