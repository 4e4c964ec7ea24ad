-- No second answer meets a public function's promise. Assumes nothing.
use Prim.Native.Nat.{ℕ}
use mathlib.Core.List.{List}
use lib.Ieee.{Float}
use Rattle.eos_rows.specs.declared.Gaussian.{Gaussian}
use Rattle.eos_rows.specs.declared.NonAnalytic.{NonAnalytic}
use Rattle.num_working.proofs.Unique.{OneAnswer, by_equation}
use Rattle.eos_rows.proofs.columns.coefficients.Reads as coefficients
use Rattle.eos_rows.proofs.columns.delta_powers.Reads as delta_powers
use Rattle.eos_rows.proofs.columns.tau_quarters.Reads as tau_quarters
use Rattle.eos_rows.proofs.columns.decay_powers.Reads as decay_powers
use Rattle.eos_rows.proofs.gaussian_row.Reads as gaussian_row
use Rattle.eos_rows.proofs.non_analytic_row.Reads as non_analytic_row

pub coefficients_once : OneAnswer (List Float) (coefficients.Post tt)
coefficients_once a r s x y = by_equation

pub delta_powers_once : OneAnswer (List ℕ) (delta_powers.Post tt)
delta_powers_once a r s x y = by_equation

pub tau_quarters_once : OneAnswer (List ℕ) (tau_quarters.Post tt)
tau_quarters_once a r s x y = by_equation

pub decay_powers_once : OneAnswer (List ℕ) (decay_powers.Post tt)
decay_powers_once a r s x y = by_equation

pub gaussian_row_once : OneAnswer Gaussian (gaussian_row.Post tt)
gaussian_row_once a r s x y = by_equation

pub non_analytic_row_once : OneAnswer NonAnalytic (non_analytic_row.Post tt)
non_analytic_row_once a r s x y = by_equation
