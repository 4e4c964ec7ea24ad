-- Each turn adds the next row's figures; what is left to add gives the sums that are asked for. Assumes nothing.
use Rattle.num_working.specs.Working.{checked}
use Rattle.eos_brackets.specs.Derivative.{of}
use Rattle.eos_residual.specs.Sum.{onto, gaussian_figures}
use Rattle.eos_residual.proofs.Sums.{Dues}
use Rattle.eos_residual.proofs.sum.Terms.gaussian_sums.Given as goal

abbrev pub invariant-loop-i : goal.invariant-loop-i
invariant-loop-i l =
    Dues l.all (gaussian_figures l.self.iso l.self.point.delta) (λ k. onto (checked (of l.fn.start k)) (gaussian_figures l.self.iso l.self.point.delta k)) l.i l.s
