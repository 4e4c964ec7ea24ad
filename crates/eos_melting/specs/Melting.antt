-- 004, section 3.3: the melting pressure, in the order of docs/ARRANGEMENT.md, section 11. Definitions only.
use Rattle.std.specs.Prelude.{Float}
use Rattle.num_working.specs.Number.{decimal, whole}
use Rattle.num_working.specs.Working.{Worked}
use Rattle.num_formulas.specs.Formula.{Formula, one, num, ◌⊕◌, ◌⊖◌, ◌⊗◌, ◌⊘◌, ◌^^◌, work}

-- y = T/T_t − 1, with T_t = 216.592 K
abbrev pub past_triple : Float → Formula
past_triple t = num t ⊘ num (decimal 216592 3) ⊖ one

-- eq. (3.10): p_m/p_t is 1 + a₁·y + a₂·y², with p_t = 0.51795 MPa, here in Pa, a₁ = 1955.5390 and a₂ = 2055.4593
unfoldable pub melting : Formula → Formula
melting y = num (whole 517950) ⊗ (one ⊕ num (decimal 19555390 4) ⊗ y ⊕ num (decimal 20554593 4) ⊗ y ^^ 2)

unfoldable pub melting_pressure : Float → Worked
melting_pressure t = work (melting (past_triple t))
