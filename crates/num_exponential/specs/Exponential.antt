-- RULES 4.4: the exponential eˣ, and what it says with its answer. Definitions only.
use Rattle.std.specs.Prelude.{ℕ, zero, suc, Bool, false, cond, Float, Some, None, Option}
use Rattle.std.specs.Float.Ieee as Ieee
use Rattle.std.specs.Float.Ieee.Scale.{finite}
use Rattle.num_working.specs.Number.{whole}
use Rattle.num_working.specs.Working.{checked, or_else, ◌-ᵂ◌, ◌*ᵂ◌, ◌/ᵂ◌, Worked}
use Rattle.num_exponential.specs.declared.exponential.Said.{Said}

-- an answer and what is said with it; none where it is refused
abbrev pub Raised : Type 0
Raised = Option Said

-- s becomes 1 − (y/k)·s for k, k − 1, .., 1
unfoldable pub series : Worked → ℕ → Worked → Worked
series y zero s = s
series y (suc k) s = series y k (checked (whole 1) -ᵂ (y /ᵂ checked (whole (suc k))) *ᵂ s)

-- s becomes s·s, n times
unfoldable pub squared : ℕ → Worked → Worked
squared zero s = s
squared (suc n) s = squared n (s *ᵂ s)

-- step 4: fourteen turns of the series from s = 1, with y = (−x)/1024, then ten squarings
unfoldable pub falling : Float → Worked
falling x = squared 10 (series (checked (Ieee.neg x) /ᵂ checked (whole 1024)) 14 (checked (whole 1)))

-- the five steps in their order; what step 5 divides 1 by is worked by step 4, since −x lies from −700 to 0 there
unfoldable pub steps : Float → Worked
steps x =
    cond (finite x)
    (cond (Ieee.lt x (Ieee.neg (whole 700))) (Some (whole 0))
    (cond (Ieee.lt (whole 700) x) None
    (cond (Ieee.le x (whole 0)) (falling x)
    (checked (whole 1) /ᵂ falling (Ieee.neg x)))))
    None

-- with an answer, whether the argument was below −36; where the exponential is refused, there is no answer to say it with
unfoldable pub exponential : Float → Raised
exponential x = or_else (steps x) None (λ e. Some (record { value = e; fallen = Ieee.lt x (Ieee.neg (whole 36)) }))

-- ---- its users: the answer alone, where what it says is dropped on purpose; or what it says, which is passed on
abbrev pub answer_alone : Raised → Worked
answer_alone None = None
answer_alone (Some s) = Some s.value

abbrev pub fell : Raised → Bool
fell None = false
fell (Some s) = s.fallen
