-- 0/0 is the NaN that a failure is. Assumes nothing.
use Rattle.std.specs.Prelude.{Some, None, unwrap_or}
use mathlib.Core.Path.{◌≡◌, refl, ◌∙◌}
use lib.Ieee.{nan, of_bits, div}
use Rattle.num_working.specs.Working.{Worked, plain}
use Rattle.num_working.proofs.plain.Goals as goal

by_default : (w : Worked) → unwrap_or w nan ≡ plain w
by_default None = refl
by_default (Some x) = refl

pub returns : goal.returns
unfolding of_bits div
returns c = c.unwrap_or.ensures ∙ by_default c.args.w
