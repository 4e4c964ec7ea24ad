-- The two digits of r stand in the table at 2 r. Assumes nothing.
use Rattle.sheet_write.proofs.Pairs.{stand, table}
use Rattle.sheet_write.specs.declared.TheConstants.{PAIRS}
use Rattle.sheet_write.proofs.put_pair.Goals as goal

pub returns : goal.returns
returns c =
    let s = stand PAIRS c.args.r table c.requires.0 in
    rw (s.0, s.1)
