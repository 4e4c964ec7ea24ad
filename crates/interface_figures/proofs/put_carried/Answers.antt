-- What is handed over with the count stays, and what was asked for is set behind it. Assumes nothing.
use Rattle.interface_figures.proofs.Handed.{asked_in}
use Rattle.interface_figures.proofs.put_carried.Goals as goal

pub returns : goal.returns
returns c = asked_in _ _ _ c.args.c _ _ c.in-Some.is c.put_counted-number.ensures c.put_at.ensures
