-- What is handed over by its eight numbers stays, and the count is set behind them. Assumes nothing.
use Rattle.num_working.specs.Number.{whole}
use Rattle.interface_figures.proofs.Handed.{state_counted}
use Rattle.interface_figures.proofs.put_counted.Goals as goal

pub returns : goal.returns
unfolding whole
returns c =
    state_counted _ _ _ _ _ _ c.in-Ok.is (rw c.in-Ok.is at c.put_answer-number.ensures) (rw (← c.from.ensures) c.put_at.ensures)
