-- What stands before the first line end is the line. Assumes nothing.
use Rattle.desk_words.proofs.Lines.{first_line}
use Rattle.desk_words.proofs.put_line.Goals as goal

pub returns : goal.returns
returns c = rw (← c.behind_lines-rest.ensures, ← first_line _ _ _ c.line_end.ensures c.unwrap_or-len.ensures) c.put_whole.ensures
