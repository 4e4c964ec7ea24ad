-- The text is all words, joined, so that line n has those of n. Assumes nothing.
use Rattle.desk_words.specs.Words.{all, words}
use Rattle.desk_words.proofs.Lines.{joined, plain, all_plain, had_back}
use Rattle.desk_words.proofs.put_words.Goals as goal

pub returns : goal.returns
unfolding words all joined plain all_plain
returns c =
    rw (← had_back all tt c.args.number) c.put_line.ensures
