-- No second answer meets a public function's promise. Assumes nothing.
use contract.Lifetimes.{Lfts}
use Rattle.num_working.proofs.Unique.{OneAnswer, by_equation}
use Rattle.desk_arguments.specs.declared.Word.{Word}
use Rattle.desk_arguments.specs.declared.Asked.{Asked}
use Rattle.desk_arguments.proofs.word_of.Reads as word_of
use Rattle.desk_arguments.proofs.nothing_asked.Reads as nothing_asked
use Rattle.desk_arguments.proofs.take_word.Reads as take_word

pub word_of_once : (κs : Lfts 1) → OneAnswer Word (word_of.Post κs)
word_of_once κs a r s x y = by_equation

pub nothing_asked_once : OneAnswer Asked (nothing_asked.Post tt)
nothing_asked_once a r s x y = by_equation

pub take_word_once : OneAnswer Asked (take_word.Post tt)
take_word_once a r s x y = by_equation
