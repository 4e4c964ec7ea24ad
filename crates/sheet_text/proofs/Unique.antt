-- No second answer meets a public function's promise. Assumes nothing.
use Rattle.std.specs.Prelude.{ℕ, Option}
use contract.Lifetimes.{Lfts}
use Rattle.num_working.proofs.Unique.{OneAnswer}
use Rattle.sheet_text.specs.Field.{Field}
use Rattle.sheet_text.proofs.Places.{reads_once, place_is_once}
use Rattle.sheet_text.proofs.skip.Reads as skip
use Rattle.sheet_text.proofs.read_field_to.Reads as read_field_to
use Rattle.sheet_text.proofs.read_field_after.Reads as read_field_after

-- however long the text is lent
module _ (κs : Lfts 1) where
  pub skip_once : OneAnswer (Option ℕ) (skip.Post κs)
  skip_once a r s x y = place_is_once _ _ _ r s

  pub read_field_to_once : OneAnswer (Option (Field × ℕ)) (read_field_to.Post κs)
  read_field_to_once a r s x y = reads_once _ _ _ r s

  pub read_field_after_once : OneAnswer (Option (Field × ℕ)) (read_field_after.Post κs)
  read_field_after_once a r s x y = reads_once _ _ _ r s
