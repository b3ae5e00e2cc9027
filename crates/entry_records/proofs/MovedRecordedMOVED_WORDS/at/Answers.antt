-- `at` of a moved entry meets its contract: field by field.
use Rattle.entry_records.specs.Records.{moved_of}
use Rattle.entry_records.proofs.MovedRecordedMOVED_WORDS.at.Goals as goal

pub returns : goal.returns
unfolding moved_of
returns c = rw c.kind_of.ensures
