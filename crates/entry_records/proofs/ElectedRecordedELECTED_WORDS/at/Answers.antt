-- `at` of an elected entry meets its contract: field by field.
use Rattle.entry_records.specs.Records.{elected_of}
use Rattle.entry_records.proofs.ElectedRecordedELECTED_WORDS.at.Goals as goal

pub returns : goal.returns
unfolding elected_of
returns c = rw (c.limit_from.ensures, c.side_from.ensures, c.kind_of.ensures)
