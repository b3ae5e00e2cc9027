-- `records::write_record` meets its contract: the words are put at the record's first place.
use Rattle.records.proofs.write_record.Goals as goal

pub returns : goal.returns
returns c = cc
