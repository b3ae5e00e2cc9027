-- `record_writer::write_free` meets its contract.
use Rattle.record_writer.proofs.write_free.Goals as goal

pub returns : goal.returns
returns c = rw c.free_words-words.ensures at c.write_record.ensures
