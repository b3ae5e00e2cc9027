-- `record_writer::write_entry` meets its contract.
use Rattle.record_writer.proofs.write_entry.Goals as goal

pub returns : goal.returns
returns c = rw c.entry_words-words.ensures at c.write_record.ensures
