-- `records::cell` meets its contract.
use borrow.Author.Rules.{rules}
use Rattle.book.specs.Words.{cell}
use Rattle.records.proofs.cell.Goals as goal

-- CLAUSES ['value', 'record_length_value']
pub returns : goal.returns
unfolding cell
returns c = search rules
