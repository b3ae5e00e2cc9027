-- `children::pending_word` meets its contract, by the record that the search finds.
use Rattle.children.proofs.Completed.{stored-well_formed, stored_count, pending_none, pending_one}
use Rattle.children.proofs.pending_word.Goals as goal

pub find_id-i-requires : goal.find_id-i-requires
find_id-i-requires c = let (b, r, st) = c.requires in (stored-well_formed st, stored_count st)

pub returns-then-i-eq0 : goal.returns-then-i-eq0
returns-then-i-eq0 c = λ b r st. pending_none st _ _ c.find_id-i.ensures c.if-i-eq0.true

pub returns : goal.returns
returns c = λ b r st. pending_one st _ _ c.find_id-i.ensures c.if-i-eq0.false
