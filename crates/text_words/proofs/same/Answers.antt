-- `text_words::same` meets its contract: by the lengths, then by the letters.
use mathlib.Core.Path.{sym, ◌∙◌}
use borrow.Author.Tests.{ne_eqb}
use Rattle.text_words.proofs.Turns.{same_decided, same_length}
use Rattle.text_words.proofs.same.Goals as goal

pub returns-then-a-b : goal.returns-then-a-b
returns-then-a-b c = same_decided _ _ _ c.if-a-b.true c.same_letters.ensures

pub returns-else-a-b : goal.returns-else-a-b
returns-else-a-b c = ne_eqb _ _ c.if-a-b.false ∙ sym (same_length _ _ c.if-a-b.false)
