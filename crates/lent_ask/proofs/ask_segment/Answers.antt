-- `ask_segment` meets its contract: it does what a segment does on the copy, and leaves the copy.
use Rattle.std.proofs.Common.{length, arith, ap, ◌∙◌}
use Rattle.book.specs.Calls.{written}
use Rattle.book.specs.Sizes.{most_words}
use Rattle.lent_ask.proofs.OnCopy.{on_copy}
use Rattle.lent_ask.proofs.ask_segment.Goals as goal

pub returns : goal.returns
returns c =
    let same = on_copy c.args.settings c.args.prints c.args.s.now (length c.args.elected.now) (length c.args.moved.now)
    most_words c.copy_start-many.result c.copy_start-many.new.a (omega arith)
    c.copy_start-many.ensures.0 c.copy_start-many.ensures.1 in (
      c.segment.ensures.0 ∙ same.answer,
      c.segment.ensures.2 ∙ ap (λ es. written es c.args.elected.now) same.elected,
      c.segment.ensures.3 ∙ ap (λ ms. written ms c.args.moved.now) same.moved,
    )
