-- `record_form::sound_stop` meets its contract: each return is a test that fails, or the last.
use mathlib.Core.Path.{sym, ap, ◌∙◌}
use borrow.Author.Tests.{le-leb, lt-ltb, le-ltb}
use Rattle.book.specs.Words.{entry_at, consistent, sound_stop}
use Rattle.book.proofs.Tests.{and_fails, and_passes}
use Rattle.record_form.proofs.sound_stop.Goals as goal

pub returns-then-s-seq : goal.returns-then-s-seq
unfolding sound_stop entry_at
returns-then-s-seq c = and_fails _ _ (le-ltb _ _ (rw c.word-seq.ensures at c.if-s-seq.true))

pub returns-then-not-is_consistent : goal.returns-then-not-is_consistent
unfolding sound_stop entry_at
returns-then-not-is_consistent c =
    and_passes _ _ _ (lt-ltb _ _ (rw c.word-seq.ensures at c.if-s-seq.false))
    (and_passes _ _ _ (le-leb _ _ c.requires.bound)
    (and_fails _ _ (ap consistent (sym c.terms_at-terms.ensures) ∙ sym c.is_consistent.ensures
    ∙ c.if-not-is_consistent.true)))

pub returns : goal.returns
unfolding sound_stop entry_at
returns c =
    and_passes _ _ _ (lt-ltb _ _ (rw c.word-seq.ensures at c.if-s-seq.false))
    (and_passes _ _ _ (le-leb _ _ c.requires.bound)
    (and_passes _ _ _ (ap consistent (sym c.terms_at-terms.ensures) ∙ sym c.is_consistent.ensures
    ∙ c.if-not-is_consistent.false)
    (rw c.terms_at-terms.ensures at c.on_tick.ensures)))
