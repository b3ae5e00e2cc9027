-- `form::well_formed` meets its contract: each return is a test that fails, or the last, and the tests are exact on a
-- slice's words.
use native.Mathlib.Omega.{arith}
use mathlib.Core.Path.{sym, ◌∙◌}
use borrow.Author.Tests.{le-leb, lt-leb}
use Rattle.form_check.specs.Check.{formed}
use Rattle.form_check.proofs.Exact.{exact}
use Rattle.book.proofs.Tests.{and_fails, and_passes}
use Rattle.form.proofs.well_formed.Goals as goal

pub returns-then-s-lt-HEADER_WORDS : goal.returns-then-s-lt-HEADER_WORDS
unfolding formed
returns-then-s-lt-HEADER_WORDS c = and_fails _ _ (lt-leb _ _ c.if-s-lt-HEADER_WORDS.true)
    ∙ exact _ (λ p. omega (arith, c.shared_slice_known-1.given p))

pub returns-then-n-lt1 : goal.returns-then-n-lt1
unfolding formed
returns-then-n-lt1 c =
    and_passes _ _ _ (le-leb _ _ c.if-s-lt-HEADER_WORDS.false) (and_fails _ _ (lt-leb _ _ c.if-n-lt1.true))
    ∙ exact _ (λ p. omega (arith, c.shared_slice_known-1.given p))

pub returns-then-n : goal.returns-then-n
unfolding formed
returns-then-n c =
    and_passes _ _ _ (le-leb _ _ c.if-s-lt-HEADER_WORDS.false)
    (and_passes _ _ _ (le-leb _ _ c.if-n-lt1.false) (and_fails _ _ (lt-leb _ _ c.if-n.true)))
    ∙ exact _ (λ p. omega (arith, c.shared_slice_known-1.given p))

pub returns-then-s-n : goal.returns-then-s-n
unfolding formed
returns-then-s-n c =
    and_passes _ _ _ (le-leb _ _ c.if-s-lt-HEADER_WORDS.false)
    (and_passes _ _ _ (le-leb _ _ c.if-n-lt1.false)
    (and_passes _ _ _ (le-leb _ _ c.if-n.false) (and_fails _ _ (lt-leb _ _ c.if-s-n.true))))
    ∙ exact _ (λ p. omega (arith, c.shared_slice_known-1.given p))

pub returns-then-not-records_formed : goal.returns-then-not-records_formed
unfolding formed
returns-then-not-records_formed c =
    and_passes _ _ _ (le-leb _ _ c.if-s-lt-HEADER_WORDS.false)
    (and_passes _ _ _ (le-leb _ _ c.if-n-lt1.false)
    (and_passes _ _ _ (le-leb _ _ c.if-n.false)
    (and_passes _ _ _ (le-leb _ _ c.if-s-n.false)
    (and_fails _ _ (sym c.records_formed.ensures ∙ c.if-not-records_formed.true)))))
    ∙ exact _ (λ p. omega (arith, c.shared_slice_known-1.given p))

pub returns-then-not-chains_formed : goal.returns-then-not-chains_formed
unfolding formed
returns-then-not-chains_formed c =
    and_passes _ _ _ (le-leb _ _ c.if-s-lt-HEADER_WORDS.false)
    (and_passes _ _ _ (le-leb _ _ c.if-n-lt1.false)
    (and_passes _ _ _ (le-leb _ _ c.if-n.false)
    (and_passes _ _ _ (le-leb _ _ c.if-s-n.false)
    (and_passes _ _ _ (sym c.records_formed.ensures ∙ c.if-not-records_formed.false)
    (and_fails _ _ (sym c.chains_formed.ensures ∙ c.if-not-chains_formed.true))))))
    ∙ exact _ (λ p. omega (arith, c.shared_slice_known-1.given p))

pub returns : goal.returns
unfolding formed
returns c =
    and_passes _ _ _ (le-leb _ _ c.if-s-lt-HEADER_WORDS.false)
    (and_passes _ _ _ (le-leb _ _ c.if-n-lt1.false)
    (and_passes _ _ _ (le-leb _ _ c.if-n.false)
    (and_passes _ _ _ (le-leb _ _ c.if-s-n.false)
    (and_passes _ _ _ (sym c.records_formed.ensures ∙ c.if-not-records_formed.false)
    (and_passes _ _ _ (sym c.chains_formed.ensures ∙ c.if-not-chains_formed.false)
    c.all_differ.ensures)))))
    ∙ exact _ (λ p. omega (arith, c.shared_slice_known-1.given p))
