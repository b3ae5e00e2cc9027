-- `store_layout::lay_out` meets its contract: before each turn the records before i are laid out.
use mathlib.Core.Path.{ap, ◌∙◌}
use lib.ListN.{length}
use native.Mathlib.Omega.{arith}
use Rattle.store_words.proofs.EmptyWords.{header_empty, laid_none, laid_more, laid_all}
use Rattle.store_layout.proofs.lay_out.Goals as goal

pub empty_header-requires : goal.empty_header-requires
empty_header-requires c = c.requires.0

pub put_words-requires : goal.put_words-requires
put_words-requires c =
    let p = c.requires in
    omega (arith, ap length (c.empty_header.ensures ∙ header_empty _ _ p.0), p.1.room)

pub loop-i-init : goal.loop-i-init
loop-i-init c =
    laid_none _ _ _ _ c.requires.1 (rw c.empty_header.ensures at c.put_words.ensures)

pub next_free-next-requires : goal.next_free-next-requires
next_free-next-requires c = c.loop-i.invariant.least

pub loop-i-preserved : goal.loop-i-preserved
loop-i-preserved c =
    laid_more _ _ _ _ _ c.loop-i.invariant _ _ (omega arith)
    c.next_free-next.ensures
    c.write_free.ensures

pub returns : goal.returns
returns c =
    laid_all _ _ _ _ _ c.loop-i.invariant _ c.requires.1
    (rw c.empty_header.ensures at c.put_words.ensures)
    (omega arith)
