-- `ladder::list_entries` meets its contract: i entries are written.
use mathlib.Core.List.{[], map}
use native.Mathlib.Omega.{arith}
use lib.Seq.{paste-zero}
use Rattle.by_sequence.proofs.Listed.{listed_length, listed_next, listed_end}
use Rattle.merging.proofs.Records.{named_among}
use Rattle.pricelevel.specs.Price.{to_price}
use Rattle.ladder.specs.Records.{ladder_words_in}
use Rattle.ladder.proofs.list_entries.Goals as goal

pub loop-i-init : goal.loop-i-init
loop-i-init c = (omega arith, paste-zero _ 0 [])

pub terms_at-terms-requires : goal.terms_at-terms-requires
terms_at-terms-requires c =
    named_among _ _ _ c.requires.named.1 c.loop-i-test.true c.requires.named.0

pub bounds-list-i : goal.bounds-list-i
bounds-list-i c =
    omega (arith, listed_length _ _ _ c.requires.named.1 _ c.requires.named.2 _ c.loop-i.i c.loop-i.invariant.1 c.loop-i.invariant.0)

pub loop-i-preserved : goal.loop-i-preserved
unfolding ladder_words_in
loop-i-preserved c =
    let x = c.args in
    let h = c.loop-i-test.true in (
      omega arith,
      listed_next (ladder_words_in (map to_price x.prices.now) x.s.now) _ _ c.requires.named.1 _ c.requires.named.2 _ c.loop-i.i
          c.loop-i.invariant.1 h _
          (rw c.terms_at-terms.ensures at c.ladder_entry.ensures),
    )

pub shape_of-list : goal.shape_of-list
shape_of-list c =
    let l = c.loop-i in
    listed_length _ _ _ c.requires.named.1 _ c.requires.named.2 _ l.i l.invariant.1 l.invariant.0

pub returns : goal.returns
returns c =
    let l = c.loop-i in
    listed_end _ _ _ c.requires.named.1 _ c.requires.named.2 _ l.i l.invariant.1 (omega arith)

pub offset_bounds-order-i : goal.offset_bounds-order-i
offset_bounds-order-i c = omega arith

pub bounds-order-i : goal.bounds-order-i
bounds-order-i c = omega arith
