-- `selecting::list_records` meets its contract: i entries are written.
use mathlib.Core.List.{[]}
use native.Mathlib.Omega.{arith}
use lib.Seq.{paste-zero}
use Rattle.merging.proofs.Records.{named_among}
use Rattle.by_sequence.proofs.Listed.{listed_next, listed_end}
use Rattle.selecting.specs.Selecting.{entry_words_in}
use Rattle.selecting.proofs.list_records.Goals as goal

pub loop-i-init : goal.loop-i-init
loop-i-init c = paste-zero _ 0 []

pub entry_at-t-requires : goal.entry_at-t-requires
entry_at-t-requires c =
    named_among _ _ _ c.requires.1 (omega arith) c.requires.0

pub loop-i-preserved : goal.loop-i-preserved
unfolding entry_words_in
loop-i-preserved c =
    listed_next (entry_words_in c.args.s.now) _ _ c.requires.1 _ c.requires.2 _ c.loop-i.i c.loop-i.invariant
    (omega arith) _ (rw c.entry_at-t.ensures at c.stop_words.ensures)

pub returns : goal.returns
returns c =
    let l = c.loop-i in
    listed_end _ _ _ c.requires.1 _ c.requires.2 _ l.i l.invariant (omega arith)
