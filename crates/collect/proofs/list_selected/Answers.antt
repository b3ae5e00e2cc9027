-- `collect::list_selected` meets its contract: the records by sequence, those that are taken, and their entries.
use mathlib.Core.Path.{◌∙◌}
use native.Mathlib.Omega.{arith}
use Rattle.book.proofs.BySequence.{by_sequence_holds}
use Rattle.book.specs.BySequence.{by_sequence}
use Rattle.book.specs.Collect.{selected}
use Rattle.book.specs.Words.{slots_at}
use Rattle.by_sequence.proofs.Sequenced.{indices-named, begins_count}
use Rattle.collect.proofs.Selected.{selected_in_book, selected-indices, selected_words}
use Rattle.collect.proofs.list_selected.Goals as goal

pub keep_selected-m-requires : goal.keep_selected-m-requires
keep_selected-m-requires c =
    let o = c.by_sequence-k in
    let w = c.args.s.now in
    let n = c.args.n in (
      rw o.ensures.0.places
          (indices-named w n c.requires.0 (by_sequence (slots_at w 1 n)) (by_sequence_holds (slots_at w 1 n)).in_book),
      omega (arith, o.auto, o.ensures.1, c.requires.1),
    )

pub list_records-requires : goal.list_records-requires
list_records-requires c =
    let kept = c.keep_selected-m in
    let o = c.by_sequence-k in
    let w = c.args.s.now in
    let n = c.args.n in
    let selector = c.args.selector in (
      rw (kept.ensures.0.places, selected-indices w n selector _ _ o.ensures.0)
          (indices-named w n c.requires.0 (selected selector (slots_at w 1 n)) (selected_in_book w n selector)),
      omega (arith, kept.auto, kept.ensures.1, o.auto, o.ensures.1, c.requires.1),
      omega (arith, kept.ensures.1, begins_count (slots_at w 1 n) _ _ o.ensures.0, c.requires.2),
    )

pub returns : goal.returns
returns c =
    let kept = c.keep_selected-m in
    let o = c.by_sequence-k in
    let w = c.args.s.now in
    let n = c.args.n in
    let selector = c.args.selector in
    let taken = selected-indices w n selector _ _ o.ensures.0 in (
      rw taken at kept.ensures.0,
      rw (kept.ensures.0.places ∙ taken, selected_words w n selector (selected selector (slots_at w 1 n)) (selected_in_book w n selector)) at
          c.list_records.ensures,
    )
