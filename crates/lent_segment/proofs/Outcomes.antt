-- A segment as a call that lists the elected, whatever the room of the moved, and as one that lists the moved.
use Prim.Native.Nat.{ℕ, ◌*◌, min}
use native.Mathlib.Omega.{arith}
use mathlib.Core.Path.{◌≡◌, sym, ap, ◌∙◌}
use mathlib.Core.List.{List}
use Rattle.book.specs.Calls.{segment_call, SegmentOutcome}
use Rattle.book.specs.Entries.{elected_words, moved_words}
use Rattle.book.specs.Sizes.{most_records}
use Rattle.book.specs.declared.PrintSegment.{PrintSegment}
use Rattle.book.specs.declared.Settings.{Settings}
use Rattle.evaluation.specs.Counts.{elected_count, moved_count}
use Rattle.evaluation.proofs.Rooms.{segment_lists, segment_cut}
use Rattle.word_rooms.proofs.Listings.{elected_of, moved_of, entries_read, moves_read, Lists}

module _ (settings : Settings) (prints : PrintSegment) (w : List ℕ) where
  abbrev call : ℕ → ℕ → SegmentOutcome
  call e m = segment_call settings prints w e m

  -- more room than the most, of either list
  cut_elected : (e m : ℕ) → call (min e most_records) m ≡ call e m
  cut_elected e m =
      let twice : min e most_records ≡ min (min e most_records) most_records = omega arith in
      sym (ap (λ i. call i (min m (2 * most_records))) twice ∙ segment_cut settings prints w (min e most_records) m)
      ∙ segment_cut settings prints w e m

  cut_moved : (e m : ℕ) → call e (min m (2 * most_records)) ≡ call e m
  cut_moved e m =
      let twice : min m (2 * most_records) ≡ min (min m (2 * most_records)) (2 * most_records) = omega arith in
      sym (ap (λ i. call (min e most_records) i) twice ∙ segment_cut settings prints w e (min m (2 * most_records)))
      ∙ segment_cut settings prints w e m

  -- n is the room of the other list
  pub electing : (n : ℕ) → Lists elected_words elected_of most_records (λ o. elected_count o.answer) (λ o. o.elected)
      (λ room. call room n)
  electing n = record {
    listed = λ room. (segment_lists settings prints w room n).0.0;
    back = λ room. entries_read (call room n).elected (segment_lists settings prints w room n).0.1;
    cut = λ room. cut_elected room n;
  }

  pub moving : (n : ℕ) → Lists moved_words moved_of (2 * most_records) (λ o. moved_count o.answer) (λ o. o.moved)
      (λ room. call n room)
  moving n = record {
    listed = λ room. (segment_lists settings prints w n room).1;
    back = λ room. moves_read (call n room).moved;
    cut = λ room. cut_moved n room;
  }
