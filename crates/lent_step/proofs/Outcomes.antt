-- A step as a call that lists the elected, whatever the room of the moved, and as one that lists the moved.
use Prim.Native.Nat.{ℕ, ◌*◌, min}
use native.Mathlib.Omega.{arith}
use mathlib.Core.Path.{◌≡◌, sym, ap, ◌∙◌}
use mathlib.Core.List.{List}
use Rattle.book.specs.Calls.{SegmentOutcome}
use Rattle.book.specs.Entries.{elected_words, moved_words}
use Rattle.book.specs.Sizes.{most_records}
use Rattle.book.specs.StepCall.{step_call}
use Rattle.book.specs.declared.Settings.{Settings}
use Rattle.evaluation.specs.Counts.{elected_count, moved_count}
use Rattle.evaluation.proofs.Rooms.{step_lists, step_cut}
use Rattle.word_rooms.proofs.Listings.{elected_of, moved_of, entries_read, moves_read, Lists}
use Rattle.lent_step.specs.declared.PrintStep.{PrintStep}

-- a step at a print
abbrev step_at : Settings → PrintStep → List ℕ → ℕ → ℕ → SegmentOutcome
step_at settings at w e m = step_call settings at.falls at.from at.price w e m

module _ (settings : Settings) (at : PrintStep) (w : List ℕ) where
  cut : (e m : ℕ) → step_at settings at w (min e most_records) (min m most_records) ≡ step_at settings at w e m
  cut e m = step_cut settings at.falls at.from at.price w e m

  -- more room than the most, of either list
  cut_elected : (e m : ℕ) → step_at settings at w (min e most_records) m ≡ step_at settings at w e m
  cut_elected e m =
      let twice : min e most_records ≡ min (min e most_records) most_records = omega arith in
      sym (ap (λ i. step_at settings at w i (min m most_records)) twice ∙ cut (min e most_records) m) ∙ cut e m

  cut_moved : (e m : ℕ) → step_at settings at w e (min m (2 * most_records)) ≡ step_at settings at w e m
  cut_moved e m =
      let less : min m most_records ≡ min (min m (2 * most_records)) most_records = omega arith in
      sym (ap (λ i. step_at settings at w (min e most_records) i) less ∙ cut e (min m (2 * most_records))) ∙ cut e m

  -- n is the room of the other list
  pub electing : (n : ℕ) → Lists elected_words elected_of most_records (λ o. elected_count o.answer) (λ o. o.elected)
      (λ room. step_at settings at w room n)
  electing n = record {
    listed = λ room. (step_lists settings at.falls at.from at.price w room n).0.0;
    back = λ room. entries_read (step_at settings at w room n).elected
        (step_lists settings at.falls at.from at.price w room n).0.1;
    cut = λ room. cut_elected room n;
  }

  pub moving : (n : ℕ) → Lists moved_words moved_of (2 * most_records) (λ o. moved_count o.answer) (λ o. o.moved)
      (λ room. step_at settings at w n room)
  moving n = record {
    listed = λ room. (step_lists settings at.falls at.from at.price w n room).1;
    back = λ room. moves_read (step_at settings at w n room).moved;
    cut = λ room. cut_moved n room;
  }
