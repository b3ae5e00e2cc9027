-- A run by value as a call that lists the elected, and tells its answer and the path after it.
use Prim.Native.Nat.{ℕ}
use mathlib.Core.List.{List}
use Rattle.book.specs.Calls.{run_call}
use Rattle.book.specs.Entries.{elected_words}
use Rattle.book.specs.Sizes.{most_records}
use Rattle.book.specs.declared.Settings.{Settings}
use Rattle.evaluation.specs.Counts.{pass_count}
use Rattle.evaluation.proofs.Rooms.{run_lists, run_cut}
use Rattle.lent_run.specs.declared.Start.{Start}
use Rattle.word_rooms.proofs.Listings.{elected_of, entries_read, Lists}

pub electing : (settings : Settings) (script : List ℕ) (start : Start) (w : List ℕ)
    → Lists elected_words elected_of most_records (λ o. pass_count o.answer) (λ o. o.elected)
    (λ room. run_call settings script start.trade w room start.path)
electing settings script start w = record {
  listed = λ room. (run_lists settings script start.trade w start.path room).0;
  back = λ room. entries_read (run_call settings script start.trade w room start.path).elected
      (run_lists settings script start.trade w start.path room).1;
  cut = run_cut settings script start.trade w start.path;
}
