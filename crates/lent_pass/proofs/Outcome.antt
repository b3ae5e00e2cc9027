-- A pass as a call that lists the elected.
use Prim.Native.Nat.{ℕ}
use mathlib.Core.List.{List}
use Rattle.book.specs.Calls.{pass_call}
use Rattle.book.specs.Entries.{elected_words}
use Rattle.book.specs.Sizes.{most_records}
use Rattle.book.specs.declared.PrintSegment.{PrintSegment}
use Rattle.book.specs.declared.Settings.{Settings}
use Rattle.evaluation.specs.Counts.{pass_count}
use Rattle.evaluation.proofs.Rooms.{pass_lists, pass_cut}
use Rattle.word_rooms.proofs.Listings.{elected_of, entries_read, Lists}

pub electing : (settings : Settings) (script : List ℕ) (prints : PrintSegment) (w : List ℕ)
    → Lists elected_words elected_of most_records (λ o. pass_count o.answer) (λ o. o.elected)
    (pass_call settings script prints w)
electing settings script prints w = record {
  listed = λ room. (pass_lists settings script prints w room).0;
  back = λ room. entries_read (pass_call settings script prints w room).elected (pass_lists settings script prints w room).1;
  cut = pass_cut settings script prints w;
}
