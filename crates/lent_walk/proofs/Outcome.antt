-- A walk as a call that lists the elected.
use Prim.Native.Nat.{ℕ}
use mathlib.Core.List.{List}
use Rattle.pricelevel.specs.declared.Price.{Price}
use Rattle.book.specs.Calls.{walk_call}
use Rattle.book.specs.Entries.{elected_words}
use Rattle.book.specs.Sizes.{most_records}
use Rattle.book.specs.declared.Settings.{Settings}
use Rattle.evaluation.specs.Counts.{elected_count}
use Rattle.evaluation.proofs.Rooms.{walk_lists, walk_cut}
use Rattle.word_rooms.proofs.Listings.{elected_of, entries_read, Lists}
use Rattle.std.specs.Prelude.{Option}

pub electing : (settings : Settings) (prev : Option Price) (prices : List Price) (w : List ℕ)
    → Lists elected_words elected_of most_records (λ o. elected_count o.answer) (λ o. o.elected)
    (walk_call settings prev prices w)
electing settings prev prices w = record {
  listed = λ room. (walk_lists settings prev prices w room).0;
  back = λ room. entries_read (walk_call settings prev prices w room).elected (walk_lists settings prev prices w room).1;
  cut = walk_cut settings prev prices w;
}
