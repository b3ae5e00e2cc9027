-- What a valid book is, fact by fact, that its numbers are words, and when a stop may be taken into it: the facts
-- behind `valid` and `are_words` of Words and the questions of an admission, as the proofs use them.
use Rattle.std.specs.Prelude.{◌≤◌, ◌<◌, ◌^◌, ◌≡◌, true, length, None}
use Rattle.pricelevel.specs.Holder.{HolderFits}
use Rattle.pricelevel.specs.Tick.{on_tick}
use Rattle.book.specs.Book.{Slot, vacant, held, Book, seq_of, pending_count}
use Rattle.book.specs.Lists.{All}
use Rattle.book.specs.Sizes.{most_records}
use Rattle.book.specs.Store.{lookup}
use Rattle.book.specs.Words.{consistent, sound_stop, all_differ, vacant_indices, sort_rising}
use Rattle.book.specs.declared.StopEntry.{StopEntry}

pub record Valid (b : Book) : Type 0 where
  pub some_records : 1 ≤ length b.slots
  pub few_records : length b.slots ≤ most_records
  pub sound : All (λ s. sound_stop b.next b.tick s ≡ true) b.slots
  pub differ : all_differ b.slots ≡ true
  pub free_vacant : sort_rising b.free ≡ vacant_indices 1 b.slots

-- the numbers of a stop, of a record and of a book are below 2^64
pub record StopFits (t : StopEntry) : Type 0 where
  pub high : t.id.high < 2 ^ 64
  pub low : t.id.low < 2 ^ 64
  pub stop : t.terms.stop.0 < 2 ^ 64
  pub watermark : t.terms.watermark.0 < 2 ^ 64
  pub trail : t.terms.trail < 2 ^ 64
  pub quantity : t.quantity.0 < 2 ^ 64
  pub seq : t.seq.0 < 2 ^ 64
  pub holder : HolderFits t.holder

abbrev pub SlotFits : Slot → Type 0
SlotFits vacant = Unit {0}
SlotFits (held t) = StopFits t

pub record Fits (b : Book) : Type 0 where
  pub next : b.next < 2 ^ 64
  pub tick : b.tick < 2 ^ 64
  pub slots : All SlotFits b.slots

-- what the questions of an admission leave of the stop that is admitted
pub record Admissible (t : StopEntry) (b : Book) : Type 0 where
  pub next_sequence : seq_of t ≡ b.next
  pub some_quantity : 1 ≤ t.quantity.0
  pub terms : consistent t.terms ≡ true
  pub is_on_tick : on_tick b.tick t.terms.trail ≡ true
  pub absent : lookup t.id b ≡ None
  pub room : pending_count b.slots < length b.slots
