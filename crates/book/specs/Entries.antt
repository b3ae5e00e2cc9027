-- The words of the entries of a lent list: document 01, One point, one segment, one pass; document 02, One and Four.
use Rattle.std.specs.Prelude.{ℕ, ◌+◌, ◌*◌, ◌^◌, cond, List, [], ◌∷◌, ◌≡◌, get_or}
use Rattle.pricelevel.specs.Identity.{kind_number}
use Rattle.pricelevel.specs.Side.{side_number}
use Rattle.stop_protection.specs.Collar.{limit_present, limit_high, limit_low}
use Rattle.book.specs.Book.{held}
use Rattle.book.specs.Words.{data_words}
use Rattle.book.specs.declared.Elected.{Elected}
use Rattle.book.specs.declared.Moved.{Moved}
use Rattle.book.specs.declared.StopEntry.{StopEntry}

-- of a collected stop: the record without its next indices, which is kind, identity high, identity low, side, stop,
-- watermark, trail, quantity, sequence, and the holder's four
unfoldable pub stop_words : StopEntry → List ℕ
stop_words t = data_words (held t)

-- kind, identity high, identity low, stop
unfoldable pub moved_words : Moved → List ℕ
moved_words m = kind_number m.id.kind ∷ m.id.high ∷ m.id.low ∷ m.stop.0 ∷ []

-- kind, identity high, identity low, side, stop, quantity, sequence, trigger, limit present, limit high, limit low, child
-- high, child low, pending (0 or 1)
unfoldable pub elected_words : Elected → List ℕ
elected_words e =
    kind_number e.id.kind ∷ e.id.high ∷ e.id.low ∷ side_number e.side ∷ e.stop.0 ∷ e.quantity.0
    ∷ e.seq.0 ∷ e.trigger.0
    ∷ limit_present e.limit ∷ limit_high e.limit ∷ limit_low e.limit
    ∷ e.child.high ∷ e.child.low ∷ cond e.pending 1 0 ∷ []

-- document 02, Four: an entry's words say that there is a limit, and the high and the low one stand for this number
pub record LimitIs (words : List ℕ) (limit : ℕ) : Type 0 where
  pub present : get_or words 8 0 ≡ 1
  pub number : get_or words 9 0 * 2 ^ 64 + get_or words 10 0 ≡ limit
