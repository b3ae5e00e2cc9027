-- A walk over the words that were read is the walk that the input asks for.
use Prim.Native.Nat.{ℕ}
use mathlib.Core.List.{List, map}
use mathlib.Core.Path.{◌≡◌, ◌∙◌}
use Rattle.error.specs.Answer.{Answer}
use Rattle.book.specs.Calls.{written, walk_call}
use Rattle.book.specs.declared.Counts.{Counts}
use Rattle.book.specs.Sizes.{most_records}
use Rattle.book.specs.declared.Settings.{Settings}
use Rattle.book.specs.Entries.{elected_words}
use Rattle.pricelevel.specs.Price.{to_price}
use Rattle.forecast_input.specs.Input.{words_of, store_in, prices_in, forecast_settings, forecast_of}
use Rattle.std.specs.Prelude.{None}

pub walked_as : (s : Settings) (bytes w p : List ℕ) (room : ℕ) (answer : Answer Counts) (lent listed : List (List ℕ))
    → s ≡ forecast_settings → w ≡ store_in (words_of bytes) → p ≡ prices_in (words_of bytes) → room ≡ most_records
    → answer ≡ (walk_call s None (map to_price p) w room).answer
    → listed ≡ written (map elected_words (walk_call s None (map to_price p) w room).elected) lent
    → (answer ≡ (forecast_of bytes).answer) × (listed ≡ written (map elected_words (forecast_of bytes).elected) lent)
unfolding forecast_of
walked_as s bytes w p room answer lent listed q e f r h g = (rw (← q, ← e, ← f, ← r) h, g ∙ rw (q, e, f, r))
