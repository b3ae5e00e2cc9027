-- The stops of a store beside those that a panel draws from the preview, along the prices of a call that evaluates:
-- document 02, Two.
use Rattle.std.specs.Prelude.{ℕ, zero, suc, ◌≡◌, Bool, not, cond, ◌&&◌, ◌||◌, List, [], ◌∷◌, ◌++◌, eqb, Option, Some}
use Rattle.error.specs.Answer.{accepted}
use Rattle.pricelevel.specs.declared.Id.{Id}
use Rattle.pricelevel.specs.declared.Price.{Price}
use Rattle.stop_terms.specs.Terms.{elected_at}
use Rattle.stop_terms.specs.declared.StopTerms.{StopTerms}
use Rattle.repricing.specs.Previewed.{previewed_at, DrawsRight}
use Rattle.book.specs.Book.{Book, pending_count}
use Rattle.book.specs.Calls.{pending_in, evaluated_in, executed_in, script_after}
use Rattle.book.specs.Evaluation.{segment_prices}
use Rattle.book.specs.Lists.{All}
use Rattle.book.specs.Path.{segment_of}
use Rattle.book.specs.Store.{find}
use Rattle.book.specs.Words.{book_of}
use Rattle.book.specs.declared.Elected.{Elected}
use Rattle.book.specs.declared.PrintPath.{PrintPath}
use Rattle.book.specs.declared.PrintSegment.{PrintSegment}
use Rattle.book.specs.declared.Settings.{Settings}
use Rattle.book.specs.declared.StopEntry.{StopEntry}

------------------------------------------------------------------------
-- A stop along a run of prices

-- it is pending to the end, or elected by one of the prices; with its terms there
pub data Followed : Type 0 where
  pending : StopTerms → Followed
  elected : StopTerms → Price → Followed

-- each price makes new terms of the terms before, and may elect them; under the kill switch it does not
unfoldable pub followed : (StopTerms → Price → StopTerms) → Bool → StopTerms → List Price → Followed
followed next kill t [] = pending t
followed next kill t (p ∷ ps) =
    cond (not kill && elected_at (next t p) p) (elected (next t p) p) (followed next kill (next t p) ps)

------------------------------------------------------------------------
-- What is claimed of a call that evaluates the store w at these prices

-- a stop that it leaves was in the store under its identity; and every panel that drew it right before, as one does that
-- starts from its terms, draws it right afterwards: as pending, at the stop that it has
pub record LeftAsDrawn (kill : Bool) (prices : List Price) (w : List ℕ) (t : StopEntry) : Type 0 where
  pub before : StopEntry
  pub found : find t.id w ≡ accepted (Some before)
  pub drawn : (panel : StopTerms) → DrawsRight before.terms panel
      → (u : StopTerms) × (followed previewed_at kill panel prices ≡ pending u) × DrawsRight t.terms u

-- an entry that it lists is of a stop that was in the store under its identity; and every panel that drew it right
-- before draws it as elected by the price that triggered it, at the stop that the entry has
pub record ElectedAsDrawn (kill : Bool) (prices : List Price) (w : List ℕ) (e : Elected) : Type 0 where
  pub before : StopEntry
  pub found : find e.id w ≡ accepted (Some before)
  pub drawn : (panel : StopTerms) → DrawsRight before.terms panel
      → (u : StopTerms) × (followed previewed_at kill panel prices ≡ elected u e.trigger) × (u.stop ≡ e.stop)

-- every stop that is found in the store after it, and every entry
pub record StopsDrawnRight (kill : Bool) (prices : List Price) (w after : List ℕ) (entries : List Elected) : Type 0 where
  pub left : (id : Id) (t : StopEntry) → find id after ≡ accepted (Some t) → LeftAsDrawn kill prices w t
  pub listed : All (ElectedAsDrawn kill prices w) entries

------------------------------------------------------------------------
-- The prices of a pass

-- those of the segments that it takes from the queue, in turn, as `pass_from` takes them
unfoldable pub pass_prices_from : ℕ → Settings → List ℕ → List PrintSegment → Book → List Price
pass_prices_from zero s script queue b = []
pass_prices_from (suc k) s script [] b = []
pass_prices_from (suc k) s script (prints ∷ queue) b =
    let rest : List Price =
    pass_prices_from k s (script_after s script prints b) (queue ++ (executed_in s script prints b).segments)
    (evaluated_in s prints b).book in
    elim (pending_count b.slots) [ zero ↦ [] | suc n ↦ segment_prices prints ++ rest ]

unfoldable pub pass_prices : Settings → List ℕ → PrintSegment → Book → List Price
pass_prices s script prints b = pass_prices_from (suc (pending_count b.slots)) s script (prints ∷ []) b

-- none where the run over path and store answers zeros
unfoldable pub run_prices : Settings → List ℕ → Option Price → List ℕ → PrintPath → List Price
run_prices s script trade w path =
    cond (eqb (pending_in w) 0 || not path.«open») [] (pass_prices s script (segment_of path trade) (book_of w))
