-- The calls on the store: layout, clear, find, admission, changes, cancel and totals. Document 01, The store;
-- Admission, change, cancel; The questions a call goes through.
use Rattle.std.specs.Prelude.{ℕ, ◌+◌, ◌-◌, ◌^◌, Bool, true, false, not, cond, ◌&&◌, ◌||◌, List, [], ◌∷◌, ◌++◌, leb, ltb, eqb, length, get_or, set, drop, replicate, None, Option, Some, is_some}
use Rattle.error.specs.Answer.{Answer, refused, accepted}
use Rattle.pricelevel.specs.Identity.{same_id}
use Rattle.pricelevel.specs.Tick.{on_tick}
use Rattle.pricelevel.specs.TwoWords.{two_words}
use Rattle.pricelevel.specs.declared.Holder.{Holder}
use Rattle.pricelevel.specs.declared.Id.{Id}
use Rattle.pricelevel.specs.declared.Price.{Price}
use Rattle.pricelevel.specs.declared.Quantity.{Quantity}
use Rattle.pricelevel.specs.declared.Seq.{Seq}
use Rattle.pricelevel.specs.declared.Side.{Side}
use Rattle.pricelevel.specs.declared.Side.TheVariants.{Buy, Sell}
use Rattle.stop_terms.specs.Terms.{behind, elected_at}
use Rattle.stop_terms.specs.declared.StopTerms.{StopTerms}
use Rattle.book.specs.Book.{Slot, vacant, held, Book, ByStop, Pending, side_of, stop_of, pending_on, chain, pending_count}
use Rattle.book.specs.Lists.{head_or0, rising}
use Rattle.book.specs.Path.{closed}
use Rattle.error.specs.Questions.{Question, question, first_no, decide}
use Rattle.book.specs.Words.{layout, book_of, well_formed}
use Rattle.book.specs.Sizes.{most_records, store_length}
use Rattle.book.specs.declared.OrderUpdate.{OrderUpdate}
use Rattle.book.specs.declared.OrderUpdate.TheVariants.{UpdateQuantity, UpdatePrice, UpdatePriceAndQuantity, Replace}
use Rattle.book.specs.declared.PrintPath.{PrintPath}
use Rattle.book.specs.declared.StopEntry.{StopEntry}
use Rattle.book.specs.declared.Totals.{Totals}

-- what a call on the store answers, and every word after it
pub record StoreOutcome (A : Type 0) : Type 0 where
  pub answer : Answer A
  pub words : List ℕ

-- the same with the print path after it
pub record PathOutcome (A : Type 0) : Type 0 where
  pub answer : Answer A
  pub words : List ℕ
  pub path : PrintPath

-- the words of a book in the place of a store of n records; words beyond stay
unfoldable pub stored : ℕ → Book → List ℕ → List ℕ
stored n b w = layout b ++ drop (store_length n) w

unfoldable pub stored_book : Book → List ℕ → List ℕ
stored_book b w = stored (get_or w 0 0) b w

------------------------------------------------------------------------
-- Layout and clear

-- count, sequence and heads zero, the free chain rising from 1 to n
unfoldable pub empty_book : ℕ → ℕ → Book
empty_book n tick = record { next = 0; tick = tick; slots = replicate n vacant; free = rising 1 n }

-- n from 1 to the most records, and enough words? 2
unfoldable pub lay_out : ℕ → ℕ → List ℕ → StoreOutcome (Unit {0})
lay_out n tick w =
    decide (first_no (question 2 (leb 1 n && (leb n most_records && leb (store_length n) (length w))) ∷ []))
    (λ k. record { answer = refused k; words = w })
    (record { answer = accepted tt; words = stored n (empty_book n tick) w })

-- lays out anew with the same n and tick, and resets the path
unfoldable pub clear : List ℕ → PrintPath → PathOutcome (Unit {0})
clear w path =
    decide (first_no (question 1 (well_formed w) ∷ []))
    (λ k. record { answer = refused k; words = w; path = path })
    (record { answer = accepted tt; words = stored_book (empty_book (get_or w 0 0) (get_or w 3 0)) w; path = closed path })

------------------------------------------------------------------------
-- Find

unfoldable pub named : Id → List Pending → Option Pending
named id [] = None
named id (p ∷ l) = cond (same_id id p.entry.id) (Some p) (named id l)

-- along the sell stop chain, then the buy stop chain
unfoldable pub lookup : Id → Book → Option Pending
lookup id b = named id (chain (ByStop Sell) b.slots ++ chain (ByStop Buy) b.slots)

unfoldable pub is_pending : Id → Book → Bool
is_pending id b = is_some (lookup id b)

-- the pending stop of this identity, if there is one; the store is only read
unfoldable pub entry_of : Option Pending → Option StopEntry
entry_of None = None
entry_of (Some p) = Some p.entry

unfoldable pub find : Id → List ℕ → Answer (Option StopEntry)
find id w = decide (first_no (question 1 (well_formed w) ∷ [])) refused (accepted (entry_of (lookup id (book_of w))))

------------------------------------------------------------------------
-- Admission: with a holder, of whom nothing is asked (document 02, One)

-- the stop is on the right side of, or at, its watermark
unfoldable pub within_watermark : StopTerms → Bool
within_watermark t = not (behind t.side t.watermark.0 t.stop.0)

-- no last trade, or not elected by it
unfoldable pub not_triggered : StopTerms → Option Price → Bool
not_triggered t None = true
not_triggered t (Some p) = not (elected_at t p)

unfoldable pub admission_questions : Bool → Option Price → Id → StopTerms → Quantity → List ℕ → List Question
admission_questions kill trade id terms quantity w =
    question 1 (well_formed w)
    ∷ question 3 (not kill)
    ∷ question 4 (leb 1 quantity.0)
    ∷ question 5 (leb 1 terms.trail)
    ∷ question 6 (within_watermark terms)
    ∷ question 7 (not_triggered terms trade)
    ∷ question 8 (not (is_pending id (book_of w)))
    ∷ question 9 (on_tick (book_of w).tick terms.trail)
    ∷ question 10 (ltb (pending_count (book_of w).slots) (length (book_of w).slots))
    ∷ question 11 (ltb (book_of w).next (2 ^ 64 - 1))
    ∷ []

-- the head of the free chain is taken; the next sequence is given, and goes up by 1
unfoldable pub admitted : StopEntry → Book → Book
admitted t b = record {
  next = b.next + 1;
  tick = b.tick;
  slots = set b.slots (head_or0 b.free - 1) (held t);
  free = drop 1 b.free;
}

unfoldable pub new_entry : Id → StopTerms → Quantity → Holder → Book → StopEntry
new_entry id terms quantity holder b = record {
  id = id;
  terms = terms;
  quantity = quantity;
  seq = record { 0 = b.next };
  holder = holder;
}

-- admission into an empty store resets the path
unfoldable pub path_after_admission : Book → PrintPath → PrintPath
path_after_admission b path = cond (eqb (pending_count b.slots) 0) (closed path) path

unfoldable pub admit : Bool → Option Price → Id → StopTerms → Quantity → Holder → List ℕ → PrintPath → PathOutcome Seq
admit kill trade id terms quantity holder w path =
    decide (first_no (admission_questions kill trade id terms quantity w))
    (λ number. record { answer = refused number; words = w; path = path })
    (record {
      answer = accepted (record { 0 = (book_of w).next });
      words = stored_book (admitted (new_entry id terms quantity holder (book_of w)) (book_of w)) w;
      path = path_after_admission (book_of w) path;
    })

------------------------------------------------------------------------
-- Cancel and change

-- a removed record goes to the head of the free chain
unfoldable pub vacated : ℕ → Book → Book
vacated i b = record { next = b.next; tick = b.tick; slots = set b.slots (i - 1) vacant; free = i ∷ b.free }

-- a cancel answers the record before it
unfoldable pub cancel_found : Option Pending → List ℕ → StoreOutcome StopEntry
cancel_found None w = record { answer = refused 12; words = w }
cancel_found (Some p) w = record { answer = accepted p.entry; words = stored_book (vacated p.index (book_of w)) w }

unfoldable pub cancel : Id → List ℕ → StoreOutcome StopEntry
cancel id w =
    decide (first_no (question 1 (well_formed w) ∷ []))
    (λ k. record { answer = refused k; words = w })
    (cancel_found (lookup id (book_of w)) w)

-- the terms and the quantity after a change; watermark, trail and holder stay
unfoldable pub with_terms : StopTerms → Side → Price → StopTerms
with_terms t side stop = record { side = side; stop = stop; watermark = t.watermark; trail = t.trail }

unfoldable pub changed_terms : OrderUpdate → StopEntry → StopTerms
changed_terms (UpdateQuantity quantity) t = t.terms
changed_terms (UpdatePrice price) t = with_terms t.terms (side_of t) price
changed_terms (UpdatePriceAndQuantity price quantity) t = with_terms t.terms (side_of t) price
changed_terms (Replace side price quantity) t = with_terms t.terms side price

unfoldable pub changed_quantity : OrderUpdate → StopEntry → Quantity
changed_quantity (UpdateQuantity quantity) t = quantity
changed_quantity (UpdatePrice price) t = t.quantity
changed_quantity (UpdatePriceAndQuantity price quantity) t = quantity
changed_quantity (Replace side price quantity) t = quantity

-- all but a change of quantity take a new sequence
unfoldable pub takes_sequence : OrderUpdate → Bool
takes_sequence (UpdateQuantity quantity) = false
takes_sequence (UpdatePrice price) = true
takes_sequence (UpdatePriceAndQuantity price quantity) = true
takes_sequence (Replace side price quantity) = true

-- a quantity of zero cancels
unfoldable pub cancels : OrderUpdate → Bool
cancels (UpdateQuantity quantity) = eqb quantity.0 0
cancels (UpdatePrice price) = false
cancels (UpdatePriceAndQuantity price quantity) = false
cancels (Replace side price quantity) = false

-- price change: stop different?
unfoldable pub differs_in_price : OrderUpdate → StopEntry → Bool
differs_in_price (UpdateQuantity quantity) t = true
differs_in_price (UpdatePrice price) t = not (eqb price.0 (stop_of t))
differs_in_price (UpdatePriceAndQuantity price quantity) t = true
differs_in_price (Replace side price quantity) t = true

unfoldable pub change_questions : OrderUpdate → Option Price → StopEntry → Book → List Question
change_questions update trade t b =
    question 13 (differs_in_price update t)
    ∷ question 4 (leb 1 (changed_quantity update t).0)
    ∷ question 6 (within_watermark (changed_terms update t))
    ∷ question 7 (not_triggered (changed_terms update t) trade)
    ∷ question 11 (not (takes_sequence update) || ltb b.next (2 ^ 64 - 1))
    ∷ []

unfoldable pub changed_entry : OrderUpdate → StopEntry → Book → StopEntry
changed_entry update t b = record {
  id = t.id;
  terms = changed_terms update t;
  quantity = changed_quantity update t;
  seq = cond (takes_sequence update) (record { 0 = b.next }) t.seq;
  holder = t.holder;
}

unfoldable pub changed : OrderUpdate → Pending → Book → Book
changed update p b = record {
  next = cond (takes_sequence update) (b.next + 1) b.next;
  tick = b.tick;
  slots = set b.slots (p.index - 1) (held (changed_entry update p.entry b));
  free = b.free;
}

-- a change answers the record after it
unfoldable pub change_found : OrderUpdate → Option Price → Pending → List ℕ → StoreOutcome StopEntry
change_found update trade p w =
    decide (first_no (change_questions update trade p.entry (book_of w)))
    (λ k. record { answer = refused k; words = w })
    (record { answer = accepted (changed_entry update p.entry (book_of w)); words = stored_book (changed update p (book_of w)) w })

unfoldable pub update_found : OrderUpdate → Option Price → Option Pending → List ℕ → StoreOutcome StopEntry
update_found update trade None w = record { answer = refused 12; words = w }
update_found update trade (Some p) w = cond (cancels update) (cancel_found (Some p) w) (change_found update trade p w)

unfoldable pub update : OrderUpdate → Id → Option Price → List ℕ → StoreOutcome StopEntry
update change id trade w =
    decide (first_no (question 1 (well_formed w) ∷ []))
    (λ k. record { answer = refused k; words = w })
    (update_found change trade (lookup id (book_of w)) w)

------------------------------------------------------------------------
-- Pending quantity per side

-- the sum in record index order
unfoldable pub quantity_of : Option StopEntry → ℕ
quantity_of None = 0
quantity_of (Some t) = t.quantity.0

unfoldable pub total : Side → List Slot → ℕ
total side [] = 0
total side (s ∷ ss) = quantity_of (pending_on side s) + total side ss

unfoldable pub totals_of : List Slot → Totals
totals_of ss = record { sell = two_words (total Sell ss); buy = two_words (total Buy ss) }

unfoldable pub pending_quantity : List ℕ → Answer Totals
pending_quantity w =
    decide (first_no (question 1 (well_formed w) ∷ [])) refused (accepted (totals_of (book_of w).slots))
