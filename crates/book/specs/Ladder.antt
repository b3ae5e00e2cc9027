-- The ladder: for each pending stop, which of some trial prices elect it. Document 02, Three.
use Rattle.std.specs.Prelude.{ℕ, suc, ◌+◌, ◌/◌, ◌%◌, ◌^◌, ◌<◌, ◌≡◌, Bool, false, cond, ◌&&◌, ◌||◌, List, [], ◌∷◌, ◌++◌, map, leb, eqb, length, get_or}
use Rattle.error.specs.Answer.{Answer, refused, accepted}
use Rattle.error.specs.Questions.{Question, question, first_no, decide}
use Rattle.pricelevel.specs.Identity.{same_id}
use Rattle.pricelevel.specs.declared.Id.{Id}
use Rattle.pricelevel.specs.declared.Price.{Price}
use Rattle.stop_terms.specs.Terms.{elected_at}
use Rattle.stop_terms.specs.declared.StopTerms.{StopTerms}
use Rattle.book.specs.Book.{entries}
use Rattle.book.specs.BySequence.{by_sequence}
use Rattle.book.specs.Calls.{pending_in}
use Rattle.book.specs.Sizes.{most_trial_prices, no_place}
use Rattle.book.specs.Words.{book_of, well_formed}
use Rattle.book.specs.declared.Elected.{Elected}
use Rattle.book.specs.declared.StopEntry.{StopEntry}

------------------------------------------------------------------------
-- An entry

-- the places of the prices that elect these terms, which do not trail, counted from j
unfoldable pub electing_from : ℕ → StopTerms → List Price → List ℕ
electing_from j t [] = []
electing_from j t (p ∷ ps) = cond (elected_at t p) (j ∷ []) [] ++ electing_from (suc j) t ps

-- the word whose bits at these places are set
unfoldable pub bits_at : List ℕ → ℕ
bits_at [] = 0
bits_at (j ∷ l) = 2 ^ j + bits_at l

-- the word, how many prices elect the stop, and the place of the first that does, or `no_place`
pub record LadderEntry : Type 0 where
  pub word : ℕ
  pub count : ℕ
  pub first : ℕ

unfoldable pub ladder_entry : List Price → StopTerms → LadderEntry
ladder_entry prices t =
    let l : List ℕ = electing_from 0 t prices in
    record { word = bits_at l; count = length l; first = get_or l 0 no_place }

unfoldable pub ladder_words : LadderEntry → List ℕ
ladder_words e = e.word ∷ e.count ∷ e.first ∷ []

------------------------------------------------------------------------
-- The call

-- 1 to 64 prices? 19; the list at least count entries? 14
unfoldable pub ladder_questions : List Price → List ℕ → ℕ → List Question
ladder_questions prices w list =
    question 1 (well_formed w)
    ∷ question 19 (leb 1 (length prices) && leb (length prices) most_trial_prices)
    ∷ question 14 (leb (pending_in w) list)
    ∷ []

-- how many entries are listed, and the entries
pub record LadderOutcome : Type 0 where
  pub answer : Answer ℕ
  pub listed : List LadderEntry

-- one entry a stop, by rising sequence; the store is only read
unfoldable pub ladder : List Price → List ℕ → ℕ → LadderOutcome
ladder prices w list =
    let stops : List StopEntry = entries (by_sequence (book_of w).slots) in
    decide (first_no (ladder_questions prices w list))
    (λ k. record { answer = refused k; listed = [] })
    (record { answer = accepted (length stops); listed = map (λ t. ladder_entry prices t.terms) stops })

------------------------------------------------------------------------
-- Its law

unfoldable pub bit_set : ℕ → ℕ → Bool
bit_set j word = eqb (word / 2 ^ j % 2) 1

-- a list of the elected names a stop
unfoldable pub names : Id → List Elected → Bool
names id [] = false
names id (e ∷ l) = same_id id e.id || names id l

-- bit j of a stop's word is set exactly if the list that a call makes at price j names the stop
abbrev pub BitsTell : List Price → (Price → List Elected) → StopEntry → Type 0
BitsTell prices listed t = (j : ℕ) (d : Price) → j < length prices
    → bit_set j (ladder_entry prices t.terms).word ≡ names t.id (listed (get_or prices j d))
