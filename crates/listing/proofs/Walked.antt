-- The walks along the chains of a store that write the two lists: where they start, and what they have written at the
-- end.
use Prim.Native.Nat.{ℕ, ◌+◌, ◌≤◌, ◌<◌}
use native.Mathlib.Omega.{arith}
use mathlib.Core.Path.{◌≡◌, refl, ap, ◌∙◌}
use mathlib.Core.Bool.{Bool}
use mathlib.Core.List.{List, map}
use lib.ListN.{length, get_or, length-map}
use lib.Seq.{sets}
use Rattle.pricelevel.specs.declared.Price.{Price}
use Rattle.pricelevel.specs.declared.Side.{Side}
use Rattle.pricelevel.specs.declared.Side.TheVariants.{Buy, Sell}
use Rattle.book.proofs.Lists.{all_map}
use Rattle.book.specs.Lists.{All}
use Rattle.book.proofs.Lookup.{InBook, chain_in_book}
use Rattle.book.proofs.ReadBack.{book_of-layout}
use Rattle.book.specs.Steps.{elected_in}
use Rattle.book.specs.Book.{Book, chain}
use Rattle.book.specs.Evaluation.{moved_on, fill_at}
use Rattle.book.specs.Words.{chain_indices, book_of}
use Rattle.book.specs.Sizes.{header_length}
use Rattle.book.specs.declared.Chain.{Chain}
use Rattle.book.specs.declared.Chain.TheVariants.{ByStop, ByWatermark}
use Rattle.book.specs.declared.StopEntry.{StopEntry}
use Rattle.chains.proofs.OneChain.{linked_length}
use Rattle.book.specs.Chains.{head_of, link_of}
use Rattle.book.specs.declared.StoreChain.TheVariants.{Ordered}
use Rattle.chains.specs.Links.{Linked}
use Rattle.chains.specs.Records.{Room}
use Rattle.pending_stops.proofs.Contents.{stored_holds}
use Rattle.pending_stops.proofs.StoredWords.{contents_entry}
use Rattle.pending_stops.specs.Stored.{Stored}
use Rattle.listing.proofs.Along.{along, At, at_first}
use Rattle.listing.proofs.Leaders.{Reads, along-chain, watermark_behind, elected_stop, watermarks-apart, elected-apart}
use Rattle.listing.proofs.Listed.{given-moved_on, given-elected_in}
use Rattle.listing.proofs.Notes.{Written}
use Rattle.book.specs.Entries.{moved_words}
use Rattle.listing.specs.ChainEntries.{fill_words, moves_of, fills_of}

------------------------------------------------------------------------
-- A store

pub head_few : (c : Chain) → head_of c < header_length
head_few (ByStop Sell) = omega arith
head_few (ByStop Buy) = omega arith
head_few (ByWatermark Sell) = omega arith
head_few (ByWatermark Buy) = omega arith

module _ {n : ℕ} {w : List ℕ} {b : Book} {r : List ℕ} (st : Stored n w b r) where
  pub stored_book_lem : book_of w ≡ b
  stored_book_lem = rw st.words (book_of-layout b r st.valid)

  stored_linked : (c : Chain) → Linked n w (link_of c) (head_of c) (chain_indices c b)
  stored_linked c = (stored_holds st).chained.linked (Ordered c)

  stored_room : Room n w
  stored_room = (stored_holds st).chained.inside

  pub stored_head : (c : Chain) → head_of c < length w
  stored_head c = omega (arith, head_few c, stored_room.room)

  -- each stop of a chain is read from its record
  stored_reads : (c : Chain) → All (Reads w) (chain c b.slots)
  stored_reads c =
      all_map {P = InBook b.slots}
      (λ p h. contents_entry (stored_holds st).contents p.index p.entry h.from (rw (← st.records) h.to)
      h.there)
      (chain c b.slots) (chain_in_book c b.slots)

------------------------------------------------------------------------
-- A walk

-- what a walk along a chain finds
abbrev pub walked : (StopEntry → Bool) → (StopEntry → List (List ℕ)) → List ℕ → Chain → List (List ℕ)
walked test give w c = along test give w (chain_indices c (book_of w))

module _ {n : ℕ} {w : List ℕ} {b : Book} {r : List ℕ} (st : Stored n w b r) where
  -- where what it finds are the words of xs
  module _ {A : Type 0} (xs : List A) (words : A → List ℕ) (test : StopEntry → Bool) (give : StopEntry → List (List ℕ))
      (c : Chain)
      (e : walked test give w c ≡ map words xs) (list : List (List ℕ)) (at : ℕ) where
    pub walk_start : at + length xs ≤ length list
        → At test give w n (link_of c) list at (walked test give w c) (get_or w (head_of c) 0) at n list
    walk_start h =
        at_first test give w n (link_of c) list at (walked test give w c) (head_of c) (chain_indices c b) (stored_room st)
        (stored_linked st c)
        (linked_length n (link_of c) w (head_of c) (chain_indices c b) (stored_linked st c))
        (ap (λ x. along test give w (chain_indices c x)) (stored_book_lem st))
        (omega (arith, ap length e, length-map xs words))

    pub walk_done : (m : ℕ) (now : List (List ℕ)) → Written list at (walked test give w c) m now
        → (m ≡ at + length xs) × (now ≡ sets list at (map words xs))
    walk_done m now h = (
      h.0 ∙ ap (λ l. at + length l) e ∙ ap (λ k. at + k) (length-map xs words),
      h.1
          ∙ ap (sets list at) e,
    )

  module _ (price : Price) (d : Side) where
    pub moved_walked : walked (watermark_behind d price)
        (moves_of price) w (ByWatermark d) ≡ map moved_words (moved_on price d b)
    unfolding chain_indices
    moved_walked =
        rw (stored_book_lem st)
        (along-chain (watermark_behind d price) (moves_of price) w d (ByWatermark d) refl (watermarks-apart d price)
        b.slots
        (stored_reads st (ByWatermark d))
        ∙ given-moved_on price d b st.fits.slots)

    pub elected_walked : walked (elected_stop price)
        (fills_of price) w (ByStop d) ≡ map (λ p. fill_words (fill_at price p)) (elected_in d price b)
    unfolding chain_indices
    elected_walked =
        rw (stored_book_lem st)
        (along-chain (elected_stop price) (fills_of price) w d (ByStop d) refl (elected-apart d price) b.slots
        (stored_reads st (ByStop d))
        ∙ given-elected_in price d b)
