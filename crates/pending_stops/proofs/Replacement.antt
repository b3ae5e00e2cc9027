-- A stop is changed in its record: what each step asks, and what the last one leaves.
use Prim.Native.Nat.{ℕ, ◌-◌}
use native.Mathlib.Omega.{arith}
use mathlib.Core.Path.{◌≡◌, refl, sym, ◌∙◌}
use mathlib.Core.List.{List}
use lib.ListN.{length, set, length-set}
use lib.Seq.{set-set, sets, length-sets}
use Rattle.pricelevel.specs.declared.Side.{Side}
use Rattle.book.proofs.VacantIndices.{pending_count_set}
use Rattle.book.specs.Valid.{Valid, Fits}
use Rattle.book.specs.Book.{vacant, held, Book, side_of, pending_count}
use Rattle.book.specs.Words.{cell}
use Rattle.book.specs.declared.StopEntry.{StopEntry}
use Rattle.chains.proofs.Chained.{chained_set-header}
use Rattle.chains.specs.Chained.{Chained, Kept, On, Ready, without, within}
use Rattle.book.specs.declared.StoreChain.{StoreChain}
use Rattle.chains.specs.Records.{Record}
use Rattle.book.specs.Chains.{Member, chains_of}
use Rattle.pending_stops.proofs.Entry.{entered_ready, entered-stored}
use Rattle.pending_stops.proofs.Contents.{stored_holds}
use Rattle.pending_stops.proofs.Unchained.{chains_without, side_on, unlinked_ready, chains_without_same, ready_same}
use Rattle.pending_stops.proofs.StoredWords.{record_of, contents_kept, contents_next}
use Rattle.pending_stops.proofs.Vacancy.{ready_record, stored_room}
use Rattle.pending_stops.specs.Stored.{Stored, replaced, Contents}

module _ (n : ℕ) (w : List ℕ) (b : Book) (r : List ℕ) (st : Stored n w b r) (side : Side) (i : ℕ)
    (m : Member side b.slots i)
    (t : StopEntry) (next : ℕ) (word : ℕ) (v : Valid (replaced i t next b)) (f : Fits (replaced i t next b)) where
  -- with any number in the place of the next sequence
  abbrev w1 : List ℕ
  w1 = set w 2 word

  pub replacing_on : On n w1 (chains_of b) side i
  replacing_on = side_on b st.valid
      st.fits side i m n w1 (chained_set-header n w (chains_of b) (stored_holds st).chained 2 word (omega arith))

  same_count : pending_count b.slots ≡ pending_count (replaced i t next b).slots
  unfolding pending_count
  same_count = omega (
    arith,
    rw m.there at (pending_count_set b.slots (i - 1) (held t) (omega (arith, m.from, m.to))),
  )

  module _ (w2 : List ℕ) (k2 : Kept n w1 w2)
      (u2 : (ch : StoreChain → List ℕ) → On n w1 ch side i → Ready n w2 (without side i ch) i) where
    ready2 : Ready n w2 (chains_without i (replaced i t next b)) i
    ready2 =
        ready_same n w2 i (chains_without i b) (chains_without i (replaced i t next b))
        (chains_without_same b (replaced i t next b) i (sym (set-set b.slots (i - 1) (held t) vacant)) refl)
        (unlinked_ready b st.valid st.fits side i m n w2 (u2 (chains_of b) replacing_on))

    pub replacing_record : Record n w2 i
    replacing_record = ready_record n w2 (chains_without i (replaced i t next b)) i ready2

    contents2 : word ≡ next
        → Contents n w2 (pending_count (replaced i t next b).slots) next b.tick b.slots r
    contents2 e = rw (← same_count, ← e)
        (contents_kept (contents_next (stored_holds st).contents word (omega (arith, stored_room st))) w2 k2)

    module _ (w3 : List ℕ) (e3 : w3 ≡ sets w2 (cell i 0) (record_of (held t) 0 0)) where
      pub replacing_ready : Ready n w3 (chains_without i (replaced i t next b)) i
      replacing_ready = entered_ready n w2 (replaced i t next b) i t ready2 w3 e3

      pub replaced_length : (w4 : List ℕ) → Kept n w3 w4 → length w4 ≡ length w
      replaced_length w4 k4 = k4.size ∙ rw (e3, length-sets) (k2.size ∙ length-set w 2 word)

      pub replaced-stored : word ≡ next → (w4 : List ℕ) → Kept n w3 w4
          → ((ch : StoreChain → List ℕ) → Ready n w3 ch i → Chained n w4 (within (side_of t) w3 i ch))
          → Stored n w4 (replaced i t next b) r
      replaced-stored e w4 k4 p4 =
          entered-stored n w2 (replaced i t next b) r v f i t b.slots refl (contents2 e) ready2 w3 e3 w4 k4 p4
