-- A stop enters a store, in a record that is in no chain: its data words are stored, and it is linked in.
use Prim.Native.Nat.{ℕ, ◌-◌}
use native.Mathlib.Omega.{arith}
use mathlib.Core.Path.{◌≡◌, refl, sym}
use mathlib.Core.List.{List}
use lib.ListN.{set, length-set}
use lib.Seq.{get_or-set_same, sets}
use Rattle.book.specs.Valid.{Valid, Fits}
use Rattle.book.specs.Book.{Slot, vacant, held, Book, side_of, pending_count}
use Rattle.book.specs.Words.{cell}
use Rattle.book.specs.declared.StopEntry.{StopEntry}
use Rattle.chains.proofs.Data.{ready_sets}
use Rattle.chains.specs.Chained.{Chained, Kept, Ready, within}
use Rattle.book.specs.declared.StoreChain.{StoreChain}
use Rattle.book.specs.Chains.{Member}
use Rattle.pending_stops.proofs.Unchained.{chains_without, linked-stored}
use Rattle.pending_stops.proofs.StoredWords.{record_of, record_of_length, contents-written}
use Rattle.pending_stops.proofs.Vacancy.{ready_record}
use Rattle.pending_stops.specs.Stored.{Stored, Contents}

pub entered_ready : (n : ℕ) (w : List ℕ) (b : Book) (i : ℕ) (t : StopEntry) → Ready n w (chains_without i b) i
    → (u : List ℕ) → u ≡ sets w (cell i 0) (record_of (held t) 0 0) → Ready n u (chains_without i b) i
entered_ready n w b i t ready u e =
    rw e (ready_sets n w (chains_without i b) i (record_of (held t) 0 0)
    (omega (arith, record_of_length (held t) 0 0)) ready)

-- b is the book after it, ss what the records held before
module _ (n : ℕ) (w : List ℕ) (b : Book) (r : List ℕ) (v : Valid b) (f : Fits b) (i : ℕ) (t : StopEntry)
    (ss : List Slot)
    (slots : b.slots ≡ set ss (i - 1) (held t)) (h : Contents n w (pending_count b.slots) b.next b.tick ss r)
    (ready : Ready n w (chains_without i b) i)
    (u : List ℕ) (e : u ≡ sets w (cell i 0) (record_of (held t) 0 0)) where
  entered : Member (side_of t) b.slots i
  entered =
      let size = h.records in
      rw slots (record {
        from = ready.least;
        to = rw length-set (omega (arith, ready.most));
        entry = t;
        there = get_or-set_same ss (i - 1) (held t) vacant (omega (arith, ready.least, ready.most));
        is_of_side = refl;
      })

  contents : Contents n u (pending_count b.slots) b.next b.tick b.slots r
  contents = rw e (rw (sym slots) at (contents-written h i (ready_record n w (chains_without i b) i ready) (held t) 0 0))

  pub entered-stored : (x : List ℕ) → Kept n u x
      → ((ch : StoreChain → List ℕ) → Ready n u ch i → Chained n x (within (side_of t) u i ch)) → Stored n x b r
  entered-stored x k s =
      linked-stored b v f (side_of t) i entered n u r contents x k
      (s (chains_without i b) (entered_ready n w b i t ready u e))
