-- What a call finds in well-formed words: the book, and a pending stop by its identity.
use Prim.Native.Nat.{ℕ}
use native.Mathlib.Omega.{arith}
use mathlib.Core.Path.{◌≡◌, refl, sym, ◌∙◌}
use mathlib.Core.Logic.{◌≢◌}
use mathlib.Core.Bool.{true}
use mathlib.Core.List.{List}
use lib.ListN.{get_or, drop}
use Rattle.pricelevel.specs.declared.Id.{Id}
use Rattle.book.proofs.Lookup.{InBook, lookup_found}
use Rattle.book.proofs.WellFormed.{well_formed-valid, well_formed_fits, well_formed-layout, book_of_slots_length}
use Rattle.book.specs.Book.{Book, Pending, side_of, pending_count}
use Rattle.book.specs.Store.{stored, stored_book, lookup}
use Rattle.book.specs.Words.{entry_at, book_of, well_formed}
use Rattle.book.specs.Sizes.{store_length}
use Rattle.book.specs.declared.StopEntry.{StopEntry}
use Rattle.chains.specs.Records.{Record}
use Rattle.book.specs.Chains.{Member}
use Rattle.store_words.proofs.ChainsOf.{well_formed_room}
use Rattle.store_words.specs.Search.{index_or0}
use Rattle.pending_stops.proofs.Contents.{stored_holds}
use Rattle.pending_stops.proofs.StoredWords.{contents_entry}
use Rattle.pending_stops.specs.Stored.{Stored}
use Rattle.std.specs.Prelude.{None, Option, Some}

------------------------------------------------------------------------
-- The book of well-formed words

abbrev pub beyond : List ℕ → List ℕ
beyond w = drop (store_length (get_or w 0 0)) w

pub well_formed-stored : (w : List ℕ) → well_formed w ≡ true → Stored (get_or w 0 0) w (book_of w) (beyond w)
well_formed-stored w e =
    record {
      valid = well_formed-valid w e;
      fits = well_formed_fits w e;
      records = book_of_slots_length w;
      words = well_formed-layout w e;
    }

pub stored_words : (w u : List ℕ) (b : Book) → Stored (get_or w 0 0) u b (beyond w) → u ≡ stored_book b w
unfolding stored_book stored
stored_words w u b st = st.words

-- word 1 is the pending count
pub count_word : {n : ℕ} {w : List ℕ} {b : Book} {r : List ℕ} → Stored n w b r → get_or w 1 0 ≡ pending_count b.slots
count_word st = (stored_holds st).contents.word1

------------------------------------------------------------------------
-- The search

-- record i holds the stop of an identity
pub record Found (id : Id) (b : Book) (i : ℕ) : Type 0 where
  pub entry : StopEntry
  pub looked : lookup id b ≡ Some (record { index = i; entry = entry })
  pub in_book : InBook b.slots (record { index = i; entry = entry })

pub missing : (id : Id) (b : Book) (i : ℕ) → i ≡ index_or0 (lookup id b) → i ≡ 0 → lookup id b ≡ None
unfolding index_or0
missing id b i e z = go (lookup id b) refl (sym e ∙ z)
  where
    go : (o : Option Pending) → lookup id b ≡ o → index_or0 o ≡ 0 → lookup id b ≡ None
    go None q h = q
    go (Some p) q h = absurd (omega (arith, h, (lookup_found id b p q).0.from))

pub found : (id : Id) (b : Book) (i : ℕ) → i ≡ index_or0 (lookup id b) → i ≢ 0 → Found id b i
unfolding index_or0
found id b i e n = go (lookup id b) refl e
  where
    go : (o : Option Pending) → lookup id b ≡ o → i ≡ index_or0 o → Found id b i
    go None q h = absurd (n h)
    go (Some p) q h = rw h (record { entry = p.entry; looked = q; in_book = (lookup_found id b p q).0 })

module _ (w : List ℕ) (e : well_formed w ≡ true) (id : Id) (i : ℕ) (f : Found id (book_of w) i) where
  pub found_record : Record (get_or w 0 0) w i
  found_record = record {
    least = f.in_book.from;
    most = rw (← book_of_slots_length w) f.in_book.to;
    inside = well_formed_room w e;
  }

  pub found_entry : entry_at w i ≡ f.entry
  found_entry =
      contents_entry (stored_holds (well_formed-stored w e)).contents i f.entry found_record.least
      found_record.most f.in_book.there

  pub found_member : (t : StopEntry) → t ≡ entry_at w i → Member (side_of t) (book_of w).slots i
  found_member t q =
      rw (q ∙ found_entry)
      (record {
        from = f.in_book.from;
        to = f.in_book.to;
        entry = f.entry;
        there = f.in_book.there;
        is_of_side = refl;
      })
