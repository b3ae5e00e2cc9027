-- The entries of a list completed, one after the other: from the words of fills to those of the elected.
use Prim.Native.Nat.{ℕ, suc, ◌+◌, ◌-◌, ◌≤◌, ◌<◌}
use native.Mathlib.Omega.{arith}
use mathlib.Core.Path.{◌≡◌, refl, sym, ap, ◌∙◌}
use mathlib.Core.Logic.{◌≢◌}
use mathlib.Core.Bool.{true, cond}
use mathlib.Core.List.{List, [], ◌∷◌, map}
use lib.ListN.{length, get_or, set, length-set}
use lib.Seq.{sets, length-sets}
use Rattle.pricelevel.specs.declared.Id.{Id}
use Rattle.pricelevel.specs.declared.IdKind.{IdKind}
use Rattle.pricelevel.specs.declared.Side.{Side}
use Rattle.stop_protection.specs.Collar.{limit_under, limit_words}
use Rattle.stop_trigger.specs.Child.{child_id}
use Rattle.book.proofs.ReadBack.{kind_of-number, side_from-number}
use Rattle.book.proofs.WellFormed.{layout-well_formed}
use Rattle.book.specs.Book.{Book, side_of}
use Rattle.book.specs.Calls.{elected_entry}
use Rattle.book.specs.Evaluation.{Fill}
use Rattle.book.specs.Store.{lookup, is_pending}
use Rattle.book.specs.Words.{kind_of, side_from, book_of, well_formed}
use Rattle.book.specs.declared.Settings.{Settings}
use Rattle.pending_stops.proofs.Found.{missing, found}
use Rattle.pending_stops.proofs.Contents.{stored_holds}
use Rattle.pending_stops.specs.Stored.{Stored}
use Rattle.store_words.specs.Search.{index_or0}
use Rattle.listing.proofs.Sets.{changed, changed_sets}
use Rattle.listing.proofs.Walked.{stored_book_lem}
use Rattle.book.specs.Entries.{elected_words}
use Rattle.listing.specs.ChainEntries.{fill_words, completed}
use Rattle.std.specs.Prelude.{Option, is_some}
use Rattle.stop_protection.specs.declared.LimitPrice.{LimitPrice}

------------------------------------------------------------------------
-- Whether an identity is pending

module _ {n : ℕ} {w : List ℕ} {b : Book} {r : List ℕ} (st : Stored n w b r) where
  pub stored-well_formed : well_formed w ≡ true
  stored-well_formed = rw st.words (layout-well_formed b r st.valid st.fits)

  pub stored_count : n ≡ get_or w 0 0
  stored_count = sym (stored_holds st).contents.word0

  module _ (id : Id) (i : ℕ) (e : i ≡ index_or0 (lookup id (book_of w))) where
    pub pending_none : i ≡ 0 → ◌≡◌ {A = ℕ} 0 (cond (is_pending id b) 1 0)
    unfolding is_pending
    pending_none z = rw (missing id b i (rw (stored_book_lem st) at e) z)

    pub pending_one : i ≢ 0 → ◌≡◌ {A = ℕ} 1 (cond (is_pending id b) 1 0)
    unfolding is_pending
    pending_one z = rw (found id b i (rw (stored_book_lem st) at e) z).looked

------------------------------------------------------------------------
-- One entry

-- the words of a fill give it back, but for what the entry does not ask
pub completed_fill : (s : Settings) (b : Book) (f : Fill)
    → completed s b (fill_words f) ≡ elected_words (elected_entry s b f)
unfolding completed fill_words elected_words elected_entry
completed_fill s b f = rw (kind_of-number f.stop.id.kind, side_from-number (side_of f.stop))

-- as the code makes it of what its parts tell
pub completed_words : (s : Settings) (b : Book) (e : List ℕ) (kind : IdKind) (side : Side) (l : Option LimitPrice) (child : Id)
    (words : List ℕ) (pending : ℕ)
    → kind ≡ kind_of (get_or e 0 0) → side ≡ side_from (get_or e 3 0) → l ≡ limit_under s.protection side (record {
      0 = get_or e 4 0;
    })
    → child ≡ child_id s.namespace (record { kind = kind; high = get_or e 1 0; low = get_or e 2 0 })
    → words ≡ limit_words l → pending ≡ cond (is_pending child b) 1 0
    → (get_or e 0 0 ∷ get_or e 1 0 ∷ get_or e 2 0 ∷ get_or e 3 0 ∷ get_or e 4 0 ∷ get_or e 5 0 ∷ get_or e 6 0 ∷ get_or e 7 0
    ∷ get_or words 0 0 ∷ get_or words 1 0 ∷ get_or words 2 0 ∷ child.high ∷ child.low ∷ pending ∷ []) ≡ completed s b e
unfolding completed
completed_words s b e kind side l child words pending k d m i p z = rw (z, p, m, i, k, d)

------------------------------------------------------------------------
-- A run of entries

-- before the entry at a place, where those up to `to` are to be completed: they are on the way to what the first list
-- becomes
pub record Doing (g : List ℕ → List ℕ) (list : List (List ℕ)) (from to at : ℕ) (now : List (List ℕ)) : Type 0 where
  pub size : length now ≡ length list
  pub same : changed [] g now at (to - at) ≡ changed [] g list from (to - from)

module _ (g : List ℕ → List ℕ) (list : List (List ℕ)) (from to : ℕ) where
  pub doing_first : Doing g list from to from list
  doing_first = record { size = refl; same = refl }

  pub doing_next : (at : ℕ) (now after : List (List ℕ)) → Doing g list from to at now → at < to
      → after ≡ set now at (g (get_or now at []))
      → Doing g list from to (at + 1) after
  unfolding changed
  doing_next at now after h less e =
      let q : to - at ≡ suc (to - (at + 1)) = omega (arith, less) in
      let r : at + 1 ≡ suc at = omega arith in
      record {
        size = ap length e ∙ length-set now at (g (get_or now at [])) ∙ h.size;
        same =
            ap (λ m. changed [] g m (at + 1) (to - (at + 1))) e
            ∙ ap (λ i. changed [] g (set now at (g (get_or now at []))) i (to - (at + 1))) r
            ∙ (rw q at h.same);
      }

  pub doing_last : (at : ℕ) (now : List (List ℕ)) → Doing g list from to at now → to ≤ at
      → now ≡ changed [] g list from (to - from)
  unfolding changed
  doing_last at now h done = let q : to - at ≡ 0 = omega (arith, done) in rw q at h.same

-- of the words of fills, in a store: the words of the elected
pub fills-completed : {n : ℕ} {w : List ℕ} {b : Book} {r : List ℕ} → Stored n w b r → (s : Settings) (fs : List Fill)
    → (list l : List (List ℕ)) (from to : ℕ) → to ≤ length list → list ≡ sets l from (map fill_words fs)
    → to ≡ from + length fs
    → changed [] (completed s (book_of w)) list from (to - from) ≡ sets list from
    (map (λ f. elected_words (elected_entry s b f)) fs)
fills-completed {b = b} st s fs list l from to few e q =
    let long : to - from ≡ length fs = omega (arith, q) in
    let size : length list ≡ length l = ap length e ∙ length-sets l from (map fill_words fs) in
    rw (long, stored_book_lem st, e)
    (changed_sets [] (completed s b) fill_words (λ f. elected_words (elected_entry s b f))
    (completed_fill s b) fs l from (omega (arith, few, q, size)))
