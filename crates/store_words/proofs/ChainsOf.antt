-- The chains of well-formed words: each is linked, without repeats, through the records that the book's chain names.
use Prim.Native.Nat.{ℕ, ◌≤◌}
use mathlib.Core.Path.{◌≡◌, sym, subst, ◌∙◌}
use mathlib.Core.Logic.{◌≢◌}
use mathlib.Core.Bool.{true}
use mathlib.Core.List.{List, [], ◌∷◌, ◌++◌}
use lib.ListN.{length, get_or, drop}
use Rattle.book.proofs.Chains.{layout_head, layout_next}
use Rattle.book.proofs.Lists.{all_map, all_map_both}
use Rattle.book.proofs.Members.{Belongs, belongs_range, chains_of_belong, chains_of_distinct}
use Rattle.book.proofs.ReadBack.{next_in_here, next_in_there}
use Rattle.book.proofs.Sort.{Distinct}
use Rattle.book.proofs.WellFormed.{well_formed_parts, well_formed-valid, well_formed-layout, book_of_slots_length}
use Rattle.book.specs.Book.{Book}
use Rattle.book.specs.Chains.{start_of, next_of, chains_of}
use Rattle.book.specs.Lists.{head_or0, All}
use Rattle.book.specs.Sizes.{store_length}
use Rattle.book.specs.Valid.{Valid}
use Rattle.book.specs.Words.{next_in, layout, cell, record_word, book_of, well_formed}
use Rattle.book.specs.declared.StoreChain.{StoreChain}
use Rattle.chains.specs.Links.{Linked}
use Rattle.chains.specs.Records.{Room}

------------------------------------------------------------------------
-- Links that follow a list

-- a word that names the first of a list without repeats, and words k that name the next
pub next_in_linked : (n : ℕ) (w : List ℕ) (k p : ℕ) (l : List ℕ) → get_or w p 0 ≡ head_or0 l → Distinct l
    → All (λ i. (1 ≤ i) × (i ≤ n) × (record_word w i k ≡ next_in l i)) l → Linked n w k p l
unfolding head_or0 record_word
next_in_linked n w k p [] e d links = e
next_in_linked n w k p (i ∷ l) e d links =
    let next : record_word w i k ≡ head_or0 l = links.0.2 ∙ next_in_here i l in
    let rest =
    all_map_both {P = λ j. i ≢ j} {Q = λ j. (1 ≤ j) × (j ≤ n)
    × (record_word w j k ≡ next_in (i ∷ l) j)} {R = λ j. (1 ≤ j) × (j ≤ n) × (record_word w j k ≡ next_in l j)}
    (λ j a h. (h.0, h.1, h.2 ∙ next_in_there i j l a)) l d.0 links.1 in
    (e, links.0.0, links.0.1, next_in_linked n w k (cell i k) l next d.1 rest)

------------------------------------------------------------------------
-- The words of a book

pub layout_linked : (b : Book) (r : List ℕ) → Valid b → (a : StoreChain)
    → Linked (length b.slots) (layout b ++ r) (next_of a) (start_of a) (chains_of b a)
layout_linked b r v a =
    next_in_linked (length b.slots) (layout b ++ r) (next_of a) (start_of a) (chains_of b a) (layout_head b r a)
    (chains_of_distinct b v a)
    (all_map linked (chains_of b a) (chains_of_belong b v a))
  where
    linked : (i : ℕ) → Belongs a b.slots i
        → (1 ≤ i) × (i ≤ length b.slots) × (record_word (layout b ++ r) i (next_of a) ≡ next_in (chains_of b a) i)
    linked i h = let q = belongs_range a b.slots i h in (q.0, q.1, layout_next b r a i h)

------------------------------------------------------------------------
-- Well-formed words

module _ (w : List ℕ) (e : well_formed w ≡ true) where
  pub well_formed_room : Room (get_or w 0 0) w
  well_formed_room = record {
    few = rw (book_of_slots_length w) at (well_formed-valid w e).few_records;
    room = (well_formed_parts w e).room;
  }

  layout_linked_words : (k p : ℕ) (l : List ℕ)
      → Linked (length (book_of w).slots) (layout (book_of w) ++ drop (store_length (get_or w 0 0)) w) k p l
      → Linked (get_or w 0 0) w k p l
  layout_linked_words k p l h =
      subst (λ (v : List ℕ). Linked (get_or w 0 0) v k p l) (sym (well_formed-layout w e))
      (rw (book_of_slots_length w) at h)

  pub well_formed_linked : (a : StoreChain) → Linked (get_or w 0 0) w (next_of a) (start_of a) (chains_of (book_of w) a)
  well_formed_linked a =
      layout_linked_words (next_of a) (start_of a) (chains_of (book_of w) a)
      (layout_linked (book_of w) _ (well_formed-valid w e) a)
