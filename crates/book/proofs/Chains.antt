-- The words of a book's chains: each head names the first record of its chain, and each link the next.
use Prim.Native.Nat.{ℕ, ◌-◌, ◌<◌}
use native.Mathlib.Omega.{arith}
use mathlib.Core.Path.{◌≡◌, refl, ◌∙◌}
use mathlib.Core.List.{List, ◌++◌}
use lib.ListN.{get_or}
use Rattle.pricelevel.specs.declared.Side.TheVariants.{Buy, Sell}
use Rattle.book.proofs.Members.{Belongs, belongs_range}
use Rattle.book.proofs.Places.{layout-header, layout_record}
use Rattle.book.specs.Book.{vacant, held, Book, Chain, ByStop, ByWatermark, chain_side, side_of}
use Rattle.book.specs.Chains.{StoreChain, Ordered, Free, start_of, next_of, link_of, chains_of}
use Rattle.book.specs.Lists.{head_or0}
use Rattle.book.specs.Sizes.{header_length, record_length}
use Rattle.book.specs.Words.{next_in, chain_indices, header, data_words, after_by_stop, after_by_watermark, with_links, record_words, layout, record_word}
use Rattle.book.specs.declared.StopEntry.{StopEntry}

module _ (b : Book) where
  pub header_head : (a : StoreChain) → get_or (header b) (start_of a) 0 ≡ head_or0 (chains_of b a)
  unfolding header
  header_head (Ordered (ByStop Sell)) = refl
  header_head (Ordered (ByWatermark Sell)) = refl
  header_head (Ordered (ByStop Buy)) = refl
  header_head (Ordered (ByWatermark Buy)) = refl
  header_head Free = refl

  held_next : (c : Chain) (i : ℕ) (t : StopEntry) → chain_side c ≡ side_of t
      → get_or (record_words b i (held t)) (link_of c) 0 ≡ next_in (chain_indices c b) i
  unfolding record_words data_words after_by_stop after_by_watermark with_links
  held_next (ByStop side) i t e = rw (← e)
  held_next (ByWatermark side) i t e = rw (← e)

  vacant_next : (i : ℕ) → get_or (record_words b i vacant) (next_of Free) 0 ≡ next_in b.free i
  unfolding record_words data_words after_by_stop with_links
  vacant_next i = refl

  -- the link of a record that a chain holds
  pub record_words_next : (a : StoreChain) (i : ℕ) → Belongs a b.slots i
      → get_or (record_words b i (get_or b.slots (i - 1) vacant)) (next_of a) 0 ≡ next_in (chains_of b a) i
  record_words_next (Ordered c) i h = rw h.there (held_next c i h.entry h.is_of_side)
  record_words_next Free i h = rw h.is_vacant (vacant_next i)

  start_of_inside : (a : StoreChain) → start_of a < header_length
  start_of_inside (Ordered (ByStop Sell)) = omega arith
  start_of_inside (Ordered (ByWatermark Sell)) = omega arith
  start_of_inside (Ordered (ByStop Buy)) = omega arith
  start_of_inside (Ordered (ByWatermark Buy)) = omega arith
  start_of_inside Free = omega arith

  pub next_of_inside : (a : StoreChain) → next_of a < record_length
  next_of_inside (Ordered (ByStop side)) = omega arith
  next_of_inside (Ordered (ByWatermark side)) = omega arith
  next_of_inside Free = omega arith

  module _ (r : List ℕ) where
    pub layout_head : (a : StoreChain) → get_or (layout b ++ r) (start_of a) 0 ≡ head_or0 (chains_of b a)
    layout_head a = layout-header b r (start_of a) (start_of_inside a) ∙ header_head a

    pub layout_next : (a : StoreChain) (i : ℕ) → Belongs a b.slots i
        → record_word (layout b ++ r) i (next_of a) ≡ next_in (chains_of b a) i
    layout_next a i h =
        let q = belongs_range a b.slots i h in
        layout_record b r i (next_of a) q.0 q.1 (next_of_inside a) ∙ record_words_next a i h
