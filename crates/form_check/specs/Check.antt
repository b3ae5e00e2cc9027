-- What the form check computes, test by test: document 01, The store. Each record by itself, the count, a walk along
-- each of the five chains, and the pairs of records.
use Rattle.std.specs.Prelude.{ℕ, zero, suc, ◌+◌, ◌≡◌, Bool, true, cond, ◌&&◌, ◌||◌, List, [], ◌∷◌, leb, ltb, eqb, length, get_or}
use Rattle.pricelevel.specs.Side.{side_number}
use Rattle.pricelevel.specs.declared.Side.{Side}
use Rattle.pricelevel.specs.declared.Side.TheVariants.{Buy, Sell}
use Rattle.book.specs.Book.{Slot, held, pending_count}
use Rattle.book.specs.Lists.{every, rising}
use Rattle.book.specs.Words.{cell, record_word, entry_at, slot_at, slots_at, sound_stop, all_differ}
use Rattle.book.specs.Sizes.{header_length, record_length, most_records, store_length, next_by_stop}
use Rattle.book.specs.declared.Chain.TheVariants.{ByStop, ByWatermark}
use Rattle.book.specs.Chains.{start_of, next_of, group_of, slot_group}
use Rattle.book.specs.declared.StoreChain.{StoreChain}
use Rattle.book.specs.declared.StoreChain.TheVariants.{Ordered, Free}
use Rattle.chains.specs.Rank.{rank_at}
use Rattle.form_check.specs.declared.Sides.{Sides}

------------------------------------------------------------------------
-- A record by itself

unfoldable pub is_zero : List ℕ → ℕ → ℕ → Bool
is_zero w i k = eqb (record_word w i k) 0

-- the free chain goes through next by stop, and the remaining words of its records are zero
unfoldable pub blank_at : List ℕ → ℕ → ℕ → Bool
blank_at w i k = eqb k next_by_stop || is_zero w i k

unfoldable pub blank : List ℕ → ℕ → Bool
blank w i = every (blank_at w i) (rising 0 record_length)

-- kinds and sides known, and the stop sound
unfoldable pub record_formed : List ℕ → ℕ → Bool
record_formed w i =
    cond (is_zero w i 7) (blank w i)
    (leb (record_word w i 0) 2 && (leb (record_word w i 3) 1 && sound_stop (get_or w 2 0) (get_or w 3 0) (held (entry_at w i))))

------------------------------------------------------------------------
-- The five chains

unfoldable pub group_count : ℕ → List Slot → ℕ
group_count g [] = 0
group_count g (s ∷ ss) = cond (eqb (slot_group s) g) 1 0 + group_count g ss

pub record SidesCounted (sides : Sides) (w : List ℕ) (n : ℕ) : Type 0 where
  pub sells : sides.sells ≡ group_count (side_number Sell) (slots_at w 1 n)
  pub buys : sides.buys ≡ group_count (side_number Buy) (slots_at w 1 n)

-- record j may come after record q, or first, where q is 0
unfoldable pub may_follow : StoreChain → List ℕ → ℕ → ℕ → Bool
may_follow (Ordered c) w q j = eqb q 0 || ltb (rank_at c w q) (rank_at c w j)
may_follow Free w q j = true

-- the word at p names the first of so many records and no more, each in range and of the chain's group, and each may
-- follow the one before it; q came last
unfoldable pub walk_formed : StoreChain → List ℕ → ℕ → ℕ → ℕ → ℕ → Bool
walk_formed k w n zero p q = eqb (get_or w p 0) 0
walk_formed k w n (suc left) p q =
    leb 1 (get_or w p 0)
    && (leb (get_or w p 0) n
    && (eqb (slot_group (slot_at w (get_or w p 0))) (group_of k)
    && (may_follow k w q (get_or w p 0) && walk_formed k w n left (cell (get_or w p 0) (next_of k)) (get_or w p 0))))

-- it holds as many records as there are of its group
unfoldable pub chain_formed : StoreChain → List ℕ → ℕ → Bool
chain_formed k w n = walk_formed k w n (group_count (group_of k) (slots_at w 1 n)) (start_of k) 0

unfoldable pub side_formed : Side → List ℕ → ℕ → Bool
side_formed side w n = chain_formed (Ordered (ByStop side)) w n && chain_formed (Ordered (ByWatermark side)) w n

-- the count is right, and so are the five chains
unfoldable pub chains_formed : List ℕ → ℕ → Bool
chains_formed w n =
    eqb (get_or w 1 0) (pending_count (slots_at w 1 n)) && (side_formed Sell w n && (side_formed Buy w n && chain_formed Free w n))

------------------------------------------------------------------------
-- All of it

unfoldable pub formed : List ℕ → Bool
formed w =
    leb header_length (length w)
    && (leb 1 (get_or w 0 0)
    && (leb (get_or w 0 0) most_records
    && (leb (store_length (get_or w 0 0)) (length w)
    && (every (record_formed w) (rising 1 (get_or w 0 0)) && (chains_formed w (get_or w 0 0) && all_differ (slots_at w 1 (get_or w 0 0)))))))
