-- A chain in two parts: where the second starts, and how its first record is taken out.
use Prim.Native.Nat.{ℕ, ◌≤◌, ◌<◌}
use native.Mathlib.Omega.{arith}
use mathlib.Core.Path.{◌≡◌, ap, ◌∙◌}
use mathlib.Core.List.{List, ◌∷◌, ◌++◌}
use lib.Dec.{T}
use Rattle.book.specs.Words.{cell}
use Rattle.book.specs.Sizes.{store_length}
use Rattle.chains.proofs.Cells.{cell_below}
use Rattle.chains.proofs.Chained.{kept_out, chained_out}
use Rattle.book.proofs.Lists.{all_map, all_append_parts}
use Rattle.chains.proofs.OneChain.{linked_distinct, linked_records, word_after_all, linked_after, spot_after}
use Rattle.chains.proofs.Members.{has_here, has_back, remove_after, distinct_front}
use Rattle.chains.proofs.Names.{name_stands, upd_here, upd_twice}
use Rattle.chains.specs.Chained.{Chained, Kept, upd}
use Rattle.book.specs.Chains.{start_of, next_of}
use Rattle.book.specs.declared.StoreChain.{StoreChain}
use Rattle.chains.specs.Indices.{remove, has}
use Rattle.chains.specs.Links.{Linked, word_after, spot, put_out}

------------------------------------------------------------------------
-- A chain of a store is l ++ m

module _ {n : ℕ} {w : List ℕ} (ch : StoreChain → List ℕ) (a : StoreChain) (l m : List ℕ)
    (s : Chained n w (upd a (l ++ m) ch)) where
  abbrev at : ℕ
  at = word_after (next_of a) (start_of a) l

  whole : Linked n w (next_of a) (start_of a) (l ++ m)
  whole = rw (upd_here a (l ++ m) ch) at (s.linked a)

  pub second_linked : Linked n w (next_of a) at m
  second_linked = linked_after n w (next_of a) (start_of a) l m whole

  pub second-place : at < store_length n
  second-place =
      let stands = name_stands a in
      word_after_all (λ q. q < store_length n) (next_of a) (start_of a) l (omega (arith, stands.high))
      (all_map {P = λ j. (1 ≤ j) × (j ≤ n)} {Q = λ j. cell j (next_of a) < store_length n}
      (λ j r. cell_below n j (next_of a) r.0 r.1 stands.in_record) l
      (all_append_parts (λ j. (1 ≤ j) × (j ≤ n)) l m (linked_records n (next_of a) w (start_of a) (l ++ m) whole)).0)

  -- the first of m is taken out
  module _ (i : ℕ) (rest : List ℕ) (e : m ≡ i ∷ rest) where
    chain : upd a (l ++ m) ch a ≡ l ++ (i ∷ rest)
    chain = upd_here a (l ++ m) ch ∙ ap (λ (x : List ℕ). l ++ x) e

    absent : T (has i l) → ⊥
    absent = distinct_front i l rest (linked_distinct n (next_of a) w (start_of a) (l ++ (i ∷ rest)) (rw e at whole))

    present : T (has i (upd a (l ++ m) ch a))
    present = rw chain (has_back i l (i ∷ rest) (has_here i rest))

    spot_second : spot (next_of a) i (start_of a) (upd a (l ++ m) ch a) ≡ at
    spot_second = rw chain (spot_after (next_of a) i (start_of a) l rest absent)

    remove_second : remove i (upd a (l ++ m) ch a) ≡ l ++ rest
    remove_second = rw chain (remove_after i l rest absent)

    pub kept_second : Kept n w (put_out w (next_of a) i at)
    kept_second = rw spot_second at (kept_out n w (upd a (l ++ m) ch) s a i present)

    pub chained_second : Chained n (put_out w (next_of a) i at) (upd a (l ++ rest) ch)
    chained_second = rw (spot_second, remove_second, upd_twice a (l ++ rest) (l ++ m) ch) at
        (chained_out n w (upd a (l ++ m) ch) s a i present)
