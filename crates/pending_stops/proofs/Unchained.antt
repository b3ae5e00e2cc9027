-- A record that is in no chain: how it comes to be so, and how the words become those of a book again.
use Prim.Native.Nat.{ℕ, ◌-◌}
use mathlib.Core.Path.{◌≡◌, refl, sym, ap, subst, fun_ext, ◌∙◌}
use mathlib.Core.Logic.{◌≢◌}
use mathlib.Core.List.{List, ◌∷◌}
use lib.ListN.{set}
use Rattle.pricelevel.specs.declared.Side.{Side}
use Rattle.book.specs.Valid.{Valid, Fits}
use Rattle.book.specs.Book.{Slot, vacant, Book, chain_side, pending_count, chain, indices}
use Rattle.book.specs.Store.{vacated}
use Rattle.book.specs.Words.{chain_indices}
use Rattle.book.specs.declared.Chain.{Chain}
use Rattle.book.specs.declared.Chain.TheVariants.{ByStop, ByWatermark}
use Rattle.chains.proofs.Names.{upd_here, upd_other, upd_all, of_free}
use Rattle.chains.proofs.Names as names
use Rattle.chains.proofs.Members.{has-remove}
use Rattle.chains.proofs.RankedSort.{insert_ranked_cong}
use Rattle.chains.specs.Chained.{Chained, Kept, On, Ready, upd, without, within}
use Rattle.book.specs.declared.StoreChain.{StoreChain}
use Rattle.book.specs.declared.StoreChain.TheVariants.{Ordered, Free}
use Rattle.chains.specs.Indices.{insert_ranked, remove}
use Rattle.chains.specs.Rank.{rank_at}
use Rattle.chains.proofs.Ranked.{rank_in}
use Rattle.book.specs.Chains.{Member, chains_of}
use Rattle.pending_stops.proofs.ChainChanges.{chain_member, member-chain, chain_out, chain_in, chain-other}
use Rattle.pending_stops.proofs.Contents.{holds-stored}
use Rattle.pending_stops.proofs.StoredWords.{contents_kept, contents-rank}
use Rattle.pending_stops.specs.Stored.{Stored, Contents}

-- the chains of a book with record i in none of the four
abbrev pub chains_without : ℕ → Book → StoreChain → List ℕ
chains_without i b (Ordered c) = chain_indices c (vacated i b)
chains_without i b Free = b.free

pub chain_indices_slots : (c : Chain) (b d : Book) → b.slots ≡ d.slots → chain_indices c b ≡ chain_indices c d
unfolding chain_indices
chain_indices_slots c b d e = ap (λ (ss : List Slot). indices (chain c ss)) e

-- the chains of a side are two
-- a change of the two chains of a side: what holds of these, and of each other chain, holds of each
side_all : (P : StoreChain → List ℕ → Type 0) (side : Side) (g : Chain → List ℕ → List ℕ) (ch : StoreChain → List ℕ)
    → ((c : Chain) → chain_side c ≡ side → P (Ordered c) (g c (ch (Ordered c))))
    → ((c : Chain) → chain_side c ≢ side → P (Ordered c) (ch (Ordered c))) → P Free (ch Free)
    → (a : StoreChain) → P a
    (upd (Ordered (ByWatermark side)) (g (ByWatermark side) (ch (Ordered (ByWatermark side))))
    (upd (Ordered (ByStop side)) (g (ByStop side) (ch (Ordered (ByStop side)))) ch) a)
side_all P side g ch own other z =
    upd_all P (Ordered (ByWatermark side)) _ _ (own (ByWatermark side) refl)
    (λ a nw. upd_all (λ a l. Ordered (ByWatermark side) ≢ a → P a l)
    (Ordered (ByStop side)) _ ch (λ _. own (ByStop side) refl) rest a nw)
  where
    rest : (a : StoreChain) → Ordered (ByStop side) ≢ a → Ordered (ByWatermark side) ≢ a → P a (ch a)
    rest (Ordered c) ns nw = other c (names.other_side side c ns nw)
    rest Free ns nw = z

-- chains that agree
pub ready_same : (n : ℕ) (w : List ℕ) (i : ℕ) (ch ch' : StoreChain → List ℕ) → ((a : StoreChain) → ch a ≡ ch' a)
    → Ready n w ch i → Ready n w ch' i
ready_same n w i ch ch' e = subst (λ (c : StoreChain → List ℕ). Ready n w c i) (fun_ext e)

-- the contents of a book, and its chains
kept-stored : (b : Book) → Valid b → Fits b → (n : ℕ) (w r : List ℕ)
    → Contents n w (pending_count b.slots) b.next b.tick b.slots r
    → (u : List ℕ) → Kept n w u → (ch : StoreChain → List ℕ) → Chained n u ch
    → ((a : StoreChain) → ch a ≡ chains_of b a) → Stored n u b r
kept-stored b v f n w r h u k ch s e =
    holds-stored n u b r v f
    (record {
      contents = contents_kept h u k;
      chained = subst (λ (c : StoreChain → List ℕ). Chained n u c) (fun_ext e) s;
    })

------------------------------------------------------------------------
-- Out of the chains

module _ (b : Book) (v : Valid b) (f : Fits b) (side : Side) (i : ℕ) (m : Member side b.slots i) where
  other_side : (c : Chain) → chain_side c ≢ side → chain_indices c (vacated i b) ≡ chain_indices c b
  other_side c n = chain-other c b v f i m.from m.entry m.there (λ e. n (e ∙ sym m.is_of_side))

  without_chains : (a : StoreChain) → without side i (chains_of b) a ≡ chains_without i b a
  without_chains =
      side_all (λ a l. l ≡ chains_without i b a) side (λ c. remove i) (chains_of b)
      (λ c e. sym (chain_out c b v f i m.from)) (λ c n. sym (other_side c n)) refl

  pub side_on : (n : ℕ) (w : List ℕ) → Chained n w (chains_of b) → On n w (chains_of b) side i
  side_on n w s = record {
    chained = s;
    stops = member-chain (ByStop side) b f i m;
    watermarks = member-chain (ByWatermark side) b f i m;
  }

  pub unlinked_ready : (n : ℕ) (u : List ℕ) → Ready n u (without side i (chains_of b)) i
      → Ready n u (chains_without i b) i
  unlinked_ready n u = ready_same n u i (without side i (chains_of b)) (chains_without i b) without_chains

  ------------------------------------------------------------------------
  -- Into the chains of a side

  module _ (n : ℕ) (w r : List ℕ) (h : Contents n w (pending_count b.slots) b.next b.tick b.slots r) where
    member-rank : (c : Chain) (s : Side) (j : ℕ) → Member s b.slots j → rank_at c w j ≡ rank_in c b.slots j
    member-rank c s j o = contents-rank h c j o.entry o.from (rw h.records at o.to) o.there

    placed : (c : Chain) → chain_side c ≡ side
        → insert_ranked (rank_at c w) i (chain_indices c (vacated i b)) ≡ chain_indices c b
    placed c e =
        insert_ranked_cong (rank_at c w) (rank_in c b.slots) i (chain_indices c (vacated i b)) (member-rank c side i m)
        (λ j t. member-rank c (chain_side c) j
        (chain_member c b f j (has-remove j i (chain_indices c b) (rw (chain_out c b v f i m.from) at t))))
        ∙ sym (chain_in c b v f i m.from (rw e m))

    within_chains : (a : StoreChain) → within side w i (chains_without i b) a ≡ chains_of b a
    within_chains = side_all (λ a l. l ≡ chains_of b a) side (λ c. insert_ranked (rank_at c w) i)
        (chains_without i b) placed other_side refl

    pub linked-stored : (u : List ℕ) → Kept n w u → Chained n u (within side w i (chains_without i b)) → Stored n u b r
    linked-stored u k s = kept-stored b v f n w r h u k (within side w i (chains_without i b)) s within_chains

------------------------------------------------------------------------
-- Into the free chain, and out of it

pub pushed-stored : (b : Book) (i : ℕ) → Valid (vacated i b) → Fits (vacated i b) → (n : ℕ) (w r : List ℕ)
    → Contents n w (pending_count (set b.slots (i - 1) vacant)) b.next b.tick (set b.slots (i - 1) vacant) r
    → (u : List ℕ) → Kept n w u → Chained n u (upd Free (i ∷ b.free) (chains_without i b)) → Stored n u (vacated i b) r
unfolding vacated
pushed-stored b i v f n w r h u k s =
    kept-stored (vacated i b) v f n w r h u k (upd Free (i ∷ b.free) (chains_without i b)) s same
  where
    same : (a : StoreChain) → upd Free (i ∷ b.free) (chains_without i b) a ≡ chains_of (vacated i b) a
    same (Ordered c) = upd_other Free (Ordered c) (i ∷ b.free) (chains_without i b) (λ e. of_free c (sym e))
    same Free = upd_here Free (i ∷ b.free) (chains_without i b)

-- the four chains without record i say nothing of what it holds
pub chains_without_same : (b d : Book) (i : ℕ) → set b.slots (i - 1) vacant ≡ set d.slots (i - 1) vacant
    → b.free ≡ d.free
    → (a : StoreChain) → chains_without i b a ≡ chains_without i d a
unfolding vacated
chains_without_same b d i e q (Ordered c) = chain_indices_slots c (vacated i b) (vacated i d) e
chains_without_same b d i e q Free = q

-- a free record is in none of them
pub chains_without_vacant : (b d : Book) (i : ℕ) → b.slots ≡ set d.slots (i - 1) vacant → (a : StoreChain)
    → upd Free d.free (chains_of b) a ≡ chains_without i d a
unfolding vacated
chains_without_vacant b d i e (Ordered c) =
    upd_other Free (Ordered c) d.free (chains_of b) (λ q. of_free c (sym q)) ∙ chain_indices_slots c b (vacated i d) e
chains_without_vacant b d i e Free = upd_here Free d.free (chains_of b)
