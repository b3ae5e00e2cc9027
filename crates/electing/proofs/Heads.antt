-- The first of a stop chain, read from the words: the words say whether any stop of the side is elected.
use Prim.Native.Nat.{ℕ}
use native.Mathlib.Omega.{arith}
use mathlib.Core.Path.{◌≡◌, refl, sym, ◌∙◌}
use mathlib.Core.Logic.{◌≢◌}
use mathlib.Core.Bool.{true, false}
use mathlib.Core.List.{List, [], ◌∷◌}
use borrow.Author.Tests.{eqb-true, eqb-false}
use borrow.Table.Steps.{cases}
use lib.Dec.{eqb}
use lib.ListN.{get_or}
use Rattle.pricelevel.specs.declared.Price.{Price}
use Rattle.pricelevel.specs.declared.Side.{Side}
use Rattle.stop_terms.specs.Terms.{elected_at}
use Rattle.book.specs.Steps.{elected_in}
use Rattle.book.specs.Valid.{Fits}
use Rattle.book.specs.Book.{Book}
use Rattle.book.specs.Words.{chain_indices, entry_at}
use Rattle.book.specs.declared.Chain.TheVariants.{ByStop}
use Rattle.chains.proofs.Members.{has_here}
use Rattle.chains.specs.Chained.{Chained}
use Rattle.book.specs.Chains.{start_of, next_of, head_of, link_of, Member}
use Rattle.book.specs.declared.StoreChain.{StoreChain}
use Rattle.chains.specs.Links.{Linked}
use Rattle.chains.specs.Records.{Record}
use Rattle.pending_stops.proofs.ChainChanges.{chain_member}
use Rattle.pending_stops.specs.Stored.{Contents}
use Rattle.pending_stops.proofs.StoredWords.{contents_entry}
use Rattle.chains.proofs.OneChain.{linked_from}
use Rattle.electing.proofs.Elected.{First, first-unelected, none_elected}
use Rattle.electing.specs.Elected.{elected_or0, first_elected}

------------------------------------------------------------------------
-- The words

module _ (price : Price) (w : List ℕ) (i : ℕ) where
  elected_or0_yes : elected_at (entry_at w i).terms price ≡ true → elected_or0 price w i ≡ i
  unfolding elected_or0
  elected_or0_yes e = rw e

  elected_or0_no : elected_at (entry_at w i).terms price ≡ false → elected_or0 price w i ≡ 0
  unfolding elected_or0
  elected_or0_no e = rw e

  -- there is no record 0
  elected_or0_none : i ≡ 0 → elected_or0 price w i ≡ 0
  elected_or0_none z = cases (elected_at (entry_at w i).terms price) (λ e. elected_or0_yes e ∙ z) elected_or0_no

-- what the word at the head of a chain names is a record
pub head_record : (n : ℕ) (w : List ℕ) (ch : StoreChain → List ℕ) → Chained n w ch → (a : StoreChain) (p : ℕ)
    → p ≡ start_of a → get_or w p 0 ≢ 0
    → Record n w (get_or w p 0)
head_record n w ch h a p e ne =
    let from = linked_from n w (next_of a) (start_of a) _ (ch a) refl (rw e at ne) (h.linked a) in
    rw e (record { least = from.least; most = from.most; inside = h.inside })

module _ (side : Side) (price : Price) (w : List ℕ) (p : ℕ) (e : p ≡ head_of (ByStop side)) where
  pub first_elected_end : get_or w p 0 ≡ 0 → 0 ≡ first_elected side price w
  unfolding first_elected
  first_elected_end z = rw (← e) (sym (elected_or0_none price w (get_or w p 0) z))

  pub first_elected_yes : elected_at (entry_at w (get_or w p 0)).terms price ≡ true → get_or w p 0 ≡ first_elected side price w
  unfolding first_elected
  first_elected_yes t = rw (← e) (sym (elected_or0_yes price w (get_or w p 0) t))

  pub first_elected_no : elected_at (entry_at w (get_or w p 0)).terms price ≡ false → 0 ≡ first_elected side price w
  unfolding first_elected
  first_elected_no t = rw (← e) (sym (elected_or0_no price w (get_or w p 0) t))

------------------------------------------------------------------------
-- In the words of a book

module _ (side : Side) (price : Price) (b : Book) (f : Fits b) {n : ℕ} {w r : List ℕ} {count next tick : ℕ}
    (h : Contents n w count next tick b.slots r)
    (linked : Linked n w (link_of (ByStop side)) (head_of (ByStop side)) (chain_indices (ByStop side) b)) where
  abbrev head : ℕ
  head = get_or w (head_of (ByStop side)) 0

  head_member : (rest : List ℕ) → chain_indices (ByStop side) b ≡ head ∷ rest → Member side b.slots head
  head_member rest e = chain_member (ByStop side) b f head (rw e (has_here head rest))

  head_entry : (m : Member side b.slots head) → entry_at w head ≡ m.entry
  head_entry m = contents_entry h head m.entry m.from (rw h.records at m.to) m.there

  pub none_first : first_elected side price w ≡ 0 → elected_in side price b ≡ []
  unfolding first_elected
  none_first z = cases (eqb head 0)
      (λ e. none_elected side price b (go (chain_indices (ByStop side) b) linked (eqb-true head 0 e)))
      (λ e.
      let from = linked_from n w _ _ head (chain_indices (ByStop side) b) refl (eqb-false head 0 e) linked in
      let m = head_member from.rest from.is in
      cases (elected_at (entry_at w head).terms price)
      (λ t. absurd (eqb-false head 0 e (sym (elected_or0_yes price w head t) ∙ z)))
      (λ t. first-unelected side price b head from.rest from.is m (rw (head_entry m) at t)))
    where
      go : (l : List ℕ) → Linked n w (link_of (ByStop side)) (head_of (ByStop side)) l → head ≡ 0 → l ≡ []
      go [] c q = refl
      go (j ∷ l) c q = absurd (omega (arith, c.0, c.1))

  pub some_first : (i : ℕ) → i ≡ first_elected side price w → i ≢ 0 → First side price b i
  unfolding first_elected
  some_first i e ne = cases (elected_at (entry_at w head).terms price)
      (λ t.
      let same : i ≡ head = e ∙ elected_or0_yes price w head t in
      let from = linked_from n w _ _ head (chain_indices (ByStop side) b) refl (λ z. ne (same ∙ z)) linked in
      let m = head_member from.rest from.is in
      rw same (record { rest = from.rest; first = from.is; member = m; elected = rw (head_entry m) at t }))
      (λ t. absurd (ne (e ∙ elected_or0_no price w head t)))
