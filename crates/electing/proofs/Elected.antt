-- The elected of a side are a beginning of its stop chain, and the stop chain of the book after is what comes behind
-- them.
use Prim.Native.Nat.{ℕ}
use mathlib.Core.Path.{◌≡◌, refl, sym, ap, ◌∙◌}
use mathlib.Core.Bool.{true, false, false≢true}
use mathlib.Core.List.{List, [], ◌∷◌, ◌++◌, cons-ne-nil, map-append}
use borrow.Author.Tests.{not-true, not-false}
use borrow.Table.Steps.{cases}
use Rattle.pricelevel.specs.declared.Price.{Price}
use Rattle.pricelevel.specs.declared.Side.{Side}
use Rattle.pricelevel.specs.declared.Side.TheVariants.{Buy, Sell}
use Rattle.stop_terms.proofs.Terms.{elects_past}
use Rattle.stop_terms.specs.Terms.{elected_at}
use Rattle.book.proofs.Lists.{all_of}
use Rattle.book.proofs.Lookup.{chain_in_book}
use Rattle.book.proofs.SortedParts.{Part, never, Parted, parted, Met, Unmet, stops-apart, part_early, part_late}
use Rattle.book.specs.Steps.{elect, elected_in, vacated_by, stays, taken_on}
use Rattle.book.specs.Valid.{Fits}
use Rattle.book.specs.Book.{Slot, vacant, held, Book, Pending, side_of, of_side, pending_on, chain, indices}
use Rattle.book.specs.Evaluation.{leaving_on}
use Rattle.book.specs.Words.{chain_indices}
use Rattle.book.specs.declared.Chain.TheVariants.{ByStop}
use Rattle.book.specs.declared.StopEntry.{StopEntry}
use Rattle.chains.proofs.Members.{has_here}
use Rattle.book.specs.Chains.{Member}
use Rattle.pending_stops.proofs.ChainChanges.{chain_member}
use Rattle.std.specs.Prelude.{None}

------------------------------------------------------------------------
-- One stop

met : (price : Price) (t : StopEntry) → elected_at t.terms price ≡ true → Met (side_of t) price t
unfolding elected_at
met price t e = not-true _ (rw (elects_past (side_of t) price.0 t.terms.stop.0) at e)

unmet : (price : Price) (t : StopEntry) → elected_at t.terms price ≡ false → Unmet (side_of t) price t
unfolding elected_at
unmet price t e = not-false _ (rw (elects_past (side_of t) price.0 t.terms.stop.0) at e)

-- a record holds one stop
held_one : {s : Slot} {t u : StopEntry} → s ≡ held t → s ≡ held u → t ≡ u
held_one p q = cc

-- a record that gives up its stop has none of the side left
none_left : (d s : Side) (t : StopEntry) → s ≡ side_of t → pending_on d (vacated_by (of_side d s t) (held t)) ≡ None
unfolding pending_on vacated_by of_side
none_left Sell Sell t e = refl
none_left Sell Buy t e = rw (← e) refl
none_left Buy Sell t e = rw (← e) refl
none_left Buy Buy t e = refl

module _ (side : Side) (price : Price) where
  elect_part : (s : Slot)
      → Part (Met side price) (Unmet side price) (elect side price s) (pending_on side (stays side price s))
      (pending_on side s)
  unfolding elect stays vacated_by leaving_on pending_on
  elect_part vacant = never
  elect_part (held t) = cases (elected_at t.terms price)
      (λ e. rw (e, none_left side (side_of t) t refl) (part_early side (side_of t) price t (met price t e)))
      (λ e. rw e (part_late side (side_of t) price t (unmet price t e)))

  ------------------------------------------------------------------------
  -- The stop chain

  pub elected_parted : (b : Book) → Parted (Met side price) (Unmet side price)
      (elected_in side price b) (chain (ByStop side) (taken_on side price b).slots) (chain (ByStop side) b.slots)
  unfolding elected_in taken_on chain
  elected_parted b =
      parted (ByStop side) (Met side price) (Unmet side price) (stops-apart side price) (elect side price)
      (pending_on side) (pending_on side)
      (stays side price) 1 b.slots (all_of elect_part b.slots)

  -- by index: first the elected, then the chain of the book after
  pub elected-indices : (b : Book)
      → chain_indices (ByStop side) b ≡ indices (elected_in side price b) ++ chain_indices (ByStop side)
      (taken_on side price b)
  unfolding chain_indices indices
  elected-indices b = ap (λ (l : List Pending). indices l) (elected_parted b).joined
      ∙ map-append (λ p. p.index) (elected_in side price b) _

  module _ (b : Book) (i : ℕ) (rest : List ℕ) (first : chain_indices (ByStop side) b ≡ i ∷ rest)
      (m : Member side b.slots i) where
    -- the stop that comes first is that of record i
    first_stop : (p : Pending) (l : List Pending) → chain (ByStop side) b.slots ≡ p ∷ l → p ≡ record {
      index = i;
      entry = m.entry;
    }
    unfolding chain_indices indices
    first_stop p l e =
        let same : p.index ≡ i = go (rw e at first) in
        let entry : p.entry ≡ m.entry =
        held_one (rw same at (rw e at (chain_in_book (ByStop side) b.slots)).0.there) m.there in
        λ x. record { index = same x; entry = entry x }
      where
        go : {x : ℕ} {k k' : List ℕ} → x ∷ k ≡ i ∷ k' → x ≡ i
        go q = cc

    some_stop : chain (ByStop side) b.slots ≡ [] → ⊥
    unfolding chain_indices indices
    some_stop e = cons-ne-nil i rest (sym first ∙ ap (λ (l : List Pending). indices l) e)

    -- it is elected, and so the first of the elected
    pub first_elected_lem : elected_at m.entry.terms price ≡ true
        → (l : List Pending) × (elected_in side price b ≡ record { index = i; entry = m.entry } ∷ l)
    first_elected_lem e = go (elected_in side price b) (chain (ByStop side) (taken_on side price b).slots) (elected_parted b)
      where
        go : (early late : List Pending)
            → Parted (Met side price) (Unmet side price) early late (chain (ByStop side) b.slots)
            → (l : List Pending) × (early ≡ record { index = i; entry = m.entry } ∷ l)
        go [] [] p = absurd (some_stop p.joined)
        go [] (q ∷ l) p =
            let late : Unmet side price m.entry = rw (first_stop q l p.joined) at p.back.0 in
            absurd (false≢true (sym (rw (← m.is_of_side) at (met price m.entry e)) ∙ late))
        go (q ∷ l) late p = (l, rw (first_stop q (l ++ late) p.joined))

    -- it is not, and so none is
    pub first-unelected : elected_at m.entry.terms price ≡ false → elected_in side price b ≡ []
    first-unelected e = go (elected_in side price b) (chain (ByStop side) (taken_on side price b).slots)
        (elected_parted b)
      where
        go : (early late : List Pending)
            → Parted (Met side price) (Unmet side price) early late (chain (ByStop side) b.slots) → early ≡ []
        go [] late p = refl
        go (q ∷ l) late p =
            let early : Met side price m.entry = rw (first_stop q (l ++ late) p.joined) at p.front.0 in
            absurd (false≢true (sym early ∙ rw (← m.is_of_side) at (unmet price m.entry e)))

  -- without a stop none is elected
  pub none_elected : (b : Book) → chain_indices (ByStop side) b ≡ [] → elected_in side price b ≡ []
  unfolding chain_indices indices
  none_elected b e = go (elected_in side price b) (chain (ByStop side) b.slots) (elected_parted b).joined e
    where
      go : (early whole : List Pending) → whole ≡ early ++ chain (ByStop side) (taken_on side price b).slots
          → indices whole ≡ [] → early ≡ []
      go [] whole j z = refl
      go (q ∷ l) [] j z = absurd (cons-ne-nil q _ (sym j))
      go (q ∷ l) (p ∷ k) j z = absurd (cons-ne-nil p.index (indices k) z)

------------------------------------------------------------------------
-- The first of the elected

-- record i comes first in the stop chain of a side, and its stop is elected
pub record First (side : Side) (price : Price) (b : Book) (i : ℕ) : Type 0 where
  pub rest : List ℕ
  pub first : chain_indices (ByStop side) b ≡ i ∷ rest
  pub member : Member side b.slots i
  pub elected : elected_at member.entry.terms price ≡ true

pub some_elected : (side : Side) (price : Price) (b : Book) → Fits b → (p : Pending) (l : List Pending)
    → elected_in side price b ≡ p ∷ l
    → First side price b p.index
unfolding indices
some_elected side price b f p l e =
    let rest : List ℕ = indices l ++ chain_indices (ByStop side) (taken_on side price b) in
    let chain : chain_indices (ByStop side) b ≡ p.index ∷ rest = rw e at (elected-indices side price b) in
    let m = chain_member (ByStop side) b f p.index (rw chain (has_here p.index rest)) in
    cases (elected_at m.entry.terms price)
    (λ t. record { rest = rest; first = chain; member = m; elected = t })
    (λ t. absurd (cons-ne-nil p l (sym e ∙ first-unelected side price b p.index rest chain m t)))
