-- What an election leaves of the records: it takes out what is elected, nothing where nothing is, and nothing more a
-- second time.
use Prim.Native.Nat.{ℕ, suc, ◌-◌}
use native.Mathlib.Omega.{arith}
use mathlib.Core.Path.{◌≡◌, refl, ap}
use mathlib.Core.Bool.{true, false}
use mathlib.Core.List.{List, [], ◌∷◌, map, map-id, cons-ne-nil}
use borrow.Table.Steps.{cases}
use lib.ListN.{length}
use Rattle.pricelevel.specs.declared.Price.{Price}
use Rattle.pricelevel.specs.declared.Side.{Side}
use Rattle.pricelevel.specs.declared.Side.TheVariants.{Buy, Sell}
use Rattle.stop_terms.specs.Terms.{elected_at}
use Rattle.book.proofs.Sort.{sort_by_length}
use Rattle.book.proofs.Lists.{all_of, all_map, all_get_d, all_mapped, map_agree}
use Rattle.book.proofs.Points.{gather_none}
use Rattle.book.specs.Steps.{elect, elected_in, vacated_by, stays, taken_on}
use Rattle.book.specs.Valid.{SlotFits, Fits}
use Rattle.book.specs.Book.{Slot, vacant, held, Book, Pending, side_of, of_side, with_index, gather, sort, earlier_in}
use Rattle.book.specs.Evaluation.{leaving_on, freed}
use Rattle.book.specs.declared.Chain.{Chain}
use Rattle.book.specs.declared.Chain.TheVariants.{ByStop}
use Rattle.book.specs.declared.StopEntry.{StopEntry}
use Rattle.book.specs.Chains.{Member}
use Rattle.book.specs.Lists.{sort_by, All}
use Rattle.std.specs.Prelude.{None, Option, Some}

------------------------------------------------------------------------
-- Nothing gathered

gather_empty : (choice : Slot → Option StopEntry) (i : ℕ) (ss : List Slot) → gather choice i ss ≡ []
    → All (λ s. choice s ≡ None) ss
unfolding gather with_index
gather_empty choice i [] e = tt
gather_empty choice i (s ∷ ss) e = go (choice s) refl e (gather_empty choice (suc i) ss)
  where
    go : (o : Option StopEntry) → choice s ≡ o → with_index i o (gather choice (suc i) ss) ≡ []
        → (gather choice (suc i) ss ≡ [] → All (λ s. choice s ≡ None) ss) → All (λ s. choice s ≡ None) (s ∷ ss)
    go None q z later = (q, later z)
    go (Some t) q z later = absurd (cons-ne-nil _ _ z)

sort_empty : (c : Chain) (l : List Pending) → sort c l ≡ [] → l ≡ []
sort_empty c [] e = refl
sort_empty c (p ∷ l) e = absurd (omega (arith, sort_by_length (earlier_in c) (p ∷ l), ap length e))

------------------------------------------------------------------------
-- One record

module _ (side : Side) (price : Price) where
  -- a stop of the side that is elected leaves
  elect_held : (t : StopEntry) → side ≡ side_of t → elected_at t.terms price ≡ true
      → elect side price (held t) ≡ Some t
  unfolding elect leaving_on of_side
  elect_held t q e = rw (e, q) (go (side_of t))
    where
      go : (d : Side) → of_side d d t ≡ Some t
      go Sell = refl
      go Buy = refl

  pub stays_elected : (t : StopEntry) → side ≡ side_of t → elected_at t.terms price ≡ true
      → stays side price (held t) ≡ vacant
  unfolding stays vacated_by
  stays_elected t q e = rw (elect_held t q e)

  pub stays_vacant : stays side price vacant ≡ vacant
  unfolding stays elect vacated_by
  stays_vacant = refl

  -- what stays is not elected
  stays-unelected : (s : Slot) → elect side price (stays side price s) ≡ None
  unfolding stays vacated_by elect
  stays-unelected s = go (elect side price s) refl
    where
      go : (o : Option StopEntry) → elect side price s ≡ o → elect side price (vacated_by o s) ≡ None
      go None e = e
      go (Some t) e = refl

  stays_fits : (s : Slot) → SlotFits s → SlotFits (stays side price s)
  unfolding stays vacated_by
  stays_fits s h = go (elect side price s)
    where
      go : (o : Option StopEntry) → SlotFits (vacated_by o s)
      go None = h
      go (Some t) = tt

  ------------------------------------------------------------------------
  -- A book

  -- the numbers of what is left are words
  pub taken_fits : (b : Book) → Fits b → Fits (taken_on side price b)
  unfolding taken_on
  taken_fits b f = record {
    next = f.next;
    tick = f.tick;
    slots = all_mapped SlotFits SlotFits (stays side price) stays_fits b.slots f.slots;
  }

  module _ (b : Book) (e : elected_in side price b ≡ []) where
    none-elect : All (λ s. elect side price s ≡ None) b.slots
    unfolding elected_in
    none-elect = gather_empty (elect side price) 1 b.slots (sort_empty (ByStop side) _ e)

    -- nothing is taken
    pub taken_none : taken_on side price b ≡ b
    unfolding taken_on stays vacated_by freed
    taken_none = rw (
      e,
      map_agree (stays side price) (λ s. s) b.slots
          (all_map (λ s h. rw h refl) b.slots none-elect),
      map-id b.slots,
    )

    -- no stop of the side is elected
    pub none_member : (j : ℕ) (m : Member side b.slots j) → elected_at m.entry.terms price ≡ false
    unfolding elect
    none_member j m =
        let None : elect side price (held m.entry) ≡ None =
        rw m.there at (all_get_d (λ s. elect side price s ≡ None) b.slots (j - 1) vacant refl none-elect) in
        cases (elected_at m.entry.terms price)
        (λ t. let Some = elect_held m.entry m.is_of_side t in let z : ◌≡◌ {A = ℕ} 0 1 = cc in absurd (omega arith))
        (λ t. t)

  -- and nothing a second time
  pub taken_again : (b : Book) → taken_on side price (taken_on side price b) ≡ taken_on side price b
  unfolding taken_on elected_in sort_by
  taken_again b =
      let None : All (λ s. elect side price s ≡ None) (map (stays side price) b.slots) =
      all_mapped (λ s. Unit {0}) _ (stays side price) (λ s h. stays-unelected s) b.slots
      (all_of (λ s. tt) b.slots) in
      taken_none (taken_on side price b) (rw (gather_none (elect side price) 1 (map (stays side price) b.slots) None))
