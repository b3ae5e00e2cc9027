-- Two points are one: from a book settled at o, a point at p and then one at q, along o, p, q in one direction, leave
-- what the point at q leaves and take out what it takes out, whichever side goes first. First for a record, then for
-- the book.
use Prim.Native.Nat.{ℕ, suc}
use mathlib.Core.Path.{◌≡◌, refl, ◌∙◌}
use mathlib.Core.Bool.{Bool, true, false}
use mathlib.Core.List.{List, [], ◌∷◌, ◌++◌, map, append-nil, map-map, map-id}
use mathlib.Core.Logic.{◌⊎◌, inl, inr}
use borrow.Table.Steps.{cases}
use Rattle.pricelevel.specs.declared.Price.{Price}
use Rattle.pricelevel.specs.declared.Side.{Side}
use Rattle.pricelevel.specs.declared.Side.TheVariants.{Buy, Sell}
use Rattle.stop_terms.specs.Terms.{behind}
use Rattle.stop_terms.proofs.Terms.{behind_irrefl, past_trans}
use Rattle.book.proofs.Lists.{all_map, all_mapped, map_agree}
use Rattle.book.proofs.SortedParts.{Part, never, parted, Met, Unmet, stops-apart, part_early, part_late}
use Rattle.book.proofs.Stops.{Trails, trailed_still, trailed_keeps, trailed_again, leaves_not-behind, waits-behind, leaves_further, Settled, trailed-settled, trailed-stays}
use Rattle.book.specs.Book.{Slot, vacant, held, Book, ByStop, side_of, watermark_of, Pending, with_index, gather, of_side}
use Rattle.book.specs.Evaluation.{trailed, leaves, vacated_if, settled, leaving_on, leaver, elected_on, elected_by, freed, point}
use Rattle.book.specs.declared.StopEntry.{StopEntry}
use Rattle.book.specs.Lists.{sort_by, All}
use Rattle.std.specs.Prelude.{None, Option}

------------------------------------------------------------------------
-- A record at two prices

abbrev pub SlotSettled : Bool → Price → Slot → Type 0
SlotSettled kill p vacant = Unit {0}
SlotSettled kill p (held t) = Settled kill p t

slot_trails : (kill : Bool) (p : Price) (s : Slot) → SlotSettled kill p s → Trails s
slot_trails kill p vacant w = tt
slot_trails kill p (held t) w = w.trails

slot-settled : (kill : Bool) (p : Price) (s : Slot) → Trails s → SlotSettled kill p (settled kill p s)
unfolding settled vacated_if
slot-settled kill p vacant h = tt
slot-settled kill p (held t) h =
    cases (leaves kill p (trailed p t)) (λ e. rw e tt) (λ e. rw e (trailed-settled kill p t h e))

slot_still : (kill : Bool) (p : Price) (s : Slot) → SlotSettled kill p s → settled kill p s ≡ s
unfolding settled vacated_if
slot_still kill p vacant w = refl
slot_still kill p (held t) w = rw (trailed_still p t w.reached, w.stays)

-- what a record is after both points, and what it gives up at each
record Merged (kill : Bool) (p q : Price) (s : Slot) : Type 0 where
  same : settled kill q (settled kill p s) ≡ settled kill q s
  part : (d : Side) → Part (Met d p) (Unmet d p) (leaver kill p d s) (leaver kill q d (settled kill p s))
      (leaver kill q d s)

-- a stop whose side the run takes along trails, and stays
merged_along : (kill : Bool) (o p q : Price) (t : StopEntry) → Settled kill o t
    → behind (side_of t) p.0 o.0 ≡ false → behind (side_of t) q.0 p.0 ≡ false → Merged kill p q (held t)
unfolding settled vacated_if leaver leaving_on
merged_along kill o p q t w h k =
    let at_p = trailed-stays kill o p t h w in
    let at-q = trailed-stays kill o q t (past_trans (side_of t) o.0 p.0 q.0 h k) w in
    let again = trailed_again p q t k in
    record { same = rw (at_p, again); part = λ d. rw (at_p, again, at-q) never }

-- a stop that the run comes towards does not trail, and leaves at q if it leaves at p
merged_against : (kill : Bool) (o p q : Price) (t : StopEntry) → Settled kill o t
    → behind (side_of t) o.0 p.0 ≡ false → behind (side_of t) p.0 q.0 ≡ false → Merged kill p q (held t)
unfolding settled vacated_if leaver leaving_on
merged_against kill o p q t w h k =
    let reached = past_trans (side_of t) p.0 o.0 (watermark_of t) h w.reached in
    let at_p = trailed_still p t reached in
    let at-q = trailed_still q t (past_trans (side_of t) q.0 p.0 (watermark_of t) k reached) in
    cases (leaves kill p t)
    (λ e.
    let f = leaves_further kill p q t k e in
    record {
      same = rw (at_p, e, at-q, f);
      part = λ d. rw (at_p, e, at-q, f) (part_early d (side_of t) p t (leaves_not-behind kill p t e));
    })
    (λ e. cases (leaves kill q t)
    (λ f. record {
      same = rw (at_p, e);
      part = λ d. rw (at_p, e, at-q, f) (part_late d (side_of t) p t (waits-behind kill p q t e f));
    })
    (λ f. record { same = rw (at_p, e); part = λ d. rw (at_p, e, at-q, f) never }))

-- a run along one side is a run against the other
run_along_or_against : (d s : Side) (o p q : ℕ) → behind d p o ≡ false → behind d q p ≡ false
    → ((behind s p o ≡ false) × (behind s q p ≡ false)) ⊎ ((behind s o p ≡ false) × (behind s p q ≡ false))
unfolding behind
run_along_or_against Sell Sell o p q h k = inl (h, k)
run_along_or_against Sell Buy o p q h k = inr (h, k)
run_along_or_against Buy Sell o p q h k = inr (h, k)
run_along_or_against Buy Buy o p q h k = inl (h, k)

merged : (kill : Bool) (o p q : Price) (d : Side) → behind d p.0 o.0 ≡ false → behind d q.0 p.0 ≡ false
    → (s : Slot) → SlotSettled kill o s → Merged kill p q s
unfolding settled leaver
merged kill o p q d h k vacant w = record { same = refl; part = λ e. never }
merged kill o p q d h k (held t) w = elim (run_along_or_against d (side_of t) o.0 p.0 q.0 h k) [
  | inl g ↦ merged_along kill o p q t w g.0 g.1
  | inr g ↦ merged_against kill o p q t w g.0 g.1
]

-- a settled record gives up no stop of the side that the run takes along
same_side_or_none : (d s : Side) (t : StopEntry) → (s ≡ d) ⊎ (of_side d s t ≡ None)
unfolding of_side
same_side_or_none Sell Sell t = inl refl
same_side_or_none Sell Buy t = inr refl
same_side_or_none Buy Sell t = inr refl
same_side_or_none Buy Buy t = inl refl

leaver_none : (kill : Bool) (o q : Price) (d : Side) → behind d q.0 o.0 ≡ false → (s : Slot)
    → SlotSettled kill o s
    → leaver kill q d s ≡ None
unfolding leaver leaving_on
leaver_none kill o q d h vacant w = refl
leaver_none kill o q d h (held t) w = elim (same_side_or_none d (side_of (trailed q t)) (trailed q t)) [
  | inl e ↦ rw (trailed-stays kill o q t (rw (← e, (trailed_keeps q t).0) at h) w)
  | inr e ↦ cases (leaves kill q (trailed q t)) (λ f. rw (f, e)) (λ f. rw f)
]

------------------------------------------------------------------------
-- Over the records

pub gather_none : (choice : Slot → Option StopEntry) (i : ℕ) (ss : List Slot) → All (λ s. choice s ≡ None) ss
    → gather choice i ss ≡ []
unfolding gather with_index
gather_none choice i [] h = refl
gather_none choice i (s ∷ ss) h = rw (h.0, gather_none choice (suc i) ss h.1)

pub freed_append : (l m : List Pending) (free : List ℕ) → freed (l ++ m) free ≡ freed m (freed l free)
unfolding freed
freed_append [] m free = refl
freed_append (p ∷ l) m free = freed_append l m (p.index ∷ free)

------------------------------------------------------------------------
-- A book

abbrev pub BookSettled : Bool → Price → Book → Type 0
BookSettled kill p b = All (SlotSettled kill p) b.slots

pub settled_trails : (kill : Bool) (p : Price) (b : Book) → BookSettled kill p b → All Trails b.slots
settled_trails kill p b w = all_map (slot_trails kill p) b.slots w

pub point-settled : (kill first : Bool) (p : Price) (b : Book) → All Trails b.slots
    → BookSettled kill p (point kill first p b).book
unfolding point
point-settled kill first p b h =
    all_mapped Trails (SlotSettled kill p) (settled kill p) (slot-settled kill p) b.slots h

elected_on_none : (kill : Bool) (o q : Price) (d : Side) (b : Book) → behind d q.0 o.0 ≡ false
    → BookSettled kill o b
    → elected_on kill q d b ≡ []
unfolding elected_on sort_by
elected_on_none kill o q d b h w =
    rw (gather_none (leaver kill q d) 1 b.slots (all_map (leaver_none kill o q d h) b.slots w))

unfoldable opposite : Side → Side
opposite Sell = Buy
opposite Buy = Sell

-- where one side gives up nothing, it does not matter which goes first
elected_by_one_side : (kill first : Bool) (q : Price) (d : Side) (b : Book) → elected_on kill q d b ≡ []
    → elected_by kill first q b ≡ elected_on kill q (opposite d) b
unfolding elected_by opposite
elected_by_one_side kill true q Sell b e = rw e
elected_by_one_side kill true q Buy b e = rw (e, append-nil)
elected_by_one_side kill false q Sell b e = rw (e, append-nil)
elected_by_one_side kill false q Buy b e = rw e

module _ (kill f g h : Bool) (o p q : Price) (d : Side) (b : Book) (op : behind d p.0 o.0 ≡ false)
    (pq : behind d q.0 p.0 ≡ false) (w : BookSettled kill o b) where
  elected_on_merged : (e : Side)
      → elected_on kill q e b ≡ elected_on kill p e b ++ elected_on kill q e (point kill f p b).book
  unfolding elected_on point
  elected_on_merged e =
      (parted (ByStop e) (Met e p) (Unmet e p) (stops-apart e p) (leaver kill p e) (leaver kill q e) (leaver kill q e)
      (settled kill p) 1 b.slots
      (all_map (λ s v. (merged kill o p q d op pq s v).part e) b.slots w)).joined

  pub elected_by_merged : elected_by kill h q b ≡ elected_by kill f p b ++ elected_by kill g q (point kill f p b).book
  elected_by_merged =
      let after = (point kill f p b).book in
      let v = point-settled kill f p b (settled_trails kill o b w) in
      rw (
        elected_by_one_side kill h q d b (elected_on_none kill o q d b (past_trans d o.0 p.0 q.0 op pq) w),
        elected_by_one_side kill f p d b (elected_on_none kill o p d b op w),
        elected_by_one_side kill g q d after (elected_on_none kill p q d after pq v),
      )
      (elected_on_merged (opposite d))

  slots_merged : map (settled kill q) (map (settled kill p) b.slots) ≡ map (settled kill q) b.slots
  slots_merged =
      map-map (settled kill q) (settled kill p) b.slots
      ∙ map_agree _ _ b.slots (all_map (λ s v. (merged kill o p q d op pq s v).same) b.slots w)

  pub book_merged : (point kill g q (point kill f p b).book).book ≡ (point kill h q b).book
  unfolding point
  book_merged = rw (elected_by_merged, freed_append, slots_merged)

------------------------------------------------------------------------
-- A point at the price at which the book is settled does nothing

module _ (kill first : Bool) (o : Price) (b : Book) (w : BookSettled kill o b) where
  pub elected_by_again : elected_by kill first o b ≡ []
  elected_by_again =
      elected_by_one_side kill first o Sell b (elected_on_none kill o o Sell b (behind_irrefl Sell o.0) w)
      ∙ elected_on_none kill o o (opposite Sell) b (behind_irrefl (opposite Sell) o.0) w

  pub book_again : (point kill first o b).book ≡ b
  unfolding point freed
  book_again = rw (
    elected_by_again,
    map_agree (settled kill o) (λ s. s) b.slots
        (all_map (slot_still kill o) b.slots w),
    map-id b.slots,
  )
