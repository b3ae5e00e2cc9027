-- A point is its steps: the sells trail, then the buys; then, unless the kill switch is on, the elected of the first
-- side leave, and then those of the second.
use Prim.Native.Nat.{ℕ, suc}
use mathlib.Core.Path.{◌≡◌, refl, sym, ap, ◌∙◌}
use mathlib.Core.Bool.{Bool, true, false, not, cond}
use mathlib.Core.List.{List, [], ◌∷◌, ◌++◌, map, map-map}
use lib.Dec.{eqb}
use borrow.Table.Steps.{cases}
use Rattle.pricelevel.specs.declared.Price.{Price}
use Rattle.pricelevel.specs.declared.Side.{Side}
use Rattle.pricelevel.specs.declared.Side.TheVariants.{Buy, Sell}
use Rattle.stop_terms.specs.Terms.{elected_at}
use Rattle.book.proofs.Lists.{all_of, map_agree}
use Rattle.book.proofs.Points.{gather_none, freed_append}
use Rattle.book.specs.Steps.{is_side, trailed_slot, trailed_on, elect, elected_in, vacated_by, stays, taken_on, other, first_side, trailed_both, elected_both, taken_both}
use Rattle.book.proofs.Stops.{trailed_keeps}
use Rattle.book.specs.Book.{Slot, vacant, held, Book, gather, side_of, stop_of, of_side}
use Rattle.book.specs.Evaluation.{trailed, leaves, vacated_if, settled, leaving_on, leaver, elected_on, elected_by, freed, changed_on, mover, moved_on, moved_by, fill_at, point}
use Rattle.book.specs.declared.StopEntry.{StopEntry}
use Rattle.book.specs.Lists.{sort_by}
use Rattle.std.specs.Prelude.{None, Option, Some}

------------------------------------------------------------------------
-- What is taken from changed records

pub gather_same : (f g : Slot → Option StopEntry) (change : Slot → Slot) → ((s : Slot) → g (change s) ≡ f s)
    → (i : ℕ) (ss : List Slot) → gather g i (map change ss) ≡ gather f i ss
unfolding gather
gather_same f g change h i [] = refl
gather_same f g change h i (s ∷ ss) = rw (h s, gather_same f g change h (suc i) ss)

pub map_same : {A B : Type 0} (f g : A → B) → ((x : A) → f x ≡ g x) → (l : List A) → map f l ≡ map g l
map_same f g h l = map_agree f g l (all_of h l)

------------------------------------------------------------------------
-- The two sides

is_side-other : (d s : Side) → is_side (other d) s ≡ not (is_side d s)
unfolding is_side other
is_side-other Sell Sell = refl
is_side-other Sell Buy = refl
is_side-other Buy Sell = refl
is_side-other Buy Buy = refl

is_side_away : (d s : Side) → is_side d s ≡ true → is_side (other d) s ≡ false
is_side_away d s e = rw (is_side-other d s, e)

of_side-is_side : (d s : Side) (t : StopEntry) → of_side d s t ≡ cond (is_side d s) (Some t) None
unfolding is_side of_side
of_side-is_side Sell Sell t = refl
of_side-is_side Sell Buy t = refl
of_side-is_side Buy Sell t = refl
of_side-is_side Buy Buy t = refl

------------------------------------------------------------------------
-- One record through the steps

-- trailed, whatever its side
unfoldable pub trailed_whole : Price → Slot → Slot
trailed_whole price vacant = vacant
trailed_whole price (held t) = held (trailed price t)

-- a step does nothing to a stop of the other side
module _ (d : Side) (price : Price) (t : StopEntry) (e : is_side d (side_of t) ≡ false) where
  mover_away : mover price d (held t) ≡ None
  unfolding mover changed_on
  mover_away = cases (eqb (stop_of (trailed price t)) (stop_of t)) (λ f. rw f)
      (λ f. rw (f, of_side-is_side d (side_of t) t, e))

  elect_away : elect d price (held t) ≡ None
  unfolding elect leaving_on
  elect_away = cases (elected_at t.terms price) (λ f. rw (f, of_side-is_side d (side_of t) t, e)) (λ f. rw f)

  elect_left_away : (left : Bool) → elect d price (vacated_if left t) ≡ None
  unfolding elect vacated_if
  elect_left_away true = refl
  elect_left_away false = elect_away

  stays_away : stays d price (held t) ≡ held t
  unfolding stays vacated_by
  stays_away = rw elect_away

stays_here : (d : Side) (price : Price) (t : StopEntry) → is_side d (side_of t) ≡ true
    → stays d price (held t) ≡ vacated_if (elected_at t.terms price) t
unfolding stays vacated_by elect leaving_on vacated_if
stays_here d price t e = cases (elected_at t.terms price) (λ f. rw (f, of_side-is_side d (side_of t) t, e)) (λ f. rw f)

module _ (d : Side) (price : Price) where
  -- one side trails, then the other
  trailed_slot_sides : (s : Slot) → trailed_slot (other d) price (trailed_slot d price s) ≡ trailed_whole price s
  unfolding trailed_slot trailed_whole
  trailed_slot_sides vacant = refl
  trailed_slot_sides (held t) = cases (is_side d (side_of t))
      (λ e. rw (e, is_side-other d (side_of (trailed price t)), (trailed_keeps price t).0, e))
      (λ e. rw (e, is_side-other d (side_of t), e))

  -- that one side trails is nothing to the moves of the other
  mover-other : (s : Slot) → mover price (other d) (trailed_slot d price s) ≡ mover price (other d) s
  unfolding trailed_slot mover
  mover-other vacant = refl
  mover-other (held t) = cases (is_side d (side_of t))
      (λ e. rw e (mover_away (other d) price (trailed price t) (is_side_away d _ (rw (trailed_keeps price t).0 e))
      ∙ sym (mover_away (other d) price t (is_side_away d (side_of t) e))))
      (λ e. rw e)

  -- that the elected of one side leave is nothing to those of the other
  elect-other : (s : Slot) → elect (other d) price (stays d price s) ≡ elect (other d) price s
  unfolding elect stays vacated_by
  elect-other vacant = refl
  elect-other (held t) = cases (is_side d (side_of t))
      (λ e. let away = is_side_away d (side_of t) e in
      rw (stays_here d price t e)
      (elect_left_away (other d) price t away (elected_at t.terms price)
      ∙ sym (elect_away (other d) price t away)))
      (λ e. rw (stays_away d price t e))

  -- the elected of one side leave, then those of the other
  stays_sides : (s : Slot) → stays (other d) price (stays d price (trailed_whole price s)) ≡ settled false price s
  unfolding stays elect vacated_by settled leaves trailed_whole
  stays_sides vacant = refl
  stays_sides (held t) =
      let u : StopEntry = trailed price t in
      cases (is_side d (side_of u))
      (λ e. rw (stays_here d price u e)
      (rw (elect_left_away (other d) price u (is_side_away d (side_of u) e) (elected_at u.terms price))))
      (λ e. rw (stays_away d price u e) (stays_here (other d) price u (rw (is_side-other d (side_of u), e))))

  -- what leaves after trailing
  elect-trailed : (s : Slot) → elect d price (trailed_whole price s) ≡ leaver false price d s
  unfolding elect trailed_whole leaver leaves
  elect-trailed vacant = refl
  elect-trailed (held t) = refl

-- the kill switch lets none leave
killed-settled : (price : Price) (s : Slot) → trailed_whole price s ≡ settled true price s
unfolding trailed_whole settled leaves vacated_if
killed-settled price vacant = refl
killed-settled price (held t) = refl

killed-leaver : (price : Price) (d : Side) (s : Slot) → leaver true price d s ≡ None
unfolding leaver leaves leaving_on
killed-leaver price d vacant = refl
killed-leaver price d (held t) = refl

------------------------------------------------------------------------
-- The books that the steps leave

module _ (price : Price) (b : Book) where
  trailed_both_slots : (trailed_both price b).slots ≡ map (trailed_whole price) b.slots
  unfolding trailed_both trailed_on other
  trailed_both_slots = map-map (trailed_slot Buy price) (trailed_slot Sell price) b.slots
      ∙ map_same _ _ (trailed_slot_sides Sell price) b.slots

  pub elected_in-trailed : (d : Side) → elected_in d price (trailed_both price b) ≡ elected_on false price d b
  unfolding elected_in elected_on
  elected_in-trailed d =
      rw (
        trailed_both_slots,
        gather_same (leaver false price d) (elect d price) (trailed_whole price)
            (elect-trailed d price) 1 b.slots,
      )

  pub elected_in-other : (d : Side) → elected_in (other d) price (taken_on d price b) ≡ elected_in (other d) price b
  unfolding elected_in taken_on
  elected_in-other d = rw (gather_same _ _ (stays d price) (elect-other d price) 1 b.slots)

  pub moved_on-other : (d : Side) → moved_on price (other d) (trailed_on d price b) ≡ moved_on price (other d) b
  unfolding moved_on trailed_on
  moved_on-other d = rw (gather_same _ _ (trailed_slot d price) (mover-other d price) 1 b.slots)

------------------------------------------------------------------------
-- A point

module _ (price : Price) (b : Book) where
  elected_by-steps : (first : Bool)
      → elected_by false first price b ≡ elected_both (first_side first) price (trailed_both price b)
  unfolding elected_by elected_both first_side other
  elected_by-steps true =
      rw (
        elected_in-other price (trailed_both price b) Sell,
        elected_in-trailed price b Sell,
        elected_in-trailed price b Buy,
      )
  elected_by-steps false =
      rw (
        elected_in-other price (trailed_both price b) Buy,
        elected_in-trailed price b Buy,
        elected_in-trailed price b Sell,
      )

  elected_on_killed : (d : Side) → elected_on true price d b ≡ []
  unfolding elected_on sort_by
  elected_on_killed d = rw (gather_none (leaver true price d) 1 b.slots (all_of (killed-leaver price d) b.slots))

  elected_by_killed : (first : Bool) → elected_by true first price b ≡ []
  unfolding elected_by
  elected_by_killed true = rw (elected_on_killed Sell, elected_on_killed Buy)
  elected_by_killed false = rw (elected_on_killed Sell, elected_on_killed Buy)

  taken_slots : (d : Side) → (taken_both d price (trailed_both price b)).slots ≡ map (settled false price) b.slots
  unfolding taken_both taken_on
  taken_slots d =
      rw (trailed_both_slots price b, map-map (stays d price) (trailed_whole price) b.slots)
      (map-map (stays (other d) price) (λ s. stays d price (trailed_whole price s)) b.slots
      ∙ map_same _ _ (stays_sides d price) b.slots)

  taken_free : (d : Side)
      → (taken_both d price (trailed_both price b)).free ≡ freed (elected_both d price (trailed_both price b)) b.free
  unfolding taken_both taken_on elected_both trailed_both trailed_on
  taken_free d = sym (freed_append _ _ _)

  pub point_moved : (kill first : Bool)
      → (point kill first price b).moved ≡ moved_on price Sell b ++ moved_on price Buy (trailed_on Sell price b)
  unfolding point moved_by other
  point_moved kill first = rw (moved_on-other price b Sell)

  pub point_fills : (first : Bool)
      → (point false first price b).fills ≡ map (fill_at price)
      (elected_both (first_side first) price (trailed_both price b))
  unfolding point
  point_fills first = rw (elected_by-steps first)

  pub point_book : (first : Bool)
      → (point false first price b).book ≡ taken_both (first_side first) price (trailed_both price b)
  unfolding point taken_both taken_on trailed_both trailed_on
  point_book first = λ i. record {
    next = b.next;
    tick = b.tick;
    slots = sym (taken_slots (first_side first)) i;
    free = (ap (λ l. freed l b.free) (elected_by-steps first) ∙ sym (taken_free (first_side first))) i;
  }

  -- under the kill switch
  pub point_book_killed : (first : Bool) → (point true first price b).book ≡ trailed_both price b
  unfolding point freed trailed_both trailed_on
  point_book_killed first = λ i. record {
    next = b.next;
    tick = b.tick;
    slots = sym (trailed_both_slots price b ∙ map_same _ _ (killed-settled price) b.slots) i;
    free = ap (λ l. freed l b.free) (elected_by_killed first) i;
  }

  pub point_fills_killed : (first : Bool) → (point true first price b).fills ≡ []
  unfolding point
  point_fills_killed first = rw (elected_by_killed first)
