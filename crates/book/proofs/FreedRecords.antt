-- The free chain after a point holds exactly the records that are then vacant: in whatever order records are freed,
-- their indices in rising order are the same.
use Prim.Native.Nat.{ℕ, suc, ◌+◌, ◌<◌}
use mathlib.Core.Path.{◌≡◌, refl, sym, ap, ◌∙◌}
use mathlib.Core.Bool.{Bool, true, false}
use mathlib.Core.List.{List, [], ◌∷◌, ◌++◌, map}
use native.Mathlib.Omega.{arith}
use borrow.Author.Tests.{ltb-true, ltb-false, lt-ltb, le-ltb}
use borrow.Table.Steps.{cases}
use lib.Dec.{ltb}
use lib.ListN.{length}
use Rattle.pricelevel.specs.declared.Price.{Price}
use Rattle.pricelevel.specs.declared.Side.{Side}
use Rattle.pricelevel.specs.declared.Side.TheVariants.{Buy, Sell}
use Rattle.book.proofs.Sort.{insert, insert_rising, insert_by_length}
use Rattle.book.proofs.VacantIndices.{vacant_indices_first}
use Rattle.book.specs.Book.{Slot, vacant, held, Book, Chain, Pending, side_of, before, sort, with_index, gather, of_side}
use Rattle.book.specs.Evaluation.{trailed, leaves, vacated_if, settled, leaving_on, leaver, elected_on, elected_by, freed}
use Rattle.book.specs.Words.{vacant_indices, sort_rising}
use Rattle.book.specs.declared.StopEntry.{StopEntry}
use Rattle.book.specs.Lists.{sort_by, insert_by}

------------------------------------------------------------------------
-- Indices put in rising order

insert_rising_swap : (i j : ℕ) (l : List ℕ) → i < j
    → insert_rising i (insert_rising j l) ≡ insert_rising j (insert_rising i l)
unfolding insert_by
insert_rising_swap i j [] h = rw (lt-ltb i j h, le-ltb j i (omega arith))
insert_rising_swap i j (k ∷ l) h = cases (ltb j k)
    (λ e. rw (e, lt-ltb i k (omega (arith, ltb-true j k e)), lt-ltb i j h, le-ltb j i (omega arith), e))
    (λ e. cases (ltb i k) (λ f. rw (e, f, le-ltb j i (omega arith), e)) (λ f. rw (e, f, e, insert_rising_swap i j l h)))

pub insert_rising_comm : (i j : ℕ) (l : List ℕ) → insert_rising i (insert_rising j l) ≡ insert_rising j (insert_rising i l)
insert_rising_comm i j l = cases (ltb i j) (λ e. insert_rising_swap i j l (ltb-true i j e))
    (λ e. cases (ltb j i) (λ f. sym (insert_rising_swap j i l (ltb-true j i f)))
    (λ f. let same : i ≡ j = omega (arith, ltb-false i j e, ltb-false j i f) in rw same))

-- the indices of stops put into a list one after the other
unfoldable pub insert_indices : List Pending → List ℕ → List ℕ
insert_indices [] l = l
insert_indices (p ∷ ps) l = insert_rising p.index (insert_indices ps l)

pub insert_indices_insert_rising : (i : ℕ) (ps : List Pending) (l : List ℕ)
    → insert_indices ps (insert_rising i l) ≡ insert_rising i (insert_indices ps l)
unfolding insert_indices
insert_indices_insert_rising i [] l = refl
insert_indices_insert_rising i (p ∷ ps) l =
    rw (insert_indices_insert_rising i ps l) (insert_rising_comm p.index i (insert_indices ps l))

pub insert_indices_length : (ps : List Pending) (l : List ℕ) → length (insert_indices ps l) ≡ length ps + length l
unfolding insert_indices
insert_indices_length [] l = omega arith
insert_indices_length (p ∷ ps) l =
    omega (arith, insert_by_length ltb p.index (insert_indices ps l), insert_indices_length ps l)

pub insert_indices_comm : (ps qs : List Pending) (l : List ℕ)
    → insert_indices ps (insert_indices qs l) ≡ insert_indices qs (insert_indices ps l)
unfolding insert_indices
insert_indices_comm [] qs l = refl
insert_indices_comm (p ∷ ps) qs l =
    rw (insert_indices_comm ps qs l) (sym (insert_indices_insert_rising p.index qs (insert_indices ps l)))

pub insert_indices_append : (ps qs : List Pending) (l : List ℕ)
    → insert_indices (ps ++ qs) l ≡ insert_indices ps (insert_indices qs l)
unfolding insert_indices
insert_indices_append [] qs l = refl
insert_indices_append (p ∷ ps) qs l = rw (insert_indices_append ps qs l)

-- the order of a chain does not matter
pub insert_indices_insert : (c : Chain) (p : Pending) (ps : List Pending) (l : List ℕ)
    → insert_indices (insert c p ps) l ≡ insert_indices (p ∷ ps) l
unfolding insert_indices insert_by
insert_indices_insert c p [] l = refl
insert_indices_insert c p (q ∷ ps) l = cases (before c p.entry q.entry) (λ e. rw e)
    (λ e. rw (e, insert_indices_insert c p ps l) (insert_rising_comm q.index p.index (insert_indices ps l)))

pub insert_indices-sort : (c : Chain) (ps : List Pending) (l : List ℕ) → insert_indices (sort c ps) l ≡ insert_indices ps l
unfolding sort_by insert_indices
insert_indices-sort c [] l = refl
insert_indices-sort c (p ∷ ps) l =
    insert_indices_insert c p (sort c ps) l ∙ ap (insert_rising p.index) (insert_indices-sort c ps l)

pub sort_rising-freed : (ps : List Pending) (free : List ℕ)
    → sort_rising (freed ps free) ≡ insert_indices ps (sort_rising free)
unfolding freed sort_by insert_indices
sort_rising-freed [] free = refl
sort_rising-freed (p ∷ ps) free =
    sort_rising-freed ps (p.index ∷ free) ∙ insert_indices_insert_rising p.index ps (sort_rising free)

------------------------------------------------------------------------
-- The vacant records

-- a stop is of one side
pub insert_indices-of_side : (i : ℕ) (side : Side) (t : StopEntry) (ps qs : List Pending) (l : List ℕ)
    → insert_indices (with_index i (of_side Sell side t) ps)
    (insert_indices (with_index i (of_side Buy side t) qs) l) ≡ insert_rising i (insert_indices ps (insert_indices qs l))
unfolding of_side with_index insert_indices
insert_indices-of_side i Sell t ps qs l = refl
insert_indices-of_side i Buy t ps qs l = insert_indices_insert_rising i ps (insert_indices qs l)

pub vacant_indices-settled : (kill : Bool) (price : Price) (i : ℕ) (ss : List Slot)
    → insert_indices (gather (leaver kill price Sell) i ss)
    (insert_indices (gather (leaver kill price Buy) i ss) (vacant_indices i ss))
    ≡ vacant_indices i (map (settled kill price) ss)
unfolding gather leaver leaving_on with_index vacant_indices settled vacated_if insert_indices
vacant_indices-settled kill price i [] = refl
vacant_indices-settled kill price i (vacant ∷ ss) =
    let ps = gather (leaver kill price Sell) (suc i) ss in
    let qs = gather (leaver kill price Buy) (suc i) ss in
    rw (
      ← vacant_indices_first i ss,
      insert_indices_insert_rising i qs (vacant_indices (suc i) ss),
      insert_indices_insert_rising i ps (insert_indices qs (vacant_indices (suc i) ss)),
      vacant_indices-settled kill price (suc i) ss,
    ) (vacant_indices_first i (map (settled kill price) ss))
vacant_indices-settled kill price i (held t ∷ ss) =
    let ih = vacant_indices-settled kill price (suc i) ss in
    let u : StopEntry = trailed price t in
    let ps = gather (leaver kill price Sell) (suc i) ss in
    let qs = gather (leaver kill price Buy) (suc i) ss in
    cases (leaves kill price u)
    (λ e. rw (e, insert_indices-of_side i (side_of u) u ps qs (vacant_indices (suc i) ss), ih)
    (vacant_indices_first i (map (settled kill price) ss)))
    (λ e. rw e ih)

pub elected_by-indices : (kill sells_first : Bool) (price : Price) (b : Book) (l : List ℕ)
    → insert_indices (elected_by kill sells_first price b) l
    ≡ insert_indices (gather (leaver kill price Sell) 1 b.slots)
    (insert_indices (gather (leaver kill price Buy) 1 b.slots) l)
unfolding elected_by elected_on
elected_by-indices kill true price b l = simp (insert_indices_append, insert_indices-sort)
elected_by-indices kill false price b l =
    simp (insert_indices_append, insert_indices-sort)
    (insert_indices_comm (gather (leaver kill price Buy) 1 b.slots) _ l)

pub point_free_vacant : (kill sells_first : Bool) (price : Price) (b : Book)
    → sort_rising b.free ≡ vacant_indices 1 b.slots
    → sort_rising (freed (elected_by kill sells_first price b) b.free) ≡ vacant_indices 1
    (map (settled kill price) b.slots)
point_free_vacant kill sells_first price b e =
    rw (
      sort_rising-freed (elected_by kill sells_first price b) b.free,
      elected_by-indices kill sells_first price b (sort_rising b.free),
      e,
    )
    (vacant_indices-settled kill price 1 b.slots)
