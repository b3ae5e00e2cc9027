-- Evaluations of a book without its holders: they do what they do on the book, and list the same. Document 02, One.
use Prim.Native.Nat.{ℕ, zero, suc}
use mathlib.Core.Path.{◌≡◌, refl, sym, ◌∙◌}
use mathlib.Core.Bool.{Bool, true, false}
use mathlib.Core.List.{List, [], ◌∷◌, map, map-append, map-map}
use lib.Dec.{eqb}
use Rattle.pricelevel.specs.declared.Price.{Price}
use Rattle.pricelevel.specs.declared.Side.{Side}
use Rattle.pricelevel.specs.declared.Side.TheVariants.{Buy, Sell}
use Rattle.book.proofs.Lists.{all_of, map_agree}
use Rattle.book.proofs.Passes.{zero_or_more, passed_after, pass_from_empty, pass_from-step}
use Rattle.book.proofs.Holderless.{holderless, holderless_slot, holderless_pending, holderless_book, Blind, sort_holderless, of_side_holderless, pending_count_holderless, is_pending_holderless}
use Rattle.book.specs.Book.{Slot, vacant, held, Book, ByStop, ByWatermark, side_of, stop_of, Pending, gather, sort, pending_count}
use Rattle.book.specs.Calls.{Settings, elected_entry, elected_entries, Passed, evaluated_in, with_segment, pass_from, pass}
use Rattle.book.specs.Evaluation.{trailed, leaves, vacated_if, settled, leaving_on, leaver, elected_on, elected_by, freed, changed_on, mover, moved_entry, moved_on, moved_by, Fill, fill_at, Evaluated, point, sells_first, falls_to, and_then, walk_from, segment, last_of, walk}
use Rattle.book.specs.declared.PrintSegment.{PrintSegment}
use Rattle.book.specs.declared.StopEntry.{StopEntry}
use Rattle.std.specs.Prelude.{Option, Some, option_map}

-- all but the holders of what left, and of what an evaluation did
abbrev pub holderless_fill : Fill → Fill
holderless_fill f = record { stop = holderless f.stop; trigger = f.trigger }

abbrev pub holderless_evaluated : Evaluated → Evaluated
holderless_evaluated o = record {
  book = holderless_book o.book;
  fills = map holderless_fill o.fills;
  moved = o.moved;
}

------------------------------------------------------------------------
-- A record

vacated_if_holderless : (e : Bool) (t : StopEntry) → vacated_if e (holderless t) ≡ holderless_slot (vacated_if e t)
unfolding vacated_if
vacated_if_holderless true t = refl
vacated_if_holderless false t = refl

leaving_on_holderless : (e : Bool) (d : Side) (t : StopEntry)
    → leaving_on e d (holderless t) ≡ option_map holderless (leaving_on e d t)
unfolding leaving_on
leaving_on_holderless true d t = of_side_holderless d (side_of t) t
leaving_on_holderless false d t = refl

changed_on_holderless : (e : Bool) (d : Side) (t : StopEntry)
    → changed_on e d (holderless t) ≡ option_map holderless (changed_on e d t)
unfolding changed_on
changed_on_holderless true d t = refl
changed_on_holderless false d t = of_side_holderless d (side_of t) t

settled_holderless : (kill : Bool) (p : Price) (s : Slot)
    → settled kill p (holderless_slot s) ≡ holderless_slot (settled kill p s)
unfolding settled trailed leaves
settled_holderless kill p vacant = refl
settled_holderless kill p (held t) = vacated_if_holderless (leaves kill p (trailed p t)) (trailed p t)

leaver_blind : (kill : Bool) (p : Price) (d : Side) → Blind (leaver kill p d)
unfolding leaver trailed leaves
leaver_blind kill p d vacant = refl
leaver_blind kill p d (held t) = leaving_on_holderless (leaves kill p (trailed p t)) d (trailed p t)

mover_blind : (p : Price) (d : Side) → Blind (mover p d)
unfolding mover trailed
mover_blind p d vacant = refl
mover_blind p d (held t) = changed_on_holderless (eqb (stop_of (trailed p t)) (stop_of t)) d t

------------------------------------------------------------------------
-- A point

module _ (kill : Bool) (p : Price) (b : Book) where
  elected_on_holderless : (d : Side)
      → elected_on kill p d (holderless_book b) ≡ map holderless_pending (elected_on kill p d b)
  unfolding elected_on
  elected_on_holderless d = sort_holderless (leaver kill p d) (leaver_blind kill p d) (ByStop d) b.slots

  elected_by_holderless : (first : Bool)
      → elected_by kill first p (holderless_book b) ≡ map holderless_pending (elected_by kill first p b)
  unfolding elected_by
  elected_by_holderless true =
      rw (elected_on_holderless Sell, elected_on_holderless Buy)
      (sym (map-append holderless_pending (elected_on kill p Sell b) (elected_on kill p Buy b)))
  elected_by_holderless false =
      rw (elected_on_holderless Sell, elected_on_holderless Buy)
      (sym (map-append holderless_pending (elected_on kill p Buy b) (elected_on kill p Sell b)))

moved_on_holderless : (p : Price) (d : Side) (b : Book) → moved_on p d (holderless_book b) ≡ moved_on p d b
unfolding moved_on moved_entry trailed
moved_on_holderless p d b =
    rw (sort_holderless (mover p d) (mover_blind p d) (ByWatermark d) b.slots)
    (map-map (moved_entry p) holderless_pending (sort (ByWatermark d) (gather (mover p d) 1 b.slots)))

freed_holderless : (l : List Pending) (free : List ℕ) → freed (map holderless_pending l) free ≡ freed l free
unfolding freed
freed_holderless [] free = refl
freed_holderless (p ∷ l) free = freed_holderless l (p.index ∷ free)

-- what commutes on an element commutes along a list
map_commute : {A : Type 0} (f g : A → A) → ((x : A) → f (g x) ≡ g (f x)) → (l : List A)
    → map f (map g l) ≡ map g (map f l)
map_commute f g h [] = refl
map_commute f g h (x ∷ l) = rw (h x, map_commute f g h l)

pub point_holderless : (kill first : Bool) (p : Price) (b : Book)
    → point kill first p (holderless_book b) ≡ holderless_evaluated (point kill first p b)
unfolding point moved_by fill_at
point_holderless kill first p b =
    let l = elected_by kill first p b in
    rw (
      map_commute (settled kill p) holderless_slot (settled_holderless kill p) b.slots,
      elected_by_holderless kill p b first,
      freed_holderless l b.free,
      moved_on_holderless p Sell b,
      moved_on_holderless p Buy b,
      map-map (fill_at p) holderless_pending l,
      map-map holderless_fill (fill_at p) l,
    )

------------------------------------------------------------------------
-- A walk and a segment

and_then_holderless : (o r : Evaluated)
    → and_then (holderless_evaluated o) (holderless_evaluated r) ≡ holderless_evaluated (and_then o r)
unfolding and_then
and_then_holderless o r = rw (map-append holderless_fill o.fills r.fills)

walk_from_holderless : (kill falls : Bool) (from : Option Price) (ps : List Price) (b : Book)
    → walk_from kill falls from ps (holderless_book b) ≡ holderless_evaluated (walk_from kill falls from ps b)
unfolding walk_from
walk_from_holderless kill falls from [] b = refl
walk_from_holderless kill falls from (p ∷ ps) b =
    let o = point kill (sells_first falls from p) p b in
    rw (point_holderless kill (sells_first falls from p) p b, walk_from_holderless kill falls (Some p) ps o.book)
    (and_then_holderless o (walk_from kill falls (Some p) ps o.book))

pub segment_holderless : (kill : Bool) (s : PrintSegment) (b : Book)
    → segment kill s (holderless_book b) ≡ holderless_evaluated (segment kill s b)
unfolding segment
segment_holderless kill s b = walk_from_holderless kill (falls_to s.first s.last) s.prev _ b

pub walk_holderless : (kill : Bool) (prev : Option Price) (ps : List Price) (b : Book)
    → walk kill prev ps (holderless_book b) ≡ holderless_evaluated (walk kill prev ps b)
unfolding walk
walk_holderless kill prev [] b = walk_from_holderless kill true prev [] b
walk_holderless kill prev (p ∷ ps) b = walk_from_holderless kill (falls_to p (last_of p ps)) prev (p ∷ ps) b

-- an elected entry carries no holder
pub elected_entries_holderless : (s : Settings) (o : Evaluated)
    → elected_entries s (holderless_evaluated o) ≡ elected_entries s o
unfolding elected_entries elected_entry
elected_entries_holderless s o =
    map-map (elected_entry s (holderless_book o.book)) holderless_fill o.fills
    ∙ map_agree _ _ o.fills (all_of (λ f. rw (is_pending_holderless _ o.book)) o.fills)

------------------------------------------------------------------------
-- A pass

abbrev pub holderless_passed : Passed → Passed
holderless_passed o = record { book = holderless_book o.book; entries = o.entries; moves = o.moves; used = o.used }

module _ (s : Settings) where
  with_segment_holderless : (script : List ℕ) (prints : PrintSegment) (b : Book) (rest : Passed)
      → with_segment s script prints (holderless_book b) (holderless_passed rest)
      ≡ holderless_passed (with_segment s script prints b rest)
  with_segment_holderless script prints b rest =
      rw (segment_holderless s.kill prints b, elected_entries_holderless s (evaluated_in s prints b))

  pass_from_holderless : (k : ℕ) (script : List ℕ) (queue : List PrintSegment) (b : Book)
      → pass_from k s script queue (holderless_book b) ≡ holderless_passed (pass_from k s script queue b)
  unfolding pass_from
  pass_from_holderless zero script queue b = refl
  pass_from_holderless (suc k) script [] b = refl
  pass_from_holderless (suc k) script (prints ∷ queue) b =
      let e = holderless_book b in
      let o = evaluated_in s prints b in
      let rest = passed_after k s script prints queue b in
      let later : passed_after k s script prints queue e ≡ holderless_passed rest =
      rw (segment_holderless s.kill prints b, elected_entries_holderless s o) (pass_from_holderless k _ _ o.book) in
      zero_or_more (pending_count b.slots)
      (λ z. rw (
        pass_from_empty s (suc k) script (prints ∷ queue) e (pending_count_holderless b.slots ∙ z),
        pass_from_empty s (suc k) script (prints ∷ queue) b z,
      ))
      (λ n z. rw (
        pass_from-step s k n script prints queue e (pending_count_holderless b.slots ∙ z),
        pass_from-step s k n script prints queue b z,
        later,
      )
      (with_segment_holderless script prints b rest))

  pub pass_holderless : (script : List ℕ) (prints : PrintSegment) (b : Book)
      → pass s script prints (holderless_book b) ≡ holderless_passed (pass s script prints b)
  unfolding pass
  pass_holderless script prints b =
      rw (pending_count_holderless b.slots)
      (pass_from_holderless (suc (pending_count b.slots)) script (prints ∷ []) b)
