-- Each stop of a book goes its way alone: what points at several prices leave or list of it is what the prices make of
-- its terms by themselves.
use Prim.Native.Nat.{ℕ, ◌-◌, ◌≤◌}
use mathlib.Core.Path.{◌≡◌, refl, sym, ap, ◌∙◌}
use mathlib.Core.Bool.{Bool}
use mathlib.Core.List.{List, [], ◌∷◌, map}
use lib.ListN.{get_or, get_or-map}
use Rattle.pricelevel.specs.declared.Id.{Id}
use Rattle.pricelevel.specs.declared.Price.{Price}
use Rattle.pricelevel.specs.declared.Side.{Side}
use Rattle.stop_terms.specs.Terms.{trailed_at}
use Rattle.book.proofs.Lists.{all_map, all_append, all_mapped}
use Rattle.book.proofs.Lookup.{Gathered}
use Rattle.book.proofs.PointElected.{Gone, elected_by_gone}
use Rattle.book.proofs.PointRecord.{settled-stays, LeavesAs, leaver-leaves}
use Rattle.book.proofs.Walks.{PointsAt, done, next}
use Rattle.book.specs.Book.{Slot, vacant, held, Book, Pending}
use Rattle.book.specs.Evaluation.{trailed, leaves, settled, leaver, elected_by, Fill, fill_at, Evaluated, point, and_then}
use Rattle.book.specs.Lists.{All}
use Rattle.book.specs.declared.StopEntry.{StopEntry}
use Rattle.drawn_stops.specs.Drawn.{Followed, pending, elected, followed}

------------------------------------------------------------------------
-- A record along the prices

-- it holds a stop of this identity, of which the prices make this
pub record Course (kill : Bool) (prices : List Price) (s : Slot) (id : Id) (f : Followed) : Type 0 where
  pub before : StopEntry
  pub was : s ≡ held before
  pub is_same_id : id ≡ before.id
  pub made : followed trailed_at kill before.terms prices ≡ f

pub course_none : (kill : Bool) (t : StopEntry) → Course kill [] (held t) t.id (pending t.terms)
unfolding followed
course_none kill t = record { before = t; was = refl; is_same_id = refl; made = refl }

module _ (kill : Bool) (p : Price) (ps : List Price) (s : Slot) where
  -- a stop that the first price leaves in the record
  course_next : (id : Id) (f : Followed) → Course kill ps (settled kill p s) id f → Course kill (p ∷ ps) s id f
  unfolding followed trailed leaves
  course_next id f c =
      let g = settled-stays kill p s c.before c.was in
      record {
        before = g.before;
        was = g.was;
        is_same_id = c.is_same_id ∙ ap (λ (x : StopEntry). x.id) g.after;
        made = rw g.waits (rw g.after at c.made);
      }

  -- one that it takes out
  course_first : (u : StopEntry) → LeavesAs kill p s u → Course kill (p ∷ ps) s u.id (elected u.terms p)
  unfolding followed trailed leaves
  course_first u o = record {
    before = o.before;
    was = o.was;
    is_same_id = ap (λ (x : StopEntry). x.id) o.after;
    made = rw o.leaving (ap (λ (x : StopEntry). elected x.terms p) (sym o.after));
  }

------------------------------------------------------------------------
-- One of the records

pub record Traced (kill : Bool) (prices : List Price) (ss : List Slot) (id : Id) (f : Followed) : Type 0 where
  pub index : ℕ
  pub from : 1 ≤ index
  pub course : Course kill prices (get_or ss (index - 1) vacant) id f

-- a fill is of a stop that the prices elect so
abbrev pub Filled : Bool → List Price → List Slot → Fill → Type 0
Filled kill prices ss f = Traced kill prices ss f.stop.id (elected f.stop.terms f.trigger)

module _ (kill : Bool) (p : Price) (ps : List Price) (ss : List Slot) where
  filled_first : (d : Side) (q : Pending) → Gathered (leaver kill p d) 1 ss q → Filled kill (p ∷ ps) ss (fill_at p q)
  unfolding fill_at
  filled_first d q g = record {
    index = q.index;
    from = g.from;
    course = course_first kill p ps (get_or ss (q.index - 1) vacant) q.entry
        (leaver-leaves kill p d (get_or ss (q.index - 1) vacant) q.entry g.chosen);
  }

  filled_next : (f : Fill) → Filled kill ps (map (settled kill p) ss) f → Filled kill (p ∷ ps) ss f
  unfolding settled
  filled_next f h = record {
    index = h.index;
    from = h.from;
    course = course_next kill p ps (get_or ss (h.index - 1) vacant) f.stop.id
        (elected f.stop.terms f.trigger)
        (rw (get_or-map (settled kill p) ss (h.index - 1) vacant) at h.course);
  }

------------------------------------------------------------------------
-- A book

point_filled : (kill : Bool) (p : Price) (b : Book) (first : Bool) (ps : List Price)
    → All (Filled kill (p ∷ ps) b.slots) (point kill first p b).fills
unfolding point
point_filled kill p b first ps =
    all_mapped (Gone kill p b) (Filled kill (p ∷ ps) b.slots) (fill_at p)
    (λ q g. filled_first kill p ps b.slots g.side q g.gathered) (elected_by kill first p b)
    (elected_by_gone kill p b first)

-- every stop that points at the prices leave in a record
pub points_left : {kill : Bool} {ps : List Price} {b : Book} {o : Evaluated} → PointsAt kill ps b o → (i : ℕ)
    (t : StopEntry)
    → get_or o.book.slots i vacant ≡ held t
    → Course kill ps (get_or b.slots i vacant) t.id (pending t.terms)
unfolding and_then point settled
points_left {kill} done i t e = rw e (course_none kill t)
points_left {kill} {b = b} (next {ps} first p r) i t e =
    course_next kill p ps (get_or b.slots i vacant) t.id (pending t.terms)
    (rw (get_or-map (settled kill p) b.slots i vacant) at (points_left r i t e))

-- every stop that they list
pub points_filled : {kill : Bool} {ps : List Price} {b : Book} {o : Evaluated} → PointsAt kill ps b o
    → All (Filled kill ps b.slots) o.fills
unfolding and_then point
points_filled done = tt
points_filled {kill} {b = b} (next {ps} {rest = rest} first p r) =
    all_append (Filled kill (p ∷ ps) b.slots) (point kill first p b).fills rest.fills
    (point_filled kill p b first ps)
    (all_map (filled_next kill p ps b.slots) rest.fills (points_filled r))
