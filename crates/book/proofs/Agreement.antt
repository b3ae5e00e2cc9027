-- A run of prices is decided by its turning points: the walk over them leaves the book that the walk over all its prices
-- leaves, and takes out the same stops in the same order. Only the prices that elect them differ.
use mathlib.Core.Path.{◌≡◌, refl, sym, ap, subst, ◌∙◌}
use mathlib.Core.Bool.{Bool, false}
use mathlib.Core.List.{List, [], ◌∷◌, ◌++◌, map, map-append, map-map, append_assoc, append-nil}
use borrow.Table.Steps.{cases}
use Rattle.pricelevel.specs.declared.Price.{Price}
use Rattle.pricelevel.specs.declared.Side.{Side}
use Rattle.stop_terms.specs.Terms.{behind}
use Rattle.book.specs.Lists.{All}
use Rattle.book.proofs.Points.{BookSettled, settled_trails, point-settled, elected_by_merged, book_merged, elected_by_again, book_again}
use Rattle.book.proofs.Stops.{Trails}
use Rattle.book.proofs.TurningPoints.{Straight, straight, turns_from_last}
use Rattle.book.specs.Book.{Book, entries}
use Rattle.book.specs.Evaluation.{fill_at, Evaluated, elected_by, point, sells_first, falls_to, and_then, walk_from, last_of, walk}
use Rattle.book.specs.TurningPoints.{turns_at, turns_from, turning_points}
use Rattle.std.specs.Prelude.{Option, Some}

------------------------------------------------------------------------
-- Evaluations that agree

-- the same stops in the same order, and the same book
pub record Agree (o r : Evaluated) : Type 0 where
  pub books : o.book ≡ r.book
  pub stops : map (λ f. f.stop) o.fills ≡ map (λ f. f.stop) r.fills

pub agree_refl : {o : Evaluated} → Agree o o
agree_refl = record { books = refl; stops = refl }

pub agree_sym : {o r : Evaluated} → Agree o r → Agree r o
agree_sym h = record { books = sym h.books; stops = sym h.stops }

pub agree_trans : {a b c : Evaluated} → Agree a b → Agree b c → Agree a c
agree_trans h k = record { books = h.books ∙ k.books; stops = h.stops ∙ k.stops }

pub and_then_stops : (o r : Evaluated)
    → map (λ f. f.stop) (and_then o r).fills ≡ map (λ f. f.stop) o.fills ++ map (λ f. f.stop) r.fills
unfolding and_then
and_then_stops o r = map-append (λ f. f.stop) o.fills r.fills

pub agree-and_then : (o : Evaluated) {r r' : Evaluated} → Agree r r' → Agree (and_then o r) (and_then o r')
unfolding and_then
agree-and_then o {r} {r'} h = record { books = h.books; stops = rw (and_then_stops o r, and_then_stops o r', h.stops) }

-- what follows depends on the book alone
agree_then : {o r : Evaluated} (after : Book → Evaluated) → Agree o r
    → Agree (and_then o (after o.book)) (and_then r (after r.book))
unfolding and_then
agree_then {o} {r} after h = record {
  books = ap (λ (b : Book). (after b).book) h.books;
  stops = rw (and_then_stops o (after o.book), and_then_stops r (after r.book), h.stops, h.books);
}

agree_assoc : (o r t : Evaluated) → Agree (and_then o (and_then r t)) (and_then (and_then o r) t)
unfolding and_then
agree_assoc o r t = record { books = refl; stops = rw (append_assoc o.fills r.fills t.fills) }

-- and then nothing
pub agree_done : (o : Evaluated) → Agree o (and_then o (record { book = o.book; fills = []; moved = [] }))
unfolding and_then
agree_done o = record { books = refl; stops = rw (append-nil o.fills) }

------------------------------------------------------------------------
-- Points

point_stops : (kill first : Bool) (p : Price) (b : Book)
    → map (λ f. f.stop) (point kill first p b).fills ≡ entries (elected_by kill first p b)
unfolding point fill_at entries
point_stops kill first p b = map-map (λ f. f.stop) (fill_at p) (elected_by kill first p b)

-- a point at the price at which the book is settled does nothing
pub point_again : (kill first : Bool) (o : Price) (b : Book) → BookSettled kill o b
    → Agree (record { book = b; fills = []; moved = [] }) (point kill first o b)
unfolding entries
point_again kill first o b w = record {
  books = sym (book_again kill first o b w);
  stops = rw (point_stops kill first o b, elected_by_again kill first o b w);
}

-- along a run, from a settled book, two points are one
pub points_merged : (kill f g h : Bool) (o p q : Price) (d : Side) (b : Book) → behind d p.0 o.0 ≡ false
    → behind d q.0 p.0 ≡ false
    → BookSettled kill o b
    → Agree (and_then (point kill f p b) (point kill g q (point kill f p b).book)) (point kill h q b)
unfolding and_then entries
points_merged kill f g h o p q d b op pq w =
    let after = (point kill f p b).book in
    record {
      books = book_merged kill f g h o p q d b op pq w;
      stops =
          and_then_stops (point kill f p b) (point kill g q after)
          ∙ rw (point_stops kill f p b, point_stops kill g q after, point_stops kill h q b)
          (sym (ap entries (elected_by_merged kill f g h o p q d b op pq w)
          ∙ map-append (λ x. x.entry) (elected_by kill f p b) (elected_by kill g q after)));
    }

------------------------------------------------------------------------
-- Runs

-- from a book settled at o, a price on the straight way to the next does nothing
passed_over : (kill falls : Bool) (from : Option Price) (o p q : Price) (ps : List Price) (b : Book) → BookSettled kill o b
    → Straight o p q
    → Agree (walk_from kill falls from (q ∷ ps) b) (walk_from kill falls from (p ∷ q ∷ ps) b)
unfolding walk_from and_then
passed_over kill falls from o p q ps b w s =
    let first = sells_first falls from p in
    let one = point kill first p b in
    let two = point kill (sells_first falls (Some p) q) q one.book in
    let after : Book → Evaluated = λ c. walk_from kill falls (Some q) ps c in
    agree_sym (agree_trans (agree_assoc one two (after two.book))
    (agree_then after (points_merged kill first _ (sells_first falls from q) o p q s.direction b s.there s.on w)))

-- so the prices of a run that are no turning points do nothing
turns_agree : (kill falls : Bool) (from : Option Price) (o h : Price) (ps : List Price) (b : Book) → BookSettled kill o b
    → Agree (walk_from kill falls from (turns_from o h ps) b) (walk_from kill falls from (h ∷ ps) b)
unfolding turns_from walk_from
turns_agree kill falls from o h [] b w = agree_refl
turns_agree kill falls from o h (q ∷ ps) b w =
    let first = sells_first falls from h in
    let one = point kill first h b in
    cases (turns_at o h q)
    (λ e. rw e (agree-and_then one
    (turns_agree kill falls (Some h) h q ps one.book (point-settled kill first h b (settled_trails kill o b w)))))
    (λ e. rw e (agree_trans (turns_agree kill falls from o q ps b w)
    (passed_over kill falls from o h q ps b w (straight o h q e))))

pub turning_points-walk : (kill : Bool) (prev : Option Price) (ps : List Price) (b : Book) → All Trails b.slots
    → Agree (walk kill prev (turning_points ps) b) (walk kill prev ps b)
unfolding walk walk_from turning_points last_of
turning_points-walk kill prev [] b h = agree_refl
turning_points-walk kill prev (p ∷ []) b h = agree_refl
turning_points-walk kill prev (p ∷ q ∷ ps) b h =
    let falls = falls_to p (last_of q ps) in
    let one = point kill (sells_first falls prev p) p b in
    subst (λ (x : Price). Agree
    (and_then (point kill (sells_first (falls_to p x) prev p) p b)
    (walk_from kill (falls_to p x) (Some p) (turns_from p q ps) (point kill (sells_first (falls_to p x) prev p) p b).book))
    (walk kill prev (p ∷ q ∷ ps) b))
    (sym (turns_from_last p q ps p))
    (agree-and_then one
    (turns_agree kill falls (Some p) p q ps one.book (point-settled kill (sells_first falls prev p) p b h)))
