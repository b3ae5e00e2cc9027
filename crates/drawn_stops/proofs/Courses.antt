-- The courses of a book's stops through a call that evaluates, points, segments and passes: what it leaves and what it
-- lists are what its prices make of each stop alone.
use Prim.Native.Nat.{ℕ, zero, suc, ◌-◌}
use mathlib.Core.Path.{◌≡◌, refl, ◌∙◌}
use mathlib.Core.Bool.{Bool, not, ◌&&◌}
use mathlib.Core.List.{List, [], ◌∷◌, ◌++◌}
use borrow.Table.Steps.{cases}
use lib.ListN.{get_or}
use Rattle.pricelevel.specs.declared.Id.{Id}
use Rattle.pricelevel.specs.declared.Price.{Price}
use Rattle.stop_terms.specs.Terms.{trailed_at, elected_at}
use Rattle.stop_terms.specs.declared.StopTerms.{StopTerms}
use Rattle.book.proofs.Lists.{all_map, all_append, all_mapped}
use Rattle.book.proofs.Passes.{zero_or_more, pass_from_empty, pass_from-step}
use Rattle.book.proofs.Walks.{PointsAt, segment_points}
use Rattle.book.specs.Book.{Slot, vacant, held, Book, pending_count}
use Rattle.book.specs.Calls.{elected_entry, elected_entries, evaluated_in, executed_in, script_after, pass_from, pass}
use Rattle.book.specs.Evaluation.{Fill, Evaluated, segment_prices}
use Rattle.book.specs.Lists.{All}
use Rattle.book.specs.declared.Elected.{Elected}
use Rattle.book.specs.declared.PrintSegment.{PrintSegment}
use Rattle.book.specs.declared.Settings.{Settings}
use Rattle.book.specs.declared.StopEntry.{StopEntry}
use Rattle.drawn_stops.specs.Drawn.{Followed, pending, elected, followed, pass_prices_from, pass_prices}
use Rattle.drawn_stops.proofs.OneStop.{Course, course_none, Traced, Filled, points_left, points_filled}

-- an entry is of a stop that the prices elect, with the stop and the trigger of then
pub record Listed (kill : Bool) (prices : List Price) (ss : List Slot) (e : Elected) : Type 0 where
  pub terms : StopTerms
  pub traced : Traced kill prices ss e.id (elected terms e.trigger)
  pub stop : e.stop ≡ terms.stop

pub record Courses (kill : Bool) (prices : List Price) (b after : Book) (entries : List Elected) : Type 0 where
  pub left : (i : ℕ) (t : StopEntry) → get_or after.slots i vacant ≡ held t
      → Course kill prices (get_or b.slots i vacant) t.id (pending t.terms)
  pub listed : All (Listed kill prices b.slots) entries

pub courses_none : (kill : Bool) (b : Book) → Courses kill [] b b []
courses_none kill b = record { left = λ i t e. rw e (course_none kill t); listed = tt }

------------------------------------------------------------------------
-- Points

filled_listed : (kill : Bool) (prices : List Price) (ss : List Slot) (s : Settings) (c : Book) (f : Fill)
    → Filled kill prices ss f
    → Listed kill prices ss (elected_entry s c f)
unfolding elected_entry
filled_listed kill prices ss s c f h = record { terms = f.stop.terms; traced = h; stop = refl }

pub points_courses : (s : Settings) {kill : Bool} {ps : List Price} {b : Book} {o : Evaluated} → PointsAt kill ps b o
    → Courses kill ps b o.book (elected_entries s o)
unfolding elected_entries
points_courses s {kill} {ps} {b} {o} r = record {
  left = points_left r;
  listed = all_mapped (Filled kill ps b.slots) (Listed kill ps b.slots) (elected_entry s o.book)
      (filled_listed kill ps b.slots s o.book) o.fills (points_filled r);
}

------------------------------------------------------------------------
-- One evaluation after another

module _ (kill : Bool) (qs : List Price) where
  -- terms that are pending after the first prices go on along the later ones; elected ones are left alone
  followed_on : (t u : StopTerms) (ps : List Price) → followed trailed_at kill t ps ≡ pending u
      → followed trailed_at kill t (ps ++ qs) ≡ followed trailed_at kill u qs
  unfolding followed
  followed_on t u [] e = let q : t ≡ u = cc in rw q
  followed_on t u (p ∷ ps) e = cases (not kill && elected_at (trailed_at t p) p)
      (λ f. let g : elected (trailed_at t p) p ≡ pending u = rw f at e in cc)
      (λ f. rw f (followed_on (trailed_at t p) u ps (rw f at e)))

  followed_done : (t u : StopTerms) (at : Price) (ps : List Price) → followed trailed_at kill t ps ≡ elected u at
      → followed trailed_at kill t (ps ++ qs) ≡ elected u at
  unfolding followed
  followed_done t u at [] e = cc
  followed_done t u at (p ∷ ps) e = cases (not kill && elected_at (trailed_at t p) p) (λ f. rw f (rw f at e))
      (λ f. rw f (followed_done (trailed_at t p) u at ps (rw f at e)))

module _ (kill : Bool) (ps qs : List Price) where
  course_on : (s : Slot) (u : StopEntry) (id : Id) (f : Followed) → Course kill ps s u.id (pending u.terms)
      → Course kill qs (held u) id f
      → Course kill (ps ++ qs) s id f
  course_on s u id f h k =
      let e : u ≡ k.before = cc k.was in
      record {
        before = h.before;
        was = h.was;
        is_same_id = k.is_same_id ∙ rw (← e) h.is_same_id;
        made = followed_on kill qs h.before.terms u.terms ps h.made ∙ rw e k.made;
      }

  course_done : (s : Slot) (id : Id) (u : StopTerms) (at : Price) → Course kill ps s id (elected u at)
      → Course kill (ps ++ qs) s id (elected u at)
  course_done s id u at h = record {
    before = h.before;
    was = h.was;
    is_same_id = h.is_same_id;
    made = followed_done kill qs h.before.terms u at ps h.made;
  }

  listed_done : (ss : List Slot) (e : Elected) → Listed kill ps ss e → Listed kill (ps ++ qs) ss e
  listed_done ss e h = record {
    terms = h.terms;
    traced = record {
      index = h.traced.index;
      from = h.traced.from;
      course = course_done _ e.id h.terms e.trigger h.traced.course;
    };
    stop = h.stop;
  }

  module _ (b c d : Book) (l m : List Elected) (h : Courses kill ps b c l) (k : Courses kill qs c d m) where
    -- a record of c, followed back to b
    course_later : (i : ℕ) (id : Id) (f : Followed) → Course kill qs (get_or c.slots i vacant) id f
        → Course kill (ps ++ qs) (get_or b.slots i vacant) id f
    course_later i id f g =
        course_on (get_or b.slots i vacant) g.before id f (h.left i g.before g.was) (rw g.was at g)

    listed_later : (e : Elected) → Listed kill qs c.slots e → Listed kill (ps ++ qs) b.slots e
    listed_later e g = record {
      terms = g.terms;
      traced = record {
        index = g.traced.index;
        from = g.traced.from;
        course = course_later (g.traced.index - 1) e.id (elected g.terms e.trigger) g.traced.course;
      };
      stop = g.stop;
    }

    courses-and_then : Courses kill (ps ++ qs) b d (l ++ m)
    courses-and_then = record {
      left = λ i t e. course_later i t.id (pending t.terms) (k.left i t e);
      listed = all_append (Listed kill (ps ++ qs) b.slots) l m (all_map (listed_done b.slots) l h.listed)
          (all_map listed_later m k.listed);
    }

------------------------------------------------------------------------
-- A pass

module _ (s : Settings) where
  pass_prices_empty : (k : ℕ) (script : List ℕ) (queue : List PrintSegment) (b : Book) → pending_count b.slots ≡ 0
      → pass_prices_from k s script queue b ≡ []
  unfolding pass_prices_from
  pass_prices_empty zero script queue b e = refl
  pass_prices_empty (suc k) script [] b e = refl
  pass_prices_empty (suc k) script (prints ∷ queue) b e = rw (e, pass_prices_from)

  pass_prices-step : (k n : ℕ) (script : List ℕ) (prints : PrintSegment) (queue : List PrintSegment) (b : Book)
      → pending_count b.slots ≡ suc n
      → pass_prices_from (suc k) s script (prints ∷ queue) b ≡ segment_prices prints
      ++ pass_prices_from k s (script_after s script prints b) (queue ++ (executed_in s script prints b).segments)
      (evaluated_in s prints b).book
  unfolding pass_prices_from
  pass_prices-step k n script prints queue b e = rw (e, pass_prices_from)

  abbrev PassCourses : ℕ → List ℕ → List PrintSegment → Book → Type 0
  PassCourses k script queue b =
      Courses s.kill (pass_prices_from k s script queue b) b (pass_from k s script queue b).book
      (pass_from k s script queue b).entries

  no_fuel : (script : List ℕ) (queue : List PrintSegment) (b : Book) → PassCourses zero script queue b
  unfolding pass_from pass_prices_from
  no_fuel script queue b = courses_none s.kill b

  no-segment : (k : ℕ) (script : List ℕ) (b : Book) → PassCourses (suc k) script [] b
  unfolding pass_from pass_prices_from
  no-segment k script b = courses_none s.kill b

  one-segment : (k : ℕ) (script : List ℕ) (prints : PrintSegment) (queue : List PrintSegment) (b : Book)
      → PassCourses k (script_after s script prints b) (queue ++ (executed_in s script prints b).segments)
      (evaluated_in s prints b).book
      → PassCourses (suc k) script (prints ∷ queue) b
  one-segment k script prints queue b rest =
      zero_or_more (pending_count b.slots)
      (λ e. rw (
        pass_from_empty s (suc k) script (prints ∷ queue) b e,
        pass_prices_empty (suc k) script (prints ∷ queue) b e,
      ) (courses_none s.kill b))
      (λ n e. rw (pass_from-step s k n script prints queue b e, pass_prices-step k n script prints queue b e)
      (courses-and_then s.kill (segment_prices prints) _ b (evaluated_in s prints b).book _
      (elected_entries s (evaluated_in s prints b)) _ (points_courses s (segment_points s.kill prints b)) rest))

  pass_from_courses : (k : ℕ) (script : List ℕ) (queue : List PrintSegment) (b : Book) → PassCourses k script queue b
  pass_from_courses zero script queue b = no_fuel script queue b
  pass_from_courses (suc k) script [] b = no-segment k script b
  pass_from_courses (suc k) script (prints ∷ queue) b =
      one-segment k script prints queue b
      (pass_from_courses k (script_after s script prints b) (queue ++ (executed_in s script prints b).segments)
      (evaluated_in s prints b).book)

  pub pass_courses : (script : List ℕ) (prints : PrintSegment) (b : Book)
      → Courses s.kill (pass_prices s script prints b) b (pass s script prints b).book
      (pass s script prints b).entries
  unfolding pass pass_prices
  pass_courses script prints b = pass_from_courses (suc (pending_count b.slots)) script (prints ∷ []) b
