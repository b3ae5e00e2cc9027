-- The stops of a store are those that a panel draws from the preview: document 02, Two, over the calls that evaluate.
use Prim.Native.Nat.{ℕ, ◌-◌, ◌≤◌}
use mathlib.Core.Path.{◌≡◌, refl}
use mathlib.Core.Bool.{Bool, true, not, ◌||◌}
use mathlib.Core.List.{List, [], ◌∷◌}
use borrow.Table.Steps.{cases}
use lib.Dec.{eqb}
use lib.ListN.{get_or}
use Rattle.error.specs.Answer.{accepted}
use Rattle.pricelevel.specs.declared.Id.{Id}
use Rattle.pricelevel.specs.declared.Price.{Price}
use Rattle.stop_terms.specs.declared.StopTerms.{StopTerms}
use Rattle.repricing.proofs.Previewed.{draws_itself}
use Rattle.repricing.specs.Previewed.{previewed_at}
use Rattle.book.proofs.Accepted.{Accepted, decide_accepted, book-stored}
use Rattle.book.proofs.AskedCommitted.{given}
use Rattle.book.proofs.Evaluated.{TradeFits, segment_of_fits}
use Rattle.book.proofs.Found.{find_held, held-find}
use Rattle.book.proofs.Lists.{all_map}
use Rattle.book.proofs.Passes.{pass-valid, pass_fits, pass_kept}
use Rattle.book.proofs.Questions.{first_no_none}
use Rattle.book.proofs.Walks.{Kept, PriceFits, PointsAt, point_points, segment_points, walk_points, points-valid, points_fits, points_kept, SegmentFits, segment_prices_fits}
use Rattle.book.proofs.WellFormed.{IsWord}
use Rattle.book.specs.Book.{vacant, Book}
use Rattle.book.specs.Calls.{elected_entries, SegmentOutcome, segment_questions, segment_call, WalkOutcome, walk_questions, walk_call, pending_in, pass, PassOutcome, pass_questions, passed, pass_call, RunOutcome, run_over, run_call}
use Rattle.book.specs.Commit.{commit_questions, commit_call}
use Rattle.book.specs.Evaluation.{Evaluated, sells_first, segment_prices, segment, walk}
use Rattle.book.specs.Lists.{All}
use Rattle.book.specs.Path.{segment_of}
use Rattle.book.specs.StepCall.{stepped, step_questions, step_call}
use Rattle.book.specs.Store.{StoreOutcome, stored_book, find}
use Rattle.book.specs.Valid.{Valid, Fits}
use Rattle.book.specs.Words.{book_of, well_formed}
use Rattle.book.specs.declared.Counts.{Counts}
use Rattle.book.specs.declared.Elected.{Elected}
use Rattle.book.specs.declared.Moved.{Moved}
use Rattle.book.specs.declared.PrintPath.{PrintPath}
use Rattle.book.specs.declared.PrintSegment.{PrintSegment}
use Rattle.book.specs.declared.Settings.{Settings}
use Rattle.book.specs.declared.StopEntry.{StopEntry}
use Rattle.drawn_stops.specs.Drawn.{Followed, pending, elected, followed, LeftAsDrawn, ElectedAsDrawn, StopsDrawnRight, pass_prices, run_prices}
use Rattle.drawn_stops.proofs.Courses.{Listed, Courses, courses_none, points_courses, pass_courses}
use Rattle.drawn_stops.proofs.Drawing.{drawn_pending, drawn_elected}
use Rattle.drawn_stops.proofs.OneStop.{Course}
use Rattle.std.specs.Prelude.{Option, Some}

------------------------------------------------------------------------
-- From the courses of a book's stops to what is found and listed

module _ (kill : Bool) (prices : List Price) (w : List ℕ) (formed : well_formed w ≡ true) where
  -- the stop of a course is found under its identity
  course_found : (i : ℕ) (id : Id) (f : Followed) → 1 ≤ i
      → (c : Course kill prices (get_or (book_of w).slots (i - 1) vacant) id f)
      → find id w ≡ accepted (Some c.before)
  course_found i id f from c =
      rw c.is_same_id (held-find w c.before formed (record { index = i; from = from; there = c.was }))

  left_drawn : (t : StopEntry) (i : ℕ) → 1 ≤ i
      → Course kill prices (get_or (book_of w).slots (i - 1) vacant) t.id (pending t.terms)
      → LeftAsDrawn kill prices w t
  left_drawn t i from c = record {
    before = c.before;
    found = course_found i t.id (pending t.terms) from c;
    drawn = λ panel d. drawn_pending kill prices c.before.terms t.terms panel d c.made;
  }

  listed_drawn : (e : Elected) → Listed kill prices (book_of w).slots e → ElectedAsDrawn kill prices w e
  listed_drawn e l =
      let c = l.traced.course in
      record {
        before = c.before;
        found = course_found l.traced.index e.id (elected l.terms e.trigger) l.traced.from c;
        drawn = λ panel d. rw l.stop
            (drawn_elected kill prices c.before.terms l.terms panel d e.trigger c.made);
      }

  courses_drawn : (b : Book) (after : List ℕ) (entries : List Elected) → book_of after ≡ b
      → Courses kill prices (book_of w) b entries
      → StopsDrawnRight kill prices w after entries
  courses_drawn b after entries reads c = record {
    left = λ id t e.
        let h = find_held id after t e in
        left_drawn t h.index h.from (c.left (h.index - 1) t (rw reads at h.there));
    listed = all_map listed_drawn entries c.listed;
  }

-- of a book that takes the store's place
stored_drawn : (kill : Bool) (prices : List Price) (w : List ℕ) (b : Book) (entries : List Elected)
    → well_formed w ≡ true
    → (Valid (book_of w) → Valid b) → (Fits (book_of w) → Fits b) → Kept (book_of w) b
    → Courses kill prices (book_of w) b entries
    → StopsDrawnRight kill prices w (stored_book b w) entries
stored_drawn kill prices w b entries formed valid fits keeps c =
    courses_drawn kill prices w formed b (stored_book b w) entries
    (book-stored b w formed valid fits keeps.records).reads c

points_drawn : (s : Settings) (prices : List Price) (w : List ℕ) (o : Evaluated) → well_formed w ≡ true
    → All PriceFits prices
    → PointsAt s.kill prices (book_of w) o
    → StopsDrawnRight s.kill prices w (stored_book o.book w) (elected_entries s o)
points_drawn s prices w o formed fits r =
    stored_drawn s.kill prices w o.book (elected_entries s o) formed (points-valid s.kill r)
    (points_fits s.kill r fits) (points_kept s.kill r) (points_courses s r)

------------------------------------------------------------------------
-- The calls

-- Document 02, Two, over stores. After every walk over any prices, every segment, every step, every pass and every run
-- over path and store that is not refused: each stop that a search finds in the store, and each elected entry, is of a
-- stop that a search found before the call. A panel that started from that stop's terms, and fed the prices of the
-- call's points to the preview, draws it at the stop that it has: pending, or elected by the price that triggered it.
-- So does every panel that drew it right before the call, and where it is pending still draws it right, so that this
-- goes on from call to call. Prices are 64-bit words.
module _ (s : Settings) (w : List ℕ) (room : ℕ) where
  pub walk_drawn : (prev : Option Price) (prices : List Price) → All PriceFits prices
      → Accepted (walk_call s prev prices w room).answer
      → StopsDrawnRight s.kill prices w (walk_call s prev prices w room).words
      (walk_call s prev prices w room).elected
  unfolding walk_call walk_questions
  walk_drawn prev prices fits =
      decide_accepted (λ (o : WalkOutcome). o.answer)
      (λ o v. StopsDrawnRight s.kill prices w o.words o.elected) _ _ _ (λ k. refl)
      (λ e a. points_drawn s prices w (walk s.kill prev prices (book_of w))
      (first_no_none (walk_questions prices w room) e).0 fits (walk_points s.kill prev prices (book_of w)))

  pub segment_drawn : (prints : PrintSegment) (moved : ℕ) → SegmentFits prints
      → Accepted (segment_call s prints w room moved).answer
      → StopsDrawnRight s.kill (segment_prices prints) w (segment_call s prints w room moved).words
      (segment_call s prints w room moved).elected
  unfolding segment_call segment_questions
  segment_drawn prints moved fits =
      decide_accepted (λ (o : SegmentOutcome). o.answer)
      (λ o v. StopsDrawnRight s.kill (segment_prices prints) w o.words o.elected) _ _ _ (λ k. refl)
      (λ e a. points_drawn s (segment_prices prints) w (segment s.kill prints (book_of w))
      (first_no_none (segment_questions w room moved) e).0 (segment_prices_fits prints fits)
      (segment_points s.kill prints (book_of w)))

  pub step_drawn : (falls : Bool) (from : Option Price) (price : Price) (moved : ℕ) → PriceFits price
      → Accepted (step_call s falls from price w room moved).answer
      → StopsDrawnRight s.kill (price ∷ []) w (step_call s falls from price w room moved).words
      (step_call s falls from price w room moved).elected
  unfolding step_call step_questions
  step_drawn falls from price moved fits =
      decide_accepted (λ (o : SegmentOutcome). o.answer)
      (λ o v. StopsDrawnRight s.kill (price ∷ []) w o.words o.elected) _ _ _ (λ k. refl)
      (λ e a. points_drawn s (price ∷ []) w (stepped s.kill falls from price (book_of w))
      (first_no_none (step_questions w room moved) e).0 (fits, tt)
      (point_points s.kill (sells_first falls from price) price (book_of w)))

  module _ (script : List ℕ) (words : All IsWord script) where
    passed_drawn : (prints : PrintSegment) → SegmentFits prints → well_formed w ≡ true
        → StopsDrawnRight s.kill (pass_prices s script prints (book_of w)) w (passed s script prints w).words
        (passed s script prints w).elected
    unfolding passed
    passed_drawn prints fits formed =
        let b = book_of w in
        stored_drawn s.kill (pass_prices s script prints b) w (pass s script prints b).book
        (pass s script prints b).entries formed (pass-valid s script prints b)
        (pass_fits s script prints b words fits) (pass_kept s script prints b) (pass_courses s script prints b)

    pub pass_drawn : (prints : PrintSegment) → SegmentFits prints
        → Accepted (pass_call s script prints w room).answer
        → StopsDrawnRight s.kill (pass_prices s script prints (book_of w)) w
        (pass_call s script prints w room).words (pass_call s script prints w room).elected
    unfolding pass_call pass_questions
    pass_drawn prints fits =
        decide_accepted (λ (o : PassOutcome). o.answer)
        (λ o v. StopsDrawnRight s.kill (pass_prices s script prints (book_of w)) w o.words o.elected) _ _ _
        (λ k. refl)
        (λ e a. passed_drawn prints fits (first_no_none (pass_questions script w room) e).0)

    pub run_drawn : (trade : Option Price) (path : PrintPath) → PriceFits path.first → TradeFits trade
        → Accepted (run_call s script trade w room path).answer
        → StopsDrawnRight s.kill (run_prices s script trade w path) w
        (run_call s script trade w room path).words (run_call s script trade w room path).elected
    unfolding run_call run_over pass_questions run_prices
    run_drawn trade path h k =
        decide_accepted (λ (o : RunOutcome). o.answer)
        (λ o v. StopsDrawnRight s.kill (run_prices s script trade w path) w o.words o.elected) _ _ _
        (λ k. refl)
        (λ e a.
        let formed = (first_no_none (pass_questions script w room) e).0 in
        cases (eqb (pending_in w) 0 || not path.«open»)
        (λ f. rw f (courses_drawn s.kill [] w formed (book_of w) w [] refl (courses_none s.kill (book_of w))))
        (λ f. rw f (passed_drawn (segment_of path trade) (segment_of_fits path trade h k) formed)))

-- And after every commit that is not refused, with the elected entries that the store of that moment gives.
pub commit_drawn : (same : List Elected → List Moved → Bool) (s : Settings) (prints : PrintSegment) (w : List ℕ)
    → SegmentFits prints
    → Accepted (commit_call same s prints w).answer
    → StopsDrawnRight s.kill (segment_prices prints) w (commit_call same s prints w).words (given s prints w)
unfolding commit_call commit_questions
commit_drawn same s prints w fits =
    decide_accepted (λ (o : StoreOutcome Counts). o.answer)
    (λ o v. StopsDrawnRight s.kill (segment_prices prints) w o.words (given s prints w)) _ _ _ (λ k. refl)
    (λ e a. points_drawn s (segment_prices prints) w (segment s.kill prints (book_of w))
    (first_no_none (commit_questions same s prints w) e).0 (segment_prices_fits prints fits)
    (segment_points s.kill prints (book_of w)))

-- what these say of the panel that starts from the stop's own terms: the stop is the one that it draws
module _ (kill : Bool) (prices : List Price) (w : List ℕ) where
  pub left_stop : (t : StopEntry) (l : LeftAsDrawn kill prices w t)
      → (u : StopTerms) × (followed previewed_at kill l.before.terms prices ≡ pending u) × (u.stop ≡ t.terms.stop)
  left_stop t l = let d = l.drawn l.before.terms (draws_itself l.before.terms) in (d.0, d.1, d.2.stop)

  pub elected_stop_lem : (e : Elected) (l : ElectedAsDrawn kill prices w e)
      → (u : StopTerms) × (followed previewed_at kill l.before.terms prices ≡ elected u e.trigger)
      × (u.stop ≡ e.stop)
  elected_stop_lem e l = l.drawn l.before.terms (draws_itself l.before.terms)
