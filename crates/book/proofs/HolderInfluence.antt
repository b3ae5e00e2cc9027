-- The holder has no influence on election: document 02, One.
use Prim.Native.Nat.{ℕ}
use mathlib.Core.Path.{◌≡◌, refl, sym, ap, ◌∙◌}
use mathlib.Core.Bool.{Bool, not, ◌||◌}
use mathlib.Core.List.{List, []}
use borrow.Table.Steps.{cases}
use lib.Dec.{eqb}
use lib.ListN.{length, length-map}
use Rattle.error.specs.Answer.{Answer, refused, accepted}
use Rattle.error.specs.Questions.{Question, first_no, decide}
use Rattle.pricelevel.specs.declared.Price.{Price}
use Rattle.book.proofs.AlikeStores.{books_alike, stored_alike}
use Rattle.book.proofs.Holderless.{holderless_book, pending_count_holderless}
use Rattle.book.proofs.HolderlessEvaluation.{holderless_fill, holderless_evaluated, point_holderless, segment_holderless, walk_holderless, elected_entries_holderless, holderless_passed, pass_holderless}
use Rattle.book.specs.Book.{Book, pending_count}
use Rattle.book.specs.Calls.{Settings, Counts, elected_entries, counts_of, WalkOutcome, PassOutcome, pending_in, segment_questions, segment_call, walk_questions, walk_call, Passed, pass, pass_questions, passed, pass_call, run_over, run_call}
use Rattle.book.specs.Commit.{commit_questions, commit_call}
use Rattle.book.specs.Evaluation.{Evaluated, sells_first, segment, walk}
use Rattle.book.specs.Holders.{AlikeButHolders, Outcome, segment_outcome, commit_outcome, list_outcome, run_outcome, SameButHolders, Uninfluenced}
use Rattle.book.specs.Path.{segment_of}
use Rattle.book.specs.StepCall.{stepped, step_questions, step_call}
use Rattle.book.specs.Store.{stored_book}
use Rattle.book.specs.Words.{book_of}
use Rattle.book.specs.declared.Elected.{Elected}
use Rattle.book.specs.declared.Moved.{Moved}
use Rattle.book.specs.declared.PrintPath.{PrintPath}
use Rattle.book.specs.declared.PrintSegment.{PrintSegment}
use Rattle.std.specs.Prelude.{None, Option, Some}

-- an accepted segment or walk
abbrev evaluation : {X : Type 0} → Settings → (Evaluated → X) → Evaluated → List ℕ → Outcome Counts X
evaluation s besides o w = record {
  answer = accepted (counts_of o);
  words = stored_book o.book w;
  elected = elected_entries s o;
  besides = besides o;
}

module _ {w v : List ℕ} (h : AlikeButHolders w v) where
  ------------------------------------------------------------------------
  -- Results that a book gives, and that are the same but for holders if it has none

  module _ {R : Type 0} (without : R → R) (result : Book → R)
      (commutes : (b : Book) → result (holderless_book b) ≡ without (result b)) where
    results_alike : without (result (book_of w)) ≡ without (result (book_of v))
    results_alike = sym (commutes (book_of w)) ∙ ap result (books_alike h) ∙ commutes (book_of v)

    results_same : {X : Type 0} (show : R → X) → ((o : R) → show (without o) ≡ show o)
        → show (result (book_of w)) ≡ show (result (book_of v))
    results_same show blind = sym (blind (result (book_of w))) ∙ ap show results_alike ∙ blind (result (book_of v))

  pending_in_alike : pending_in w ≡ pending_in v
  unfolding pending_in
  pending_in_alike =
      results_same holderless_book (λ b. b) (λ b. refl) (λ b. pending_count b.slots)
      (λ b. pending_count_holderless b.slots)

  ------------------------------------------------------------------------
  -- Outcomes

  -- where nothing is altered
  untouched : {A X : Type 0} (a : Answer A) (x : X)
      → SameButHolders (record { answer = a; words = w; elected = []; besides = x })
      (record { answer = a; words = v; elected = []; besides = x })
  untouched a x = record { answers = refl; elected = refl; besides = refl; stores = h }

  evaluation_same : {X : Type 0} (s : Settings) (besides : Evaluated → X) (result : Book → Evaluated)
      → ((o : Evaluated) → besides (holderless_evaluated o) ≡ besides o)
      → ((b : Book) → result (holderless_book b) ≡ holderless_evaluated (result b))
      → SameButHolders (evaluation s besides (result (book_of w)) w) (evaluation s besides (result (book_of v)) v)
  unfolding counts_of
  evaluation_same s besides result blind commutes = record {
    answers = results_same holderless_evaluated result commutes (λ o. accepted (counts_of o))
        (λ o. rw (length-map o.fills holderless_fill));
    elected = results_same holderless_evaluated result commutes (elected_entries s) (elected_entries_holderless s);
    besides = results_same holderless_evaluated result commutes besides blind;
    stores = stored_alike _ _ (ap (λ (o : Evaluated). o.book) (results_alike holderless_evaluated result commutes)) h;
  }

  passed_same : (s : Settings) (script : List ℕ) (prints : PrintSegment)
      → SameButHolders (list_outcome (passed s script prints w)) (list_outcome (passed s script prints v))
  unfolding passed
  passed_same s script prints =
      let e = results_alike holderless_passed (pass s script prints) (pass_holderless s script prints) in
      record {
        answers = ap (λ (o : Passed). accepted (record {
          moves = o.moves;
          elected = length o.entries;
          used = o.used;
        })) e;
        elected = ap (λ (o : Passed). o.entries) e;
        besides = refl;
        stores = stored_alike _ _ (ap (λ (o : Passed). o.book) e) h;
      }

-- equal questions have the same first that is answered no
decide_same : {O A X : Type 0} (show : O → Outcome A X) {f g : ℕ → O} {a b : O} (p q : List Question) → p ≡ q
    → ((k : ℕ) → SameButHolders (show (f k)) (show (g k))) → SameButHolders (show a) (show b)
    → SameButHolders (show (decide (first_no p) f a)) (show (decide (first_no q) g b))
unfolding decide
decide_same show {f} {g} {a} {b} p q e refusal acceptance = rw e (go (first_no q))
  where
    go : (x : Option ℕ) → SameButHolders (show (decide x f a)) (show (decide x g b))
    go None = acceptance
    go (Some k) = refusal k

------------------------------------------------------------------------
-- The calls

-- Document 02, One: the holder has no influence on election. For every two well-formed stores that differ in holders
-- alone, words behind the store among the equal ones, and everything else that is lent or passed the same: segment,
-- commit, step, walk, pass and the run over path and store answer the same, list the same elected and the same moved stops, entry by
-- entry, leave the same path, and leave stores that again differ in holders alone. A refusal too has the same number.
module _ (s : Settings) (elected : ℕ) where
  pub segment_call_uninfluenced : (prints : PrintSegment) (moved : ℕ)
      → Uninfluenced (λ w. segment_outcome (segment_call s prints w elected moved))
  unfolding segment_call segment_questions
  segment_call_uninfluenced prints moved w v f g h =
      decide_same segment_outcome (segment_questions w elected moved) (segment_questions v elected moved)
      (rw (f, g, pending_in_alike h)) (λ k. untouched h (refused k) [])
      (evaluation_same h s (λ o. o.moved) (segment s.kill prints) (λ o. refl) (segment_holderless s.kill prints))

  pub commit_call_uninfluenced : (same : List Elected → List Moved → Bool) (prints : PrintSegment)
      → Uninfluenced (λ w. commit_outcome (commit_call same s prints w))
  unfolding commit_call commit_questions
  commit_call_uninfluenced same prints w v f g h =
      let o = evaluation_same h s (λ o. o.moved) (segment s.kill prints) (λ o. refl) (segment_holderless s.kill prints) in
      decide_same commit_outcome (commit_questions same s prints w) (commit_questions same s prints v)
      (rw (f, g, o.elected, o.besides)) (λ k. untouched h (refused k) tt)
      (record { answers = o.answers; elected = refl; besides = refl; stores = o.stores })

  pub step_call_uninfluenced : (falls : Bool) (from : Option Price) (price : Price) (moved : ℕ)
      → Uninfluenced (λ w. segment_outcome (step_call s falls from price w elected moved))
  unfolding step_call step_questions
  step_call_uninfluenced falls from price moved w v f g h =
      decide_same segment_outcome (step_questions w elected moved) (step_questions v elected moved)
      (rw (f, g, pending_in_alike h)) (λ k. untouched h (refused k) [])
      (evaluation_same h s (λ o. o.moved) (stepped s.kill falls from price) (λ o. refl)
      (point_holderless s.kill (sells_first falls from price) price))

  pub walk_call_uninfluenced : (prev : Option Price) (prices : List Price)
      → Uninfluenced (λ w. list_outcome (walk_call s prev prices w elected))
  unfolding walk_call walk_questions
  walk_call_uninfluenced prev prices w v f g h =
      decide_same (λ (o : WalkOutcome). list_outcome o) (walk_questions prices w elected) (walk_questions prices v elected)
      (rw (f, g, pending_in_alike h)) (λ k. untouched h (refused k) tt)
      (evaluation_same h s (λ o. tt) (walk s.kill prev prices) (λ o. refl) (walk_holderless s.kill prev prices))

  pub pass_call_uninfluenced : (script : List ℕ) (prints : PrintSegment)
      → Uninfluenced (λ w. list_outcome (pass_call s script prints w elected))
  unfolding pass_call pass_questions
  pass_call_uninfluenced script prints w v f g h =
      decide_same (λ (o : PassOutcome). list_outcome o) (pass_questions script w elected) (pass_questions script v elected)
      (rw (f, g, pending_in_alike h)) (λ k. untouched h (refused k) tt) (passed_same h s script prints)

  pub run_call_uninfluenced : (script : List ℕ) (trade : Option Price) (path : PrintPath)
      → Uninfluenced (λ w. run_outcome (run_call s script trade w elected path))
  unfolding run_call run_over pass_questions
  run_call_uninfluenced script trade path w v f g h =
      let o = passed_same h s script (segment_of path trade) in
      decide_same run_outcome (pass_questions script w elected) (pass_questions script v elected)
      (rw (f, g, pending_in_alike h)) (λ k. untouched h (refused k) path)
      (rw (pending_in_alike h) (cases (eqb (pending_in v) 0 || not path.«open») (λ e. rw e (untouched h _ path))
      (λ e. rw e (record { answers = o.answers; elected = o.elected; besides = refl; stores = o.stores }))))
