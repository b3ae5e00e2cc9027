-- What a pass and a run answer and leave, refused and accepted.
use Prim.Native.Nat.{ℕ, ◌≤◌}
use native.Mathlib.Omega.{arith}
use mathlib.Core.Path.{◌≡◌, refl, sym, ◌∙◌}
use mathlib.Core.Bool.{Bool, true, false, not, cond, ◌||◌}
use mathlib.Core.List.{List, map}
use borrow.Author.Tests.{leb-true, ne_eqb}
use borrow.Table.Steps.{cases}
use lib.Dec.{eqb}
use lib.ListN.{length, get_or, length-map}
use lib.Seq.{sets}
use Rattle.error.specs.Answer.{refused, accepted}
use Rattle.book.specs.declared.PassCounts.{PassCounts}
use Rattle.book.proofs.Passes.{pass_count_lem}
use Rattle.book.proofs.Questions.{first_no_none}
use Rattle.book.specs.Book.{pending_count}
use Rattle.book.specs.Calls.{written, Passed, pass, pending_in, pass_questions, PassOutcome, passed, pass_call, RunOutcome, run_over, run_call}
use Rattle.book.specs.Path.{segment_of, closed, take}
use Rattle.error.specs.Questions.{first_no, decide}
use Rattle.book.specs.Script.{script_formed}
use Rattle.book.specs.Words.{book_of, well_formed}
use Rattle.book.specs.declared.PrintPath.{PrintPath}
use Rattle.book.specs.declared.PrintSegment.{PrintSegment}
use Rattle.book.specs.declared.Settings.{Settings}
use Rattle.listing.proofs.Sets.{sets-written}
use Rattle.book.specs.Entries.{elected_words}
use Rattle.pending_stops.proofs.Found.{beyond, stored_words}
use Rattle.pending_stops.specs.Stored.{Stored}
use Rattle.evaluation.proofs.Questions.{count_word}
use Rattle.std.specs.Prelude.{None, Option, Some}
use Rattle.pricelevel.specs.declared.Price.{Price}

------------------------------------------------------------------------
-- What the questions leave

module _ (script w : List ℕ) (elected : ℕ) (h : first_no (pass_questions script w elected) ≡ None) where
  pub pass-formed : well_formed w ≡ true
  unfolding pass_questions
  pass-formed = (first_no_none (pass_questions script w elected) h).0

  pub pass_elected : pending_count (book_of w).slots ≤ elected
  unfolding pass_questions pending_in
  pass_elected = leb-true _ _ (first_no_none (pass_questions script w elected) h).1.0

  pub pass_script : script_formed script ≡ true
  unfolding pass_questions
  pass_script = (first_no_none (pass_questions script w elected) h).1.1.0

------------------------------------------------------------------------
-- The pass

module _ (s : Settings) (script : List ℕ) (prints : PrintSegment) (w : List ℕ) (elected : List (List ℕ)) where
  abbrev after : Passed
  after = pass s script prints (book_of w)

  -- the call answers, and leaves of store and list
  abbrev pub PassLeaves : PassOutcome → PassCounts → List ℕ → List (List ℕ) → Type 0
  PassLeaves o c u l =
      (accepted c ≡ o.answer) × (u ≡ o.words) × (l ≡ written (map elected_words o.elected) elected)

  pub passed_done : first_no (pass_questions script w (length elected)) ≡ None
      → (c : PassCounts) (u : List ℕ) (l : List (List ℕ))
      → c.moves ≡ after.moves → c.elected ≡ length after.entries → c.used ≡ after.used
      → l ≡ sets elected 0 (map elected_words after.entries) → Stored (get_or w 0 0) u after.book (beyond w)
      → PassLeaves (passed s script prints w) c u l
  unfolding passed
  passed_done h c u l moves count used list st =
      let few : length after.entries ≤ length elected =
      omega (arith, pass_count_lem s script prints (book_of w), pass_elected script w (length elected) h) in (
        rw (← moves, ← count, ← used),
        stored_words w u after.book st,
        list ∙ sets-written (map elected_words after.entries) elected (rw length-map few),
      )

  abbrev whole : PassOutcome
  whole = pass_call s script prints w (length elected)

  pub pass_refused : (k : ℕ) → Some k ≡ first_no (pass_questions script w (length elected))
      → (refused k ≡ whole.answer) × (w ≡ whole.words)
      × (elected ≡ written (map elected_words whole.elected) elected)
  unfolding pass_call decide written
  pass_refused k h = rw (← h) (refl, refl, refl)

  pub pass_accepted_as : None ≡ first_no (pass_questions script w (length elected))
      → (c : PassCounts) (u : List ℕ) (l : List (List ℕ))
      → PassLeaves (passed s script prints w) c u l → PassLeaves whole c u l
  unfolding pass_call decide
  pass_accepted_as h c u l d = rw (← h) d

------------------------------------------------------------------------
-- The run

choose : (a b : Bool) (p : Option PrintSegment) → a ≡ false → cond b p None ≡ cond (a || not b) None p
choose a true p e = rw e
choose a false p e = rw e

-- what is taken of a path where stops are pending
pub taken-segment : (pending : ℕ) (path : PrintPath) (trade : Option Price) (x : Option PrintSegment) → (pending ≡ 0 → ⊥)
    → x ≡ (take path trade).segment
    → x ≡ cond (eqb pending 0 || not path.«open») None (Some (segment_of path trade))
unfolding take
taken-segment pending path trade x h e =
    e ∙ choose (eqb pending 0) path.«open» (Some (segment_of path trade)) (ne_eqb pending 0 h)

module _ (s : Settings) (script : List ℕ) (trade : Option Price) (w : List ℕ) (elected : List (List ℕ))
    (path : PrintPath) where
  abbrev run : RunOutcome
  run = run_call s script trade w (length elected) path

  abbrev run_after : List (List ℕ)
  run_after = written (map elected_words run.elected) elected

  pub run_refused : (k : ℕ) → Some k ≡ first_no (pass_questions script w (length elected))
      → (refused k ≡ run.answer) × (w ≡ run.words) × (elected ≡ run_after) × (path ≡ run.path)
  unfolding run_call decide written
  run_refused k h = rw (← h) (refl, refl, refl, refl)

  module _ (h : None ≡ first_no (pass_questions script w (length elected))) (next : Option PrintSegment)
      (is : next ≡ cond (eqb (get_or w 1 0) 0 || not path.«open») None (Some (segment_of path trade))) where
    abbrev idle : Bool
    idle = eqb (pending_in w) 0 || not path.«open»

    next_is : next ≡ cond idle None (Some (segment_of path trade))
    next_is = rw (← count_word w (pass-formed script w (length elected) (sym h))) is

    pub run_idle : next ≡ None → (accepted (record { moves = 0; elected = 0; used = 0 }) ≡ run.answer)
        × (w ≡ run.words) × (elected ≡ run_after) × (path ≡ run.path)
    unfolding run_call run_over decide written
    run_idle e =
        cases idle (λ q. rw (← h, q) (refl, refl, refl, refl))
        (λ q. let f : Some (segment_of path trade) ≡ None = sym (rw q at next_is)
        ∙ e in let z : ◌≡◌ {A = ℕ} 0 1 = cc in absurd (omega arith))

    pub run_taken : (prints : PrintSegment) → next ≡ Some prints
        → (c : PassCounts) (u : List ℕ) (l : List (List ℕ)) (closing : PrintPath)
        → PassLeaves s script prints w elected (passed s script prints w) c u l
        → closing ≡ closed path
        → (accepted c ≡ run.answer) × (u ≡ run.words) × (l ≡ run_after) × (closing ≡ run.path)
    unfolding run_call run_over decide written
    run_taken prints e c u l closing d p =
        cases idle
        (λ q. let f : None ≡ Some prints = sym (rw q at next_is)
        ∙ e in let z : ◌≡◌ {A = ℕ} 0 1 = cc in absurd (omega arith))
        (λ q.
        let f : Some (segment_of path trade) ≡ Some prints = sym (rw q at next_is) ∙ e in
        let g : prints ≡ segment_of path trade = cc in
        rw (← h, q, ← g) (d.0, d.1, d.2, p))
