-- What an admission answers and leaves, refused and accepted.
use Prim.Native.Nat.{ℕ}
use mathlib.Core.Path.{◌≡◌, sym, ap}
use mathlib.Core.Bool.{Bool, cond}
use mathlib.Core.List.{List}
use lib.Dec.{eqb}
use lib.ListN.{get_or}
use Rattle.error.specs.Answer.{refused, accepted}
use Rattle.pricelevel.specs.declared.Holder.{Holder}
use Rattle.pricelevel.specs.declared.Id.{Id}
use Rattle.pricelevel.specs.declared.Quantity.{Quantity}
use Rattle.pricelevel.specs.declared.Seq.{Seq}
use Rattle.stop_terms.specs.declared.StopTerms.{StopTerms}
use Rattle.book.proofs.Operations.{admission-formed}
use Rattle.book.specs.Path.{closed}
use Rattle.error.specs.Questions.{first_no, decide}
use Rattle.book.specs.Store.{PathOutcome, admission_questions, new_entry, admitted, path_after_admission, admit}
use Rattle.book.specs.Words.{book_of}
use Rattle.book.specs.declared.PrintPath.{PrintPath}
use Rattle.pending_stops.proofs.Found.{beyond, stored_words, well_formed-stored, count_word}
use Rattle.pending_stops.specs.Stored.{Stored}
use Rattle.std.specs.Prelude.{None, Option, Some}
use Rattle.pricelevel.specs.declared.Price.{Price}

module _ (kill : Bool) (trade : Option Price) (id : Id) (terms : StopTerms) (quantity : Quantity) (holder : Holder)
    (w : List ℕ) (path : PrintPath) where
  abbrev outcome : PathOutcome Seq
  outcome = admit kill trade id terms quantity holder w path

  abbrev told : ℕ → Seq
  told s = record { 0 = s }

  pub admit_refused : (k : ℕ) → Some k ≡ first_no (admission_questions kill trade id terms quantity w)
      → (refused k ≡ outcome.answer) × ((path ≡ outcome.path) × (w ≡ outcome.words))
  unfolding admit decide
  admit_refused k h = (rw (← h), (rw (← h), rw (← h)))

  pub admit_done : None ≡ first_no (admission_questions kill trade id terms quantity w) → (q : Seq)
      → q.0 ≡ (book_of w).next
      → (after : PrintPath) → after ≡ cond (eqb (get_or w 1 0) 0) (closed path) path
      → (u : List ℕ) → Stored (get_or w 0 0) u (admitted (new_entry id terms quantity holder (book_of w)) (book_of w)) (beyond w)
      → (accepted q ≡ outcome.answer) × ((after ≡ outcome.path) × (u ≡ outcome.words))
  unfolding admit decide path_after_admission
  admit_done h q e after p u st =
      let formed = admission-formed kill trade id terms quantity w (sym h) in (
        rw (← h) (ap (λ (s : ℕ). accepted (told s)) e),
        (
          rw (← h, ← count_word (well_formed-stored w formed)) p,
          rw (← h)
              (stored_words w u (admitted (new_entry id terms quantity holder (book_of w)) (book_of w)) st),
        ),
      )
