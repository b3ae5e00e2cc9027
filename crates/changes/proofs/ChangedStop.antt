-- What a change of a pending stop answers and leaves, case by case.
use Prim.Native.Nat.{ℕ, ◌+◌, ◌-◌, ◌<◌, ◌^◌}
use mathlib.Core.Path.{◌≡◌, refl, sym, ap, ◌∙◌}
use mathlib.Core.Bool.{true, false, cond}
use mathlib.Core.List.{List}
use lib.ListN.{get_or}
use Rattle.error.specs.Answer.{refused, accepted}
use Rattle.pricelevel.specs.declared.Id.{Id}
use Rattle.book.proofs.ChangedBook.{Changeable, change_changeable, changed-valid}
use Rattle.book.proofs.Operations.{with_slot_fits}
use Rattle.book.specs.Valid.{Valid, StopFits, Fits}
use Rattle.book.proofs.WellFormed.{well_formed-valid, well_formed_fits}
use Rattle.book.specs.Book.{Book, Pending, held}
use Rattle.error.specs.Questions.{first_no, decide}
use Rattle.book.specs.Store.{StoreOutcome, stored_book, lookup, cancel_found, cancel, takes_sequence, cancels, change_questions, changed_entry, changed, change_found, update_found, update}
use Rattle.book.specs.Words.{entry_at, book_of, well_formed}
use Rattle.book.specs.declared.OrderUpdate.{OrderUpdate}
use Rattle.book.specs.declared.StopEntry.{StopEntry}
use Rattle.pending_stops.proofs.Found.{beyond, stored_words, Found, found_entry}
use Rattle.pending_stops.specs.Stored.{Stored, replaced}
use Rattle.admission.proofs.AdmissionQuestions.{next_word_lem}
use Rattle.std.specs.Prelude.{None, Option, Some}
use Rattle.pricelevel.specs.declared.Price.{Price}

-- the answer and the words of one outcome
pub outcome_parts : {A : Type 0} (o p : StoreOutcome A) → o ≡ p → (p.answer ≡ o.answer) × (p.words ≡ o.words)
outcome_parts o p e = (rw e, rw e)

module _ (change : OrderUpdate) (id : Id) (trade : Option Price) (w : List ℕ) where
  cancels_found : cancels change ≡ true → (x : Option Pending) → update_found change trade x w ≡ cancel_found x w
  unfolding update_found cancel_found
  cancels_found e None = refl
  cancels_found e (Some p) = rw e

  pub update-cancels : cancels change ≡ true → update change id trade w ≡ cancel id w
  unfolding update cancel
  update-cancels e = rw (cancels_found e (lookup id (book_of w)))

  pub update_unformed : well_formed w ≡ false → update change id trade w ≡ record { answer = refused 1; words = w }
  unfolding update first_no decide
  update_unformed e = rw e

  pub update-missing : well_formed w ≡ true → lookup id (book_of w) ≡ None → update change id trade w ≡ record {
    answer = refused 12;
    words = w;
  }
  unfolding update first_no decide update_found
  update-missing e q = rw (e, q)

  module _ (e : well_formed w ≡ true) (i : ℕ) (f : Found id (book_of w) i) (others : cancels change ≡ false) where
    abbrev b : Book
    b = book_of w

    abbrev p : Pending
    p = record { index = i; entry = f.entry }

    -- the questions of the change, as the code asked them of the entry that it read
    module _ (t : StopEntry) (read : t ≡ entry_at w i) where
      entry_read : t ≡ f.entry
      entry_read = read ∙ found_entry w e id i f

      pub update_refused : (k : ℕ) → Some k ≡ first_no (change_questions change trade t b)
          → update change id trade w ≡ record { answer = refused k; words = w }
      unfolding update first_no decide update_found change_found
      update_refused k h = rw (e, f.looked, others, ← entry_read, ← h)

      module _ (h : None ≡ first_no (change_questions change trade t b)) (new : StopEntry)
          (is : new ≡ changed_entry change t b) (next : ℕ)
          (after : next ≡ cond (takes_sequence change) (get_or w 2 0 + 1) (get_or w 2 0)) where
        changeable : Changeable change f.entry b
        changeable = change_changeable change trade f.entry b (rw (← entry_read) (sym h))

        changed-replaced : replaced i new next b ≡ changed change p b
        unfolding changed
        changed-replaced =
            let later : next ≡ cond (takes_sequence change) (b.next + 1) b.next = rw (next_word_lem w) after in
            rw (is, later, entry_read)

        pub replaced-valid : Valid (replaced i new next b)
        replaced-valid = rw changed-replaced (changed-valid change p b (well_formed-valid w e) f.in_book changeable)

        pub replaced_fits : StopFits new → next < 2 ^ 64 → Fits (replaced i new next b)
        replaced_fits g small = with_slot_fits b next (i - 1) (held new) b.free (well_formed_fits w e) small g

        update_accepted : update change id trade w ≡ record {
          answer = accepted (changed_entry change f.entry b);
          words = stored_book (changed change p b) w;
        }
        unfolding update first_no decide update_found change_found
        update_accepted =
            let asked : first_no (change_questions change trade f.entry b) ≡ None = rw (← entry_read) (sym h) in
            rw (e, f.looked, others, asked)

        pub update_done : (u : List ℕ) → Stored (get_or w 0 0) u (replaced i new next b) (beyond w)
            → (accepted new ≡ (update change id trade w).answer) × (u ≡ (update change id trade w).words)
        update_done u st = (
          rw update_accepted (ap accepted (rw entry_read at is)),
          rw update_accepted (rw changed-replaced at (stored_words w u (replaced i new next b) st)),
        )
