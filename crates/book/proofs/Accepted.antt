-- An accepted call on the store leaves a well-formed store, which reads as the book that the call is to leave, with the
-- words beyond it.
use Prim.Native.Nat.{ℕ, ◌<◌, ◌^◌}
use mathlib.Core.Path.{◌≡◌, refl, sym, ◌∙◌}
use mathlib.Core.Bool.{Bool, true, cond, ◌&&◌}
use mathlib.Core.List.{List, [], ◌∷◌}
use borrow.Author.Tests.{leb-true}
use borrow.Table.Steps.{cases}
use lib.Dec.{leb}
use lib.ListN.{length, get_or}
use Rattle.error.specs.Answer.{Answer, refused, accepted}
use Rattle.pricelevel.proofs.Bools.{and_parts}
use Rattle.pricelevel.specs.Holder.{HolderFits}
use Rattle.pricelevel.specs.declared.Holder.{Holder}
use Rattle.pricelevel.specs.declared.Id.{Id}
use Rattle.pricelevel.specs.declared.Quantity.{Quantity}
use Rattle.pricelevel.specs.declared.Seq.{Seq}
use Rattle.stop_terms.specs.declared.StopTerms.{StopTerms}
use Rattle.book.proofs.ChangedBook.{UpdateFits, change_changeable, changed-valid, changed_fits, changed_length}
use Rattle.book.proofs.Lookup.{lookup_found}
use Rattle.book.proofs.Operations.{admission_admissible, admitted-valid, admitted_fits, admitted_length, empty_book-valid, empty_book_fits, empty_book_length, vacated-valid, vacated_fits, vacated_length}
use Rattle.book.proofs.Questions.{first_no_none, decide_outcomes}
use Rattle.book.proofs.Refusals.{accepted_refused}
use Rattle.book.specs.Valid.{Valid, StopFits, Fits}
use Rattle.book.proofs.WellFormed.{Stored, stored-well_formed, stored_book-well_formed, well_formed-valid, well_formed_fits, book_of_slots_length}
use Rattle.book.specs.Book.{Book, Pending}
use Rattle.error.specs.Questions.{question, first_no, decide}
use Rattle.book.specs.Store.{StoreOutcome, PathOutcome, stored_book, empty_book, lay_out, clear, lookup, new_entry, admitted, admit, vacated, cancel_found, cancel, cancels, changed, change_found, update_found, update}
use Rattle.book.specs.Words.{book_of, well_formed}
use Rattle.book.specs.Sizes.{most_records, store_length}
use Rattle.book.specs.declared.OrderUpdate.{OrderUpdate}
use Rattle.book.specs.declared.PrintPath.{PrintPath}
use Rattle.book.specs.declared.StopEntry.{StopEntry}
use Rattle.std.specs.Prelude.{None, Option, Some}
use Rattle.pricelevel.specs.declared.Price.{Price}

abbrev pub Accepted : {B : Type 0} → Answer B → Type 0
Accepted {B} a = (v : B) × (a ≡ accepted v)

-- an accepted outcome went through all its questions: what is left there, with the value that it answers, is left
pub decide_accepted : {A B : Type 0} (answer : A → Answer B) (Left : A → B → Type 0) (x : Option ℕ) (refusal : ℕ → A)
    (acceptance : A)
    → ((k : ℕ) → answer (refusal k) ≡ refused k)
    → (x ≡ None → (a : Accepted (answer acceptance)) → Left acceptance a.0)
    → (a : Accepted (answer (decide x refusal acceptance))) → Left (decide x refusal acceptance) a.0
decide_accepted answer Left x refusal acceptance h g =
    decide_outcomes (λ o. (a : Accepted (answer o)) → Left o a.0) x refusal acceptance
    (λ k a. absurd (accepted_refused a.0 (k, sym a.1 ∙ h k))) (λ e. g e)

-- the one question that the calls on a store begin with
formed-question : (w : List ℕ) → first_no (question 1 (well_formed w) ∷ []) ≡ None → well_formed w ≡ true
formed-question w e = (first_no_none _ e).0

-- a book of as many records as the store has takes its place
pub book-stored : (b : Book) (w : List ℕ) → well_formed w ≡ true → (Valid (book_of w) → Valid b)
    → (Fits (book_of w) → Fits b)
    → length b.slots ≡ length (book_of w).slots → Stored (get_or w 0 0) b w (stored_book b w)
book-stored b w e v f n =
    stored_book-well_formed b w e (v (well_formed-valid w e)) (f (well_formed_fits w e)) (n ∙ book_of_slots_length w)

------------------------------------------------------------------------
-- Layout and clear

pub lay_out-stored : (n tick : ℕ) (w : List ℕ) → tick < 2 ^ 64 → Accepted (lay_out n tick w).answer
    → Stored n (empty_book n tick) w (lay_out n tick w).words
unfolding lay_out
lay_out-stored n tick w fits =
    let asked = question 2 (leb 1 n && (leb n most_records && leb (store_length n) (length w))) ∷ [] in
    decide_accepted (λ (o : StoreOutcome (Unit {0})). o.answer)
    (λ o v. Stored n (empty_book n tick) w o.words) _ _ _ (λ k. refl)
    (λ e a.
    let h = and_parts (leb 1 n) _ (first_no_none asked e).0 in
    let g = and_parts (leb n most_records) _ h.1 in
    stored-well_formed n (empty_book n tick) w (leb-true _ _ g.1)
    (empty_book-valid n tick (leb-true _ _ h.0) (leb-true _ _ g.0))
    (empty_book_fits n tick fits) (empty_book_length n tick))

pub clear-stored : (w : List ℕ) (path : PrintPath) → Accepted (clear w path).answer
    → Stored (get_or w 0 0) (empty_book (get_or w 0 0) (get_or w 3 0)) w (clear w path).words
unfolding clear book_of
clear-stored w path =
    let n = get_or w 0 0 in
    let tick = get_or w 3 0 in
    decide_accepted (λ (o : PathOutcome (Unit {0})). o.answer)
    (λ o v. Stored n (empty_book n tick) w o.words) _ _ _ (λ k. refl)
    (λ e a. book-stored (empty_book n tick) w (formed-question w e)
    (λ v. empty_book-valid n tick (rw book_of_slots_length at v.some_records)
    (rw book_of_slots_length at v.few_records))
    (λ f. empty_book_fits n tick f.tick) (empty_book_length n tick ∙ sym (book_of_slots_length w)))

------------------------------------------------------------------------
-- Admission

-- the numbers of an admission are words
pub record AdmissionFits (id : Id) (terms : StopTerms) (amount : Quantity) (owner : Holder) : Type 0 where
  pub high : id.high < 2 ^ 64
  pub low : id.low < 2 ^ 64
  pub stop : terms.stop.0 < 2 ^ 64
  pub watermark : terms.watermark.0 < 2 ^ 64
  pub trail : terms.trail < 2 ^ 64
  pub quantity : amount.0 < 2 ^ 64
  pub holder : HolderFits owner

new_entry_fits : (id : Id) (terms : StopTerms) (quantity : Quantity) (holder : Holder) (b : Book)
    → AdmissionFits id terms quantity holder → Fits b → StopFits (new_entry id terms quantity holder b)
unfolding new_entry
new_entry_fits id terms quantity holder b h f = record {
  high = h.high;
  low = h.low;
  stop = h.stop;
  watermark = h.watermark;
  trail = h.trail;
  quantity = h.quantity;
  seq = f.next;
  holder = h.holder;
}

pub admit-stored : (kill : Bool) (trade : Option Price) (id : Id) (terms : StopTerms) (quantity : Quantity) (holder : Holder)
    (w : List ℕ) (path : PrintPath)
    → AdmissionFits id terms quantity holder → Accepted (admit kill trade id terms quantity holder w path).answer
    → Stored (get_or w 0 0)
    (admitted (new_entry id terms quantity holder (book_of w)) (book_of w)) w
    (admit kill trade id terms quantity holder w path).words
unfolding admit
admit-stored kill trade id terms quantity holder w path fits =
    let b = book_of w in
    let t = new_entry id terms quantity holder b in
    decide_accepted (λ (o : PathOutcome Seq). o.answer)
    (λ o v. Stored (get_or w 0 0) (admitted t b) w o.words) _ _ _ (λ k. refl)
    (λ e a.
    let q = admission_admissible kill trade id terms quantity holder w e in
    book-stored (admitted t b) w q.0 (λ v. admitted-valid t b v q.1)
    (λ f. admitted_fits t b f (new_entry_fits id terms quantity holder b fits f) q.2) (admitted_length t b))

------------------------------------------------------------------------
-- Cancel and change

-- the stop of this identity is pending, and this is left
abbrev pub FoundAnd : Id → List ℕ → (Pending → Type 0) → Type 0
FoundAnd id w Left = (p : Pending) × (lookup id (book_of w) ≡ Some p) × Left p

-- a stop that is found goes out of the book
vacated-stored : (id : Id) (w : List ℕ) (p : Pending) → well_formed w ≡ true → lookup id (book_of w) ≡ Some p
    → Stored (get_or w 0 0) (vacated p.index (book_of w)) w (stored_book (vacated p.index (book_of w)) w)
vacated-stored id w p formed e =
    let b = book_of w in
    book-stored (vacated p.index b) w formed (λ v. vacated-valid p b v (lookup_found id b p e).0)
    (λ f. vacated_fits p.index b f)
    (vacated_length p.index b)

cancel_found-stored : (id : Id) (w : List ℕ) (x : Option Pending) → well_formed w ≡ true → lookup id (book_of w) ≡ x
    → Accepted (cancel_found x w).answer
    → FoundAnd id w (λ p. Stored (get_or w 0 0) (vacated p.index (book_of w)) w (cancel_found x w).words)
unfolding cancel_found
cancel_found-stored id w None formed e a = absurd (accepted_refused a.0 (12, sym a.1))
cancel_found-stored id w (Some p) formed e a = (p, e, vacated-stored id w p formed e)

pub cancel-stored : (id : Id) (w : List ℕ) → Accepted (cancel id w).answer
    → FoundAnd id w (λ p. Stored (get_or w 0 0) (vacated p.index (book_of w)) w (cancel id w).words)
unfolding cancel
cancel-stored id w =
    decide_accepted (λ (o : StoreOutcome StopEntry). o.answer)
    (λ o v. FoundAnd id w (λ p. Stored (get_or w 0 0) (vacated p.index (book_of w)) w o.words)) _ _ _ (λ k. refl)
    (λ e. cancel_found-stored id w (lookup id (book_of w)) (formed-question w e) refl)

-- the book after a change: without the stop where the change cancels it
abbrev pub updated : OrderUpdate → Pending → Book → Book
updated change p b = cond (cancels change) (vacated p.index b) (changed change p b)

update_found-stored : (change : OrderUpdate) (id : Id) (trade : Option Price) (w : List ℕ) (x : Option Pending)
    → UpdateFits change → well_formed w ≡ true
    → lookup id (book_of w) ≡ x → Accepted (update_found change trade x w).answer
    → FoundAnd id w (λ p. Stored (get_or w 0 0) (updated change p (book_of w)) w (update_found change trade x w).words)
unfolding update_found cancel_found change_found
update_found-stored change id trade w None fits formed e a = absurd (accepted_refused a.0 (12, sym a.1))
update_found-stored change id trade w (Some p) fits formed e a =
    let b = book_of w in
    let found = (lookup_found id b p e).0 in (
      p,
      e,
      cases (cancels change)
          (λ f. rw f (vacated-stored id w p formed e))
          (λ f. rw f (decide_accepted (λ (o : StoreOutcome StopEntry). o.answer)
          (λ o v. Stored (get_or w 0 0) (changed change p b) w o.words) _ _ _ (λ k. refl)
          (λ g r.
          let c = change_changeable change trade p.entry b g in
          book-stored (changed change p b) w formed (λ v. changed-valid change p b v found c)
          (λ h. changed_fits change p b h found c fits)
          (changed_length change p b))
          (rw f at a))),
    )

pub update-stored : (change : OrderUpdate) (id : Id) (trade : Option Price) (w : List ℕ) → UpdateFits change
    → Accepted (update change id trade w).answer
    → FoundAnd id w (λ p. Stored (get_or w 0 0) (updated change p (book_of w)) w (update change id trade w).words)
unfolding update
update-stored change id trade w fits =
    decide_accepted (λ (o : StoreOutcome StopEntry). o.answer)
    (λ o v. FoundAnd id w (λ p. Stored (get_or w 0 0) (updated change p (book_of w)) w o.words)) _ _ _ (λ k. refl)
    (λ e. update_found-stored change id trade w (lookup id (book_of w)) fits (formed-question w e) refl)
