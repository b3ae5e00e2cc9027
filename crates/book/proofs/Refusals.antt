-- A refused call alters nothing lent and lists nothing.
use Prim.Native.Nat.{ℕ}
use mathlib.Core.Path.{◌≡◌, refl}
use mathlib.Core.Bool.{Bool, not, ◌||◌}
use mathlib.Core.List.{List, []}
use native.Mathlib.Omega.{arith}
use borrow.Table.Steps.{cases}
use lib.Dec.{eqb}
use Rattle.error.specs.Answer.{Answer, refused, accepted}
use Rattle.pricelevel.specs.declared.Holder.{Holder}
use Rattle.pricelevel.specs.declared.Id.{Id}
use Rattle.pricelevel.specs.declared.Price.{Price}
use Rattle.pricelevel.specs.declared.Quantity.{Quantity}
use Rattle.pricelevel.specs.declared.Seq.{Seq}
use Rattle.stop_terms.specs.declared.StopTerms.{StopTerms}
use Rattle.book.proofs.Questions.{decide_outcomes}
use Rattle.book.specs.Book.{Pending}
use Rattle.book.specs.Calls.{Settings, Counts, SegmentOutcome, ListOutcome, WalkOutcome, PassOutcome, RunOutcome, pending_in, segment_call, walk_call, passed, pass_call, run_over, run_call}
use Rattle.book.specs.Collect.{CollectOutcome, collect, mass_cancel}
use Rattle.book.specs.Commit.{commit_call}
use Rattle.book.specs.Ladder.{LadderOutcome, ladder}
use Rattle.error.specs.Questions.{decide}
use Rattle.book.specs.StepCall.{step_call}
use Rattle.book.specs.Store.{StoreOutcome, PathOutcome, lay_out, clear, admit, cancel_found, cancel, cancels, change_found, update_found, update, lookup}
use Rattle.book.specs.TurningPoints.{TurningPointsOutcome, turning_points_call}
use Rattle.book.specs.Words.{book_of}
use Rattle.book.specs.declared.Elected.{Elected}
use Rattle.book.specs.declared.Moved.{Moved}
use Rattle.book.specs.declared.OrderUpdate.{OrderUpdate}
use Rattle.book.specs.declared.PrintPath.{PrintPath}
use Rattle.book.specs.declared.PrintSegment.{PrintSegment}
use Rattle.book.specs.declared.Selector.{Selector}
use Rattle.book.specs.declared.StopEntry.{StopEntry}
use Rattle.std.specs.Prelude.{None, Option, Some}

-- an outcome is refused
abbrev pub Refused : {B : Type 0} → Answer B → Type 0
Refused a = (k : ℕ) × (a ≡ refused k)

pub accepted_refused : {B : Type 0} (v : B) → Refused (accepted v) → ⊥
accepted_refused v r = let e = r.1 in let z : ◌≡◌ {A = ℕ} 0 1 = cc in omega arith

-- an accepted outcome was not refused: so what is kept by every refusal is kept
decide_refused : {A B : Type 0} (answer : A → Answer B) (Kept : A → Type 0) (x : Option ℕ) (refusal : ℕ → A)
    (acceptance : A)
    → Refused (answer (decide x refusal acceptance)) → ((k : ℕ) → Kept (refusal k))
    → (Refused (answer acceptance) → Kept acceptance) → Kept (decide x refusal acceptance)
decide_refused answer Kept x refusal acceptance r h g =
    decide_outcomes (λ o. Refused (answer o) → Kept o) x refusal acceptance (λ k q. h k) (λ e. g) r

pub lay_out_refused : (n tick : ℕ) (w : List ℕ) → Refused (lay_out n tick w).answer → (lay_out n tick w).words ≡ w
unfolding lay_out
lay_out_refused n tick w r =
    decide_refused (λ (o : StoreOutcome (Unit {0})). o.answer) (λ o. o.words ≡ w) _ _ _ r (λ k. refl)
    (λ q. absurd (accepted_refused _ q))

-- what a call on store and path leaves where it is refused
abbrev LeftAs : {A : Type 0} → List ℕ → PrintPath → PathOutcome A → Type 0
LeftAs w path o = (o.words ≡ w) × (o.path ≡ path)

pub clear_refused : (w : List ℕ) (path : PrintPath) → Refused (clear w path).answer → LeftAs w path (clear w path)
unfolding clear
clear_refused w path r =
    decide_refused (λ (o : PathOutcome (Unit {0})). o.answer) (λ o. LeftAs w path o) _ _ _ r (λ k. (refl, refl))
    (λ q. absurd (accepted_refused _ q))

pub admit_refused : (kill : Bool) (trade : Option Price) (id : Id) (terms : StopTerms) (quantity : Quantity) (holder : Holder) (w : List ℕ)
    (path : PrintPath)
    → Refused (admit kill trade id terms quantity holder w path).answer
    → LeftAs w path (admit kill trade id terms quantity holder w path)
unfolding admit
admit_refused kill trade id terms quantity holder w path r =
    decide_refused (λ (o : PathOutcome Seq). o.answer) (λ o. LeftAs w path o) _ _ _ r (λ k. (refl, refl))
    (λ q. absurd (accepted_refused _ q))

cancel_found_refused : (x : Option Pending) (w : List ℕ) → Refused (cancel_found x w).answer → (cancel_found x w).words ≡ w
unfolding cancel_found
cancel_found_refused None w r = refl
cancel_found_refused (Some p) w r = absurd (accepted_refused _ r)

pub cancel_refused : (id : Id) (w : List ℕ) → Refused (cancel id w).answer → (cancel id w).words ≡ w
unfolding cancel
cancel_refused id w r =
    decide_refused (λ (o : StoreOutcome StopEntry). o.answer) (λ o. o.words ≡ w) _ _ _ r (λ k. refl)
    (cancel_found_refused (lookup id (book_of w)) w)

update_found_refused : (change : OrderUpdate) (trade : Option Price) (x : Option Pending) (w : List ℕ)
    → Refused (update_found change trade x w).answer → (update_found change trade x w).words ≡ w
unfolding update_found change_found
update_found_refused change trade None w r = refl
update_found_refused change trade (Some p) w r = cases (cancels change)
    (λ e. rw e (cancel_found_refused (Some p) w (rw e at r)))
    (λ e. rw e (decide_refused (λ (o : StoreOutcome StopEntry). o.answer) (λ o. o.words ≡ w) _ _ _ (rw e at r)
    (λ k. refl) (λ q. absurd (accepted_refused _ q))))

pub update_refused : (change : OrderUpdate) (id : Id) (trade : Option Price) (w : List ℕ)
    → Refused (update change id trade w).answer → (update change id trade w).words ≡ w
unfolding update
update_refused change id trade w r =
    decide_refused (λ (o : StoreOutcome StopEntry). o.answer) (λ o. o.words ≡ w) _ _ _ r (λ k. refl)
    (update_found_refused change trade (lookup id (book_of w)) w)

-- what collect and mass cancel leave and list where they are refused
abbrev CollectLeft : List ℕ → CollectOutcome → Type 0
CollectLeft w o = (o.words ≡ w) × (o.listed ≡ [])

pub collect_refused : (selector : Selector) (w : List ℕ) (list : ℕ) → Refused (collect selector w list).answer
    → CollectLeft w (collect selector w list)
unfolding collect
collect_refused selector w list r =
    decide_refused (λ (o : CollectOutcome). o.answer) (λ o. CollectLeft w o) _ _ _ r (λ k. (refl, refl))
    (λ q. absurd (accepted_refused _ q))

pub mass_cancel_refused : (selector : Selector) (w : List ℕ) (list : ℕ) → Refused (mass_cancel selector w list).answer
    → CollectLeft w (mass_cancel selector w list)
unfolding mass_cancel
mass_cancel_refused selector w list r =
    decide_refused (λ (o : CollectOutcome). o.answer) (λ o. CollectLeft w o) _ _ _ r (λ k. (refl, refl))
    (λ q. absurd (accepted_refused _ q))

pub ladder_refused : (prices : List Price) (w : List ℕ) (list : ℕ) → Refused (ladder prices w list).answer
    → (ladder prices w list).listed ≡ []
unfolding ladder
ladder_refused prices w list r =
    decide_refused (λ (o : LadderOutcome). o.answer) (λ o. o.listed ≡ []) _ _ _ r (λ k. refl)
    (λ q. absurd (accepted_refused _ q))

pub turning_points_call_refused : (prices : List Price) (list : ℕ) → Refused (turning_points_call prices list).answer
    → (turning_points_call prices list).listed ≡ []
unfolding turning_points_call
turning_points_call_refused prices list r =
    decide_refused (λ (o : TurningPointsOutcome). o.answer) (λ o. o.listed ≡ []) _ _ _ r (λ k. refl)
    (λ q. absurd (accepted_refused _ q))

module _ (s : Settings) (w : List ℕ) (elected : ℕ) where
  pub segment_call_refused : (prints : PrintSegment) (moved : ℕ) → Refused (segment_call s prints w elected moved).answer
      → ((segment_call s prints w elected moved).words ≡ w) × ((segment_call s prints w elected moved).elected ≡ [])
      × ((segment_call s prints w elected moved).moved ≡ [])
  unfolding segment_call
  segment_call_refused prints moved r =
      decide_refused (λ (o : SegmentOutcome). o.answer)
      (λ o. (o.words ≡ w) × (o.elected ≡ []) × (o.moved ≡ [])) _ _ _ r
      (λ k. (refl, refl, refl)) (λ q. absurd (accepted_refused _ q))

  pub commit_call_refused : (same : List Elected → List Moved → Bool) (prints : PrintSegment)
      → Refused (commit_call same s prints w).answer → (commit_call same s prints w).words ≡ w
  unfolding commit_call
  commit_call_refused same prints r =
      decide_refused (λ (o : StoreOutcome Counts). o.answer) (λ o. o.words ≡ w) _ _ _ r (λ k. refl)
      (λ q. absurd (accepted_refused _ q))

  pub step_call_refused : (falls : Bool) (from : Option Price) (price : Price) (moved : ℕ)
      → Refused (step_call s falls from price w elected moved).answer
      → ((step_call s falls from price w elected moved).words ≡ w)
      × ((step_call s falls from price w elected moved).elected ≡ [])
      × ((step_call s falls from price w elected moved).moved ≡ [])
  unfolding step_call
  step_call_refused falls from price moved r =
      decide_refused (λ (o : SegmentOutcome). o.answer)
      (λ o. (o.words ≡ w) × (o.elected ≡ []) × (o.moved ≡ [])) _ _ _ r
      (λ k. (refl, refl, refl)) (λ q. absurd (accepted_refused _ q))

  -- what a walk and a pass leave and list where they are refused
  abbrev ListLeft : {A : Type 0} → ListOutcome A → Type 0
  ListLeft o = (o.words ≡ w) × (o.elected ≡ [])

  pub walk_call_refused : (prev : Option Price) (prices : List Price) → Refused (walk_call s prev prices w elected).answer
      → ListLeft (walk_call s prev prices w elected)
  unfolding walk_call
  walk_call_refused prev prices r =
      decide_refused (λ (o : WalkOutcome). o.answer) (λ o. ListLeft o) _ _ _ r (λ k. (refl, refl))
      (λ q. absurd (accepted_refused _ q))

  pub pass_call_refused : (script : List ℕ) (prints : PrintSegment)
      → Refused (pass_call s script prints w elected).answer → ListLeft (pass_call s script prints w elected)
  unfolding pass_call passed
  pass_call_refused script prints r =
      decide_refused (λ (o : PassOutcome). o.answer) (λ o. ListLeft o) _ _ _ r (λ k. (refl, refl))
      (λ q. absurd (accepted_refused _ q))

  -- what the run over path and store leaves where it is refused, and where nothing is pending or the path is closed
  abbrev RunLeft : PrintPath → RunOutcome → Type 0
  RunLeft path o = (o.words ≡ w) × (o.elected ≡ []) × (o.path ≡ path)

  pub run_call_refused : (script : List ℕ) (trade : Option Price) (path : PrintPath)
      → Refused (run_call s script trade w elected path).answer
      → RunLeft path (run_call s script trade w elected path)
  unfolding run_call run_over passed
  run_call_refused script trade path r =
      decide_refused (λ (o : RunOutcome). o.answer) (λ o. RunLeft path o) _ _ _ r (λ k. (refl, refl, refl))
      (λ q. cases (eqb (pending_in w) 0 || not path.«open») (λ e. rw e (refl, refl, refl))
      (λ e. absurd (accepted_refused _ (rw e at q))))
