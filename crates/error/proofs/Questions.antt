-- Laws of a call's questions: asked one after the other they come to the first no, and what a call does follows from
-- that.
use Prim.Native.Nat.{ℕ}
use mathlib.Core.Path.{◌≡◌, refl, ◌∙◌}
use mathlib.Core.Bool.{Bool, true, false, ◌&&◌}
use mathlib.Core.List.{List, [], ◌∷◌}
use borrow.Table.Steps.{cases}
use Rattle.error.specs.Questions.{Question, question, first_no, decide, asked}
use Rattle.std.specs.Prelude.{None, Option, Some}

-- the questions of a list, asked in turn after others
abbrev pub asked_all : Option ℕ → List Question → Option ℕ
asked_all v [] = v
asked_all v (q ∷ qs) = asked_all (asked v q) qs

-- one question more, by what came to the same before it and what answers it
pub asked_next : (k : ℕ) {u v w : Option ℕ} {b holds : Bool} → w ≡ asked u (question k b) → u ≡ v → b ≡ holds
    → w ≡ asked v (question k holds)
asked_next k h e q = h ∙ rw (e, q)

refused-stays : (k : ℕ) (qs : List Question) → asked_all (Some k) qs ≡ Some k
unfolding asked
refused-stays k [] = refl
refused-stays k (q ∷ qs) = refused-stays k qs

pub asked_all-first_no : (qs : List Question) → asked_all None qs ≡ first_no qs
unfolding asked first_no
asked_all-first_no [] = refl
asked_all-first_no (q ∷ qs) =
    cases q.holds (λ e. rw e (asked_all-first_no qs)) (λ e. rw e (refused-stays q.number qs))

-- two questions of one number are one
pub asked_both : (v : Option ℕ) (k : ℕ) (a b : Bool)
    → asked (asked v (question k a)) (question k b) ≡ asked v (question k (a && b))
unfolding asked
asked_both (Some n) k a b = refl
asked_both None k a b = cases a (λ e. rw e) (λ e. rw e)

-- after a first question that holds, the others are asked in turn
pub asked_first : (number : ℕ) (holds : Bool) (qs : List Question) → holds ≡ true
    → asked_all None qs ≡ first_no (question number holds ∷ qs)
unfolding first_no
asked_first number holds qs e = rw e (asked_all-first_no qs)

pub first_no_lem : (number : ℕ) (holds : Bool) (qs : List Question) → holds ≡ false
    → first_no (question number holds ∷ qs) ≡ Some number
unfolding first_no
first_no_lem number holds qs e = rw e

pub decide_yes : {A : Type 0} (refusal : ℕ → A) (acceptance : A) → decide None refusal acceptance ≡ acceptance
unfolding decide
decide_yes refusal acceptance = refl

pub decide_no : {A : Type 0} (number : ℕ) (refusal : ℕ → A) (acceptance : A)
    → decide (Some number) refusal acceptance ≡ refusal number
unfolding decide
decide_no number refusal acceptance = refl
