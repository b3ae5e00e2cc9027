-- What a call answers, in document 01's terms: the number of the first question answered no, or what it accepted.
use Rattle.std.specs.Prelude.{ℕ, Err, Ok, Result}
use Rattle.error.specs.Refusal.{refusal_number}
use Rattle.error.specs.declared.Refusal.{Refusal}

pub data Answer (A : Type 0) : Type 0 where
  refused : ℕ → Answer A
  accepted : A → Answer A

-- the answer of a call's code in these terms
unfoldable pub told_answer : {A : Type 0} → Result A Refusal → Answer A
told_answer (Ok a) = accepted a
told_answer (Err e) = refused (refusal_number e)
