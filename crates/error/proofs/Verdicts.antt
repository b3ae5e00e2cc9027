-- What follows from the verdict on a call's questions.
use Prim.Native.Nat.{ℕ}
use mathlib.Core.Path.{◌≡◌}
use Rattle.error.specs.Refusal.{refusal_number}
use Rattle.error.specs.Verdict.{told_verdict}
use Rattle.error.specs.declared.Refusal.{Refusal}
use Rattle.std.specs.Prelude.{Err, None, Ok, Option, Result, Some}

pub all_yes : (v : Result (Unit {0}) Refusal) (x : Option ℕ) {u : Unit {0}} → v ≡ Ok u → told_verdict v ≡ x → None ≡ x
unfolding told_verdict
all_yes v x e h = rw e at h

pub one_no : (v : Result (Unit {0}) Refusal) (x : Option ℕ) (r : Refusal) → v ≡ Err r → told_verdict v ≡ x → Some (refusal_number r) ≡ x
unfolding told_verdict
one_no v x r e h = rw e at h
