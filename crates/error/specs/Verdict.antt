-- What the questions of a call come to, in document 01's terms.
use Rattle.std.specs.Prelude.{ℕ, Err, None, Ok, Option, Result, Some}
use Rattle.error.specs.Refusal.{refusal_number}
use Rattle.error.specs.declared.Refusal.{Refusal}

-- the number of the first question answered no, if there is one
unfoldable pub told_verdict : Result (Unit {0}) Refusal → Option ℕ
told_verdict (Ok x) = None
told_verdict (Err e) = Some (refusal_number e)
