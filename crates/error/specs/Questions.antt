-- The questions that a call goes through: the first that is answered no gives its number.
use Rattle.std.specs.Prelude.{ℕ, Bool, cond, List, [], ◌∷◌, None, Option, Some}

pub record Question : Type 0 where
  pub number : ℕ
  pub holds : Bool

abbrev pub question : ℕ → Bool → Question
question number holds = record { number = number; holds = holds }

-- document 01, The questions a call goes through
unfoldable pub first_no : List Question → Option ℕ
first_no [] = None
first_no (q ∷ qs) = cond q.holds (first_no qs) (Some q.number)

-- what follows: one outcome for a refusal's number, another where every question was answered yes
unfoldable pub decide : {A : Type 0} → Option ℕ → (ℕ → A) → A → A
decide None refusal acceptance = acceptance
decide (Some number) refusal acceptance = refusal number

-- one question more, after those that came to this: the first no stays
unfoldable pub asked : Option ℕ → Question → Option ℕ
asked None q = cond q.holds None (Some q.number)
asked (Some number) q = Some number
