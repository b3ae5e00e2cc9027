-- Stores that differ in holders alone, and calls on which holders have no influence: document 02, One.
use Rattle.std.specs.Prelude.{ℕ, ◌≤◌, ◌<◌, ◌≡◌, true, List, [], length, get_or}
use Rattle.error.specs.Answer.{Answer}
use Rattle.book.specs.Calls.{Counts, PassCounts, SegmentOutcome, ListOutcome, RunOutcome}
use Rattle.book.specs.Sizes.{record_length, first_holder_word}
use Rattle.book.specs.Store.{StoreOutcome}
use Rattle.book.specs.Words.{cell, well_formed}
use Rattle.book.specs.declared.Elected.{Elected}
use Rattle.book.specs.declared.Moved.{Moved}
use Rattle.book.specs.declared.PrintPath.{PrintPath}

-- word p of a store is a word of a record's holder
pub record HolderPlace (w : List ℕ) (p : ℕ) : Type 0 where
  pub index : ℕ
  pub word : ℕ
  pub from : 1 ≤ index
  pub to : index ≤ get_or w 0 0
  pub behind_links : first_holder_word ≤ word
  pub inside : word < record_length
  pub at : p ≡ cell index word

-- as long, and equal at all other places
pub record AlikeButHolders (w v : List ℕ) : Type 0 where
  pub size : length w ≡ length v
  pub others : (p : ℕ) → (HolderPlace w p → ⊥) → get_or w p 0 ≡ get_or v p 0

------------------------------------------------------------------------
-- Calls on which holders have no influence

-- what the outcomes of the calls that evaluate share, and what they have besides: a segment and a step the moved list, a
-- walk and a pass nothing, the run its path; a commit writes no list
pub record Outcome (A X : Type 0) : Type 0 where
  pub answer : Answer A
  pub words : List ℕ
  pub elected : List Elected
  pub besides : X

abbrev pub segment_outcome : SegmentOutcome → Outcome Counts (List Moved)
segment_outcome o = record { answer = o.answer; words = o.words; elected = o.elected; besides = o.moved }

abbrev pub list_outcome : {A : Type 0} → ListOutcome A → Outcome A (Unit {0})
list_outcome o = record { answer = o.answer; words = o.words; elected = o.elected; besides = tt }

abbrev pub commit_outcome : StoreOutcome Counts → Outcome Counts (Unit {0})
commit_outcome o = record { answer = o.answer; words = o.words; elected = []; besides = tt }

abbrev pub run_outcome : RunOutcome → Outcome PassCounts PrintPath
run_outcome o = record { answer = o.answer; words = o.words; elected = o.elected; besides = o.path }

-- equal answers, equal lists, and stores that differ in holders alone
pub record SameButHolders {A X : Type 0} (x y : Outcome A X) : Type 0 where
  pub answers : x.answer ≡ y.answer
  pub elected : x.elected ≡ y.elected
  pub besides : x.besides ≡ y.besides
  pub stores : AlikeButHolders x.words y.words

-- on every two well-formed stores that differ in holders alone
abbrev pub Uninfluenced : {A X : Type 0} → (List ℕ → Outcome A X) → Type 0
Uninfluenced call = (w v : List ℕ) → well_formed w ≡ true → well_formed v ≡ true → AlikeButHolders w v
    → SameButHolders (call w) (call v)
