-- A segment on the part of the words that holds the store is one on all of them.
use Prim.Native.Nat.{ℕ, min}
use mathlib.Core.Path.{◌≡◌, ap, ap₂, ◌∙◌}
use mathlib.Core.List.{List, ◌++◌, map}
use native.Mathlib.Omega.{arith}
use lib.ListN.{length, take, drop}
use lib.Seq.{take_at}
use Rattle.book.proofs.WordsBehind.{segment_part}
use Rattle.error.specs.Answer.{told_answer}
use Rattle.book.specs.Calls.{SegmentOutcome, written, segment_call}
use Rattle.book.specs.Entries.{elected_words, moved_words}
use Rattle.book.specs.Sizes.{most_words}
use Rattle.book.specs.declared.Elected.{Elected}
use Rattle.book.specs.declared.Moved.{Moved}
use Rattle.book.specs.declared.PrintSegment.{PrintSegment}
use Rattle.book.specs.declared.Settings.{Settings}
use Rattle.copying.proofs.Copied.{drop_most}
use Rattle.std.specs.Prelude.{Result}
use Rattle.book.specs.declared.Counts.{Counts}
use Rattle.error.specs.declared.Refusal.{Refusal}

module _ (s : Settings) (prints : PrintSegment) (w part : List ℕ) (elected moved : List (List ℕ)) (many : ℕ)
    (is : part ≡ take most_words w) (counted : many ≡ min most_words (length w)) where
  abbrev on : List ℕ → SegmentOutcome
  on v = segment_call s prints v (length elected) (length moved)

  -- r it answers, u are the words of the part after it, before others, and e and m the lists
  pub part_copied : (r : Result Counts Refusal) (u rest : List ℕ) (e m : List (List ℕ)) → length u ≡ many
      → (told_answer r ≡ (on part).answer) × (u ≡ (on part).words)
      × (e ≡ written (map elected_words (on part).elected) elected) × (m ≡ written (map moved_words (on part).moved) moved)
      → (told_answer r ≡ (on w).answer) × (many ≡ min most_words (length w))
      × (take many (u ++ rest) ++ drop many w ≡ (on w).words)
      × (e ≡ written (map elected_words (on w).elected) elected) × (m ≡ written (map moved_words (on w).moved) moved)
  part_copied r u rest e m long h =
      let same = segment_part s prints w most_words (length elected) (length moved) (omega arith) in
      let cut : on part ≡ on (take most_words w) = ap on is in (
        h.0 ∙ ap (λ o. o.answer) cut ∙ same.answer,
        counted,
        ap₂ (λ (a b : List ℕ). a ++ b)
            (take_at u rest many long ∙ h.1 ∙ ap (λ o. o.words) cut)
            (ap (λ (n : ℕ). drop n w) counted ∙ drop_most most_words w)
            ∙ same.words,
        h.2 ∙ ap (λ (l : List Elected). written (map elected_words l) elected) (ap (λ o. o.elected) cut ∙ same.elected),
        h.3 ∙ ap (λ (l : List Moved). written (map moved_words l) moved) (ap (λ o. o.moved) cut ∙ same.moved),
      )
