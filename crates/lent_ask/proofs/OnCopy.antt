-- A segment on a copy: on the first words of an array of zeros, to whose start a store was copied, a segment answers and
-- lists what it does on the store, if the array has room for the largest.
use Prim.Native.Nat.{ℕ, ◌≤◌, min}
use mathlib.Core.Path.{◌≡◌, ap, ◌∙◌}
use mathlib.Core.List.{List, ◌++◌}
use lib.ListN.{length, take, drop, replicate, length-replicate}
use Rattle.book.proofs.WordsBehind.{segment_part}
use Rattle.book.specs.Calls.{SegmentOutcome, segment_call}
use Rattle.book.specs.Sizes.{most_words}
use Rattle.book.specs.declared.PrintSegment.{PrintSegment}
use Rattle.book.specs.declared.Settings.{Settings}
use Rattle.copying.proofs.Copied.{copied_start}

-- an array of zeros
abbrev zeros : ℕ → List ℕ
zeros n = replicate n 0

-- the same answer and lists
pub record Alike (o whole : SegmentOutcome) : Type 0 where
  pub answer : o.answer ≡ whole.answer
  pub elected : o.elected ≡ whole.elected
  pub moved : o.moved ≡ whole.moved

pub on_copy : (settings : Settings) (prints : PrintSegment) (w : List ℕ) (e m n many : ℕ) (copied : List ℕ)
    → most_words ≤ n → many ≡ min (length (zeros n)) (length w)
    → copied ≡ take many w ++ drop many (zeros n)
    → Alike (segment_call settings prints (take many copied) e m) (segment_call settings prints w e m)
on_copy settings prints w e m n many copied enough counted is =
    let part = segment_part settings prints w n e m enough in
    let cut : segment_call settings prints (take many copied) e m ≡ segment_call settings prints (take n w) e m =
    ap (λ (v : List ℕ). segment_call settings prints v e m)
    (copied_start (zeros n) w copied many counted is
    ∙ ap (λ (i : ℕ). take i w) (length-replicate {A = ℕ} n 0)) in
    record {
      answer = ap (λ o. o.answer) cut ∙ part.answer;
      elected = ap (λ o. o.elected) cut ∙ part.elected;
      moved = ap (λ o. o.moved) cut ∙ part.moved;
    }
