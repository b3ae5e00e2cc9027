-- Outcomes that are decided alike, as calls on lent words answer and leave them.
use Prim.Native.Nat.{ℕ}
use mathlib.Core.Path.{◌≡◌, refl, sym, ap, ◌∙◌}
use mathlib.Core.Bool.{cond}
use mathlib.Core.List.{List, [], ◌∷◌, map}
use lib.ListN.{length, take, drop, length-map}
use lib.Seq.{take_at}
use Rattle.error.specs.Answer.{Answer}
use Rattle.pricelevel.specs.Identity.{kind_number}
use Rattle.pricelevel.specs.Side.{side_number}
use Rattle.stop_protection.specs.Collar.{limit_present, limit_high, limit_low}
use Rattle.book.specs.Calls.{written, WalkOutcome}
use Rattle.book.specs.Entries.{elected_words}
use Rattle.book.specs.Runs.{Likeness, likeness, DecidedAlike}
use Rattle.book.specs.declared.Counts.{Counts}
use Rattle.book.specs.declared.Elected.{Elected}
use Rattle.both_ways.specs.Alike.{alike_words, Decided}

taken-written : {A : Type 0} (xs l : List A) (k : ℕ) → length xs ≡ k → take k (written xs l) ≡ xs
unfolding written
taken-written xs l k e = take_at xs (drop (length xs) l) k e

-- the words of what is compared
like_words : Likeness → List ℕ
like_words e =
    kind_number e.id.kind ∷ e.id.high ∷ e.id.low ∷ side_number e.side ∷ e.stop.0 ∷ e.quantity.0 ∷ e.seq.0
    ∷ limit_present e.limit ∷ limit_high e.limit ∷ limit_low e.limit ∷ e.child.high ∷ e.child.low ∷ cond e.pending 1 0 ∷ []

alike_like : (e : Elected) → alike_words (elected_words e) ≡ like_words (likeness e)
unfolding alike_words elected_words likeness like_words
alike_like e = refl

alike-entries : (xs : List Elected) → map alike_words (map elected_words xs) ≡ map like_words (map likeness xs)
alike-entries [] = refl
alike-entries (x ∷ xs) = rw (alike_like x, alike-entries xs)

-- the entries that a call lists, as many as it elected, are the beginning of the list
listed_alike : (xs : List Elected) (l : List (List ℕ)) (k : ℕ) → length xs ≡ k
    → map alike_words (take k (written (map elected_words xs) l)) ≡ map like_words (map likeness xs)
listed_alike xs l k e =
    ap (λ (t : List (List ℕ)). map alike_words t)
    (taken-written (map elected_words xs) l k (length-map xs elected_words ∙ e)) ∙ alike-entries xs

-- a call answers, and leaves of its store and of its list of the elected
pub record Leaves (o : WalkOutcome) (lent : List (List ℕ)) (a : Answer Counts) (w : List ℕ) (l : List (List ℕ)) : Type 0 where
  pub answers : a ≡ o.answer
  pub words : w ≡ o.words
  pub lists : l ≡ written (map elected_words o.elected) lent

module _ (o r : WalkOutcome) (d : DecidedAlike o r) where
  run_listed : length r.elected ≡ d.elected
  run_listed =
      sym (length-map r.elected likeness) ∙ ap length (sym d.alike) ∙ length-map o.elected likeness ∙ d.listed

  pub decided_words : (l m : List (List ℕ)) (a b : Answer Counts) (w v : List ℕ) (l' m' : List (List ℕ)) → Leaves o l a w l'
      → Leaves r m b v m'
      → Decided a b w v l' m'
  decided_words l m a b w v l' m' h k = record {
    elected = d.elected;
    moves = d.moves;
    steps = d.steps;
    shorter_answer = h.answers ∙ d.shorter_answer;
    run_answer = k.answers ∙ d.run_answer;
    alike =
        ap (λ (t : List (List ℕ)). map alike_words (take d.elected t)) h.lists
        ∙ listed_alike o.elected l d.elected d.listed
        ∙ ap (λ (t : List Likeness). map like_words t) d.alike
        ∙ sym (listed_alike r.elected m d.elected run_listed)
        ∙ sym (ap (λ (t : List (List ℕ)). map alike_words (take d.elected t)) k.lists);
    stores = h.words ∙ d.stores ∙ sym k.words;
  }
