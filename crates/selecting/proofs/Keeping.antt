-- Those of the first k numbers of a list that pass a test, kept at its start: m of the i that have been looked at.
use Prim.Native.Nat.{ℕ, ◌+◌, ◌≤◌, ◌<◌}
use mathlib.Core.Path.{◌≡◌, refl, sym, ap, ◌∙◌}
use mathlib.Core.Bool.{Bool, true, false}
use mathlib.Core.List.{List, [], ◌∷◌, ◌++◌, append-nil, append_assoc}
use native.Mathlib.Numerals.{add-one}
use native.Mathlib.Omega.{arith}
use lib.ListN.{length, get_or, take, drop, set, length-set}
use lib.Seq.{length-take-le, take-suc-set, get_or-set_other, slice_empty, slice-cons}
use Rattle.book.specs.Lists.{filter}
use Rattle.by_sequence.specs.Begins.{Begins}
use Rattle.chains.specs.Records.{Record}
use Rattle.merging.proofs.Records.{named_among}
use Rattle.merging.specs.Named.{Named}

pub record Keeping (test : ℕ → Bool) (from : List ℕ) (k : ℕ) (o : List ℕ) (m i : ℕ) : Type 0 where
  pub few : m ≤ i
  pub most : i ≤ k
  pub size : length o ≡ length from
  pub rest : (j : ℕ) → i ≤ j → get_or o j 0 ≡ get_or from j 0
  pub done : take m o ++ filter test (drop i (take k from)) ≡ filter test (take k from)

module _ {test : ℕ → Bool} {from : List ℕ} {k : ℕ} (room : k ≤ length from) where
  pub keeping_start : Keeping test from k from 0 0
  keeping_start = record { few = omega arith; most = omega arith; size = refl; rest = λ j h. refl; done = refl }

  module _ {o : List ℕ} {m i : ℕ} (s : Keeping test from k o m i) (h : i < k) where
    next : drop i (take k from) ≡ get_or o i 0 ∷ drop (i + 1) (take k from)
    next = rw (add-one i, s.rest i (omega arith)) (slice-cons i k from 0 h room)

    pub keeping_record : {n : ℕ} {w : List ℕ} → Named n w (take k from) → Record n w (get_or o i 0)
    keeping_record named = rw (s.rest i (omega arith)) (named_among from k i room h named)

    pub keeping-passed : test (get_or o i 0) ≡ false → Keeping test from k o m (i + 1)
    unfolding filter
    keeping-passed f = record {
      few = omega (arith, s.few);
      most = omega arith;
      size = s.size;
      rest = λ j l. s.rest j (omega arith);
      done = rw f at (rw next at s.done);
    }

    pub keeping_taken : test (get_or o i 0) ≡ true → Keeping test from k (set o m (get_or o i 0)) (m + 1) (i + 1)
    unfolding filter
    keeping_taken f =
        let x = get_or o i 0 in
        let after = filter test (drop (i + 1) (take k from)) in
        let d : take m o ++ x ∷ after ≡ filter test (take k from) = rw f at (rw next at s.done) in
        let more : take (m + 1) (set o m x) ++ after ≡ take m o ++ x ∷ after =
        rw (add-one m, take-suc-set o m x (omega (arith, s.few, s.size))) (append_assoc (take m o) (x ∷ []) after) in
        record {
          few = omega (arith, s.few);
          most = omega arith;
          size = length-set o m x ∙ s.size;
          rest = λ j l. get_or-set_other o m j x 0 (omega (arith, s.few)) ∙ s.rest j (omega arith);
          done = more ∙ d;
        }

  pub keeping_end : {o : List ℕ} {m i : ℕ} → Keeping test from k o m i → k ≤ i → Begins o m (filter test (take k from))
  unfolding filter
  keeping_end {o} {m} {i} s h =
      let e : i ≡ k = omega (arith, s.most) in
      let none : drop i (take k from) ≡ [] = rw e (slice_empty k from) in
      let places : take m o ≡ filter test (take k from) = sym (append-nil (take m o)) ∙ rw none at s.done in
      record {
        count = ap length (sym places) ∙ length-take-le m o (omega (arith, s.few, s.most, s.size));
        places = places;
      }
