-- One turn of the loop over a signature's letters, and its two ends.
use Prim.Native.Nat.{ℕ, ◌+◌, ◌≤◌, ◌<◌}
use mathlib.Core.Path.{◌≡◌, refl, sym, ap, ◌∙◌}
use mathlib.Core.Bool.{Bool, true, false, cond}
use mathlib.Core.List.{List, []}
use native.Mathlib.Numerals.{add-one}
use borrow.Author.Tests.{eq-eqb, ne_eqb}
use lib.Dec.{eqb}
use lib.ListN.{length, drop, get_or, drop_of_length-le}
use lib.Seq.{drop-cons, sets}
use Rattle.text_words.specs.Words.{word_start, word_end}
use Rattle.text_numbers.specs.Steps.{values_of}
use Rattle.text_numbers.specs.declared.Step.{Step}
use Rattle.sheet_arguments.specs.Arguments.{argument_at}
use Rattle.sheet_signatures.specs.Signatures.{Arguments, arguments, behind, ended, arguments_from, extra_word}
use Rattle.sheet_signatures.proofs.Putting.{sets_append}

-- What is left, put behind what is there, is the whole.
pub record Left (values : List ℕ) (next : ℕ) (rest : Arguments) (old : List ℕ) (whole : Arguments) : Type 0 where
  pub fault : rest.fault ≡ whole.fault
  pub column : rest.column ≡ whole.column
  pub put : sets values next rest.values ≡ sets old 0 whole.values

pub left_all : (old : List ℕ) (whole : Arguments) → Left old 0 whole old whole
left_all old whole = record { fault = refl; column = refl; put = refl }

turn : (signature line : List ℕ) (i at : ℕ) (s : Step) → i < length signature → s ≡ argument_at (get_or signature i 0) line at → s.fault ≡ 0
    → arguments_from (drop i signature) line at ≡ behind (values_of s) (arguments_from (drop (i + 1) signature) line s.next)
unfolding arguments_from
turn signature line i at s h e f = rw (add-one, drop-cons signature i 0 h) (simp (sym e, eq-eqb _ _ f))

at_fault : (signature line : List ℕ) (i at : ℕ) (s : Step) → i < length signature → s ≡ argument_at (get_or signature i 0) line at → (s.fault ≡ 0 → ⊥)
    → arguments_from (drop i signature) line at ≡ arguments s.fault s.column []
unfolding arguments_from
at_fault signature line i at s h e f = rw (drop-cons signature i 0 h) (simp (sym e, ne_eqb _ _ f))

at_end : (signature line : List ℕ) (i at : ℕ) → length signature ≤ i → arguments_from (drop i signature) line at ≡ ended line at
unfolding arguments_from
at_end signature line i at h = rw (drop_of_length-le signature {i = i} h)

-- behind the last argument nothing is put
no_values : (b : Bool) (k : ℕ) → (cond b (arguments 0 0 []) (arguments extra_word k [])).values ≡ []
no_values true k = refl
no_values false k = refl

ended_values : (line : List ℕ) (at : ℕ) → (ended line at).values ≡ []
unfolding ended
ended_values line at = no_values (eqb (word_start line at) (word_end line at)) (word_start line at + 1)

module _ (signature line : List ℕ) (i at : ℕ) (old values : List ℕ) (next : ℕ) (whole : Arguments) (left : Left values next (arguments_from (drop i signature) line at) old whole) where
  pub left_turn : (s : Step) (after : List ℕ) (then : ℕ) → i < length signature → s ≡ argument_at (get_or signature i 0) line at → s.fault ≡ 0
      → after ≡ sets values next (values_of s) → then ≡ next + length (values_of s) → Left after then (arguments_from (drop (i + 1) signature) line s.next) old whole
  left_turn s after then h e f p q =
      let rest = arguments_from (drop (i + 1) signature) line s.next in
      let t = turn signature line i at s h e f in
      record {
        fault = sym (ap (λ (a : Arguments). a.fault) t) ∙ left.fault;
        column = sym (ap (λ (a : Arguments). a.column) t) ∙ left.column;
        put = rw (p, q) (sets_append values next (values_of s) rest.values) ∙ sym (ap (λ (a : Arguments). sets values next a.values) t) ∙ left.put;
      }

  pub left_fault : (s : Step) → i < length signature → s ≡ argument_at (get_or signature i 0) line at → (s.fault ≡ 0 → ⊥)
      → Left values next (arguments s.fault s.column []) old whole
  left_fault s h e f = rw (at_fault signature line i at s h e f) at left

  pub left_end : length signature ≤ i → Left values next (ended line at) old whole
  left_end h = rw (at_end signature line i at h) at left

  pub left_nothing : length signature ≤ i → values ≡ sets old 0 whole.values
  left_nothing h = rw (ended_values line at) at (left_end h).put
