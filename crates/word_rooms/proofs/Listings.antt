-- The entries of the two lists of records read back from their words: of any list, and of the local array to whose first
-- places a call wrote the words of the entries that it lists.
use Prim.Native.Nat.{ℕ, ◌≤◌, min}
use native.Mathlib.Omega.{arith}
use mathlib.Core.Path.{◌≡◌, refl, ap, ◌∙◌}
use mathlib.Core.List.{List, [], ◌∷◌, ◌++◌, map}
use lib.ListN.{length, take, drop, length-append, length-map, length-replicate, length-take, replicate}
use Rattle.book.specs.Calls.{written}
use Rattle.book.specs.Entries.{elected_words, moved_words}
use Rattle.book.specs.Lists.{All}
use Rattle.book.specs.declared.Elected.{Elected}
use Rattle.book.specs.declared.Moved.{Moved}
use Rattle.entry_records.proofs.EntryWords.{elected_read, moved_read}
use Rattle.evaluation.proofs.Rooms.{UuidChild, Listed}
use Rattle.walks.proofs.Written.{written_back}
pub use Rattle.entry_records.specs.Records.{elected_of, moved_of}

pub entries_read : (es : List Elected) → All UuidChild es → map elected_of (map elected_words es) ≡ es
entries_read [] u = refl
entries_read (e ∷ es) u =
    ap (◌∷ map elected_of (map elected_words es)) (elected_read e u.0) ∙ ap (e ∷◌) (entries_read es u.1)

pub moves_read : (ms : List Moved) → map moved_of (map moved_words ms) ≡ ms
moves_read [] = refl
moves_read (m ∷ ms) = ap (◌∷ map moved_of (map moved_words ms)) (moved_read m) ∙ ap (m ∷◌) (moves_read ms)

-- ---- a call that lists entries of a kind, each with its words, if it is asked with room for so many
-- It lists as many entries as it counts, no more than there is room for, which are read back from their words; more
-- room than the most changes nothing.
pub record Lists {A O : Type 0} (words : A → List ℕ) (of : List ℕ → A) (most : ℕ) (count : O → ℕ)
    (entries : O → List A) (call : ℕ → O) : Type 0 where
  pub listed : (room : ℕ) → Listed (count (call room)) (entries (call room)) room
  pub back : (room : ℕ) → map of (map words (entries (call room))) ≡ entries (call room)
  pub cut : (room : ℕ) → call (min room most) ≡ call room

-- Such a call was lent the first places of an array, as many as a list has, but no more than the most, and left `new`
-- there. It did what it does with the room of the list; and as many entries as it counted, which the list and the array
-- have, are read from the array to the start of the list.
pub record Reads {A O : Type 0} (of : List ℕ → A) (count : O → ℕ) (entries : O → List A) (call : ℕ → O)
    (has room : ℕ) (array new : List (List ℕ)) : Type 0 where
  pub same : call (length (take room array)) ≡ call has
  pub fits : (many : ℕ) → many ≡ count (call (length (take room array)))
      → (many ≤ has) × (many ≤ length (new ++ drop room array))
  pub filled : (many : ℕ) (list after : List A) → after ≡ written (map of (take many (new ++ drop room array))) list
      → many ≡ count (call (length (take room array))) → after ≡ written (entries (call has)) list

pub reads : {A O : Type 0} {words : A → List ℕ} {of : List ℕ → A} {most : ℕ} {count : O → ℕ} {entries : O → List A}
    {call : ℕ → O} → Lists words of most count entries call → (has : ℕ) (blank : List ℕ) {room : ℕ}
    {new : List (List ℕ)} → room ≡ min has most
    → new ≡ written (map words (entries (call (length (take room (replicate most blank)))))) (take room (replicate most blank))
    → Reads of count entries call has room (replicate most blank) new
unfolding written
reads {A} {words = words} {of} {most} {count} {entries} {call} lists has blank {room} {new} room-is left =
    let array : List (List ℕ) = replicate most blank in
    let size : length (take room array) ≡ min has most =
    length-take room array ∙ omega (arith, length-replicate most blank) in
    let same : call (length (take room array)) ≡ call has = ap call size ∙ lists.cut has in
    let now : new ≡ written (map words (entries (call has))) (take room array) =
    left ∙ ap (λ o. written (map words (entries o)) (take room array)) same in
    let as_many = λ (many : ℕ) (counted : many ≡ count (call (length (take room array)))).
    counted ∙ ap count same ∙ (lists.listed has).counted in
    record {
      same = same;
      fits = λ many counted.
          let size : many ≡ length (entries (call has)) = as_many many counted in (
            omega (arith, (lists.listed has).few),
            rw now (omega (arith, length-append {A = List ℕ}, length-map (entries (call has)) words)),
          );
      filled = λ many list after is counted.
          is ∙ ap (λ (es : List A). written es list) (rw (now, as_many many counted)
          (written_back words of (entries (call has)) (lists.back has) (take room array) (drop room array)));
    }
