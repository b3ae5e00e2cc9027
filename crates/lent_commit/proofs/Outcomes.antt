-- A commit with records in the place of words, of either list: their words, with one entry more than the store can list,
-- are the same as what it lists exactly where the records are.
use Prim.Native.Nat.{ℕ, ◌+◌, ◌*◌, min}
use mathlib.Core.Path.{◌≡◌, refl, ap, ◌∙◌}
use mathlib.Core.Bool.{Bool, ◌&&◌}
use mathlib.Core.List.{List, map}
use native.Mathlib.Omega.{arith}
use lib.ListN.{length, take, length-map}
use lib.Seq.{take_at, length-take-le}
use Rattle.book.proofs.AskedCommitted.{given, shifted, commit_tests}
use Rattle.book.proofs.Lists.{all_of, same_by_cut, same_by_mapped}
use Rattle.book.specs.Calls.{written}
use Rattle.book.specs.Commit.{same_moved, same_elected, same_records, same_words, commit_call}
use Rattle.book.specs.Entries.{elected_words, moved_words}
use Rattle.book.specs.Lists.{same_by, same_list}
use Rattle.book.specs.Sizes.{most_records}
use Rattle.book.specs.Store.{StoreOutcome}
use Rattle.book.specs.declared.Counts.{Counts}
use Rattle.book.specs.declared.Elected.{Elected}
use Rattle.book.specs.declared.Moved.{Moved}
use Rattle.book.specs.declared.PrintSegment.{PrintSegment}
use Rattle.book.specs.declared.Settings.{Settings}
use Rattle.copying.proofs.Copied.{take_most}
use Rattle.entry_words.proofs.Handed.{handed_same}
use Rattle.entry_words.specs.Handed.{handed_words}
use Rattle.evaluation.proofs.Rooms.{UuidChild, segment_most}
use Rattle.lent_commit.specs.Handed.{same_elected_records}

-- the first words of an array are those of the first entries of a list, where as many were put there as the list has, but
-- no more than the most
pub put_first : {A : Type 0} (words : A → List ℕ) (list : List A) (most room : ℕ) (array new : List (List ℕ))
    → room ≡ min (length list) most → new ≡ written (map words (take room list)) array
    → take room new ≡ map words (take most list)
unfolding written
put_first words list most room array new room-is put =
    let least : room ≡ min most (length list) = omega arith in
    ap (take room) put
    ∙ take_at (map words (take room list)) _ room (length-map (take room list) words ∙ length-take-le room list (omega arith))
    ∙ ap (map words) (ap (λ (i : ℕ). take i list) least ∙ take_most most list)

-- both lists as words; the elected as records; both as records
abbrev by_words : Settings → PrintSegment → List (List ℕ) → List (List ℕ) → List ℕ → StoreOutcome Counts
by_words s prints e m w = commit_call (same_words e m) s prints w

abbrev by_elected : Settings → PrintSegment → List (List ℕ) → List Elected → List ℕ → StoreOutcome Counts
by_elected s prints m e w = commit_call (same_elected_records e m) s prints w

abbrev by_records : Settings → PrintSegment → List Elected → List Moved → List ℕ → StoreOutcome Counts
by_records s prints e m w = commit_call (same_records e m) s prints w

module _ (s : Settings) (prints : PrintSegment) (w : List ℕ) where
  pub elected_read : (m : List (List ℕ)) (e : List Elected)
      → by_words s prints (map handed_words (take (most_records + 1) e)) m w ≡ by_elected s prints m e w
  unfolding same_words same_elected_records
  elected_read m e = commit_tests s prints w (same_words (map handed_words (take (most_records + 1) e)) m) (same_elected_records e m)
      (λ formed.
      let most = segment_most s prints w formed in
      ap (λ (b : Bool). b && same_by same_list m (map moved_words (shifted s prints w)))
      (same_by_mapped same_elected same_list handed_words elected_words UuidChild (λ x y u. handed_same x y u)
      (take (most_records + 1) e) (given s prints w) most.1
      ∙ same_by_cut same_elected (most_records + 1) e (given s prints w) (omega (arith, most.0))))

  pub moved_read : (e : List Elected) (m : List Moved)
      → by_elected s prints (map moved_words (take (2 * most_records + 1) m)) e w ≡ by_records s prints e m w
  unfolding same_elected_records same_records same_moved
  moved_read e m = commit_tests s prints w (same_elected_records e (map moved_words (take (2 * most_records + 1) m))) (same_records e m)
      (λ formed.
      let most = segment_most s prints w formed in
      ap (λ (b : Bool). same_by same_elected e (given s prints w) && b)
      (same_by_mapped same_moved same_list moved_words moved_words (λ (x : Moved). Unit {0}) (λ x y u. refl)
      (take (2 * most_records + 1) m) (shifted s prints w) (all_of {P = λ (x : Moved). Unit {0}} (λ x. tt) (shifted s prints w))
      ∙ same_by_cut same_moved (2 * most_records + 1) m (shifted s prints w) (omega (arith, most.2))))
