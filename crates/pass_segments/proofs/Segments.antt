-- A segment of a pass on words: its elected stand in the list, completed, and execute.
use Prim.Native.Nat.{ℕ, ◌+◌, ◌≤◌}
use mathlib.Core.List.{List, map, map-map}
use mathlib.Core.Path.{◌≡◌, refl, sym, ap, ◌∙◌}
use native.Mathlib.Omega.{arith}
use lib.ListN.{length, get_or, length-map}
use lib.Seq.{sets}
use Rattle.book.proofs.Walks.{segment_points, points_count}
use Rattle.book.specs.Book.{Book, pending_count}
use Rattle.book.specs.Calls.{elected_entry, elected_entries, evaluated_in, executed_in}
use Rattle.book.specs.Evaluation.{Fill, segment}
use Rattle.book.specs.Script.{executed}
use Rattle.book.specs.Sizes.{pending_place}
use Rattle.book.specs.declared.Elected.{Elected}
use Rattle.book.specs.declared.PrintSegment.{PrintSegment}
use Rattle.book.specs.declared.Settings.{Settings}
use Rattle.listing.proofs.Sets.{sets_over}
use Rattle.book.specs.Entries.{elected_words}
use Rattle.listing.specs.ChainEntries.{fill_words}
use Rattle.pending_stops.specs.Stored.{Stored}
use Rattle.points.proofs.PointsOnWords.{Does}
use Rattle.script.proofs.Executions.{flags-written}
use Rattle.script.specs.Execute.{pending_word, Flags}
use Rattle.script.specs.Queue.{Enqueued}
use Rattle.book.proofs.Passes.{entries_length}

module _ (settings : Settings) (prints : PrintSegment) where
  -- the elected of the segment
  abbrev pub entries_in : Book → List Elected
  entries_in b = elected_entries settings (evaluated_in settings prints b)

  -- as many as fills
  -- those that leave and those that stay
  pub entries_count : (b : Book)
      → pending_count b.slots ≡ pending_count (evaluated_in settings prints b).book.slots + length (entries_in b)
  entries_count b = rw (entries_length settings prints b)
      (points_count settings.kill (segment_points settings.kill prints b))

-- the last word of an elected entry
pub last_word : (e : Elected) → get_or (elected_words e) pending_place 0 ≡ pending_word e
unfolding elected_words pending_word
last_word e = refl

-- the fills of the list k, from one place to another, become entries
abbrev pub Completes : Settings → ℕ → List ℕ → List (List ℕ) → List (List ℕ) → ℕ → ℕ → Type 0
Completes settings n v k j from to =
    (b : Book) (r : List ℕ) (l : List (List ℕ)) (fs : List Fill) → Stored n v b r → k ≡ sets l from (map fill_words fs)
    → to ≡ from + length fs
    → j ≡ sets k from (map (λ f. elected_words (elected_entry settings b f)) fs)

-- the entries of a list execute
abbrev pub Executes : List (List ℕ) → ℕ → ℕ → List ℕ → List PrintSegment → ℕ → List PrintSegment → ℕ → ℕ → Type 0
Executes list from to script queue tail queue' used tail' =
    (es : List Elected) → Flags list from es → to ≡ from + length es
    → (used ≡ (executed script es).used) × Enqueued (executed script es).segments queue tail queue' tail'

module _ (settings : Settings) (prints : PrintSegment) {n : ℕ} {w v : List ℕ} (l k : List (List ℕ)) (at moves end : ℕ)
    (does : Does (segment settings.kill prints) n w v l k at moves end) {b : Book} {r : List ℕ}
    (st : Stored n w b r) where
  pub entries_end : end ≡ at + length (entries_in settings prints b)
  entries_end = rw (entries_length settings prints b) (does b r st).1

  -- there is room for them
  pub entries_inside : (room : ℕ) → at + pending_count b.slots ≤ room → end ≤ room
  entries_inside room h = omega (arith, h, entries_end, entries_count settings prints b)

  module _ (j : List (List ℕ)) (completes : Completes settings n v k j at end) where
    pub entries_listed : j ≡ sets l at (map elected_words (entries_in settings prints b))
    unfolding elected_entries
    entries_listed =
        let fs = (evaluated_in settings prints b).fills in
        let after = (evaluated_in settings prints b).book in
        let full : Fill → List ℕ = λ f. elected_words (elected_entry settings after f) in
        completes after r l fs (does b r st).3 (does b r st).2 (does b r st).1
        ∙ ap (λ m. sets m at (map full fs)) (does b r st).2
        ∙ sets_over (map fill_words fs) (map full fs) l at (length-map fs fill_words ∙ sym (length-map fs full))
        ∙ ap (sets l at) (sym (map-map elected_words (elected_entry settings after) fs))

    pub entries_flags : end ≤ length l → Flags j at (entries_in settings prints b)
    entries_flags h = rw entries_listed
        (flags-written elected_words last_word l at (entries_in settings prints b) (omega (arith, h, entries_end)))

-- the words w become v, the list l, from a place on, k, and the queue's list queue', as the segment does it in a pass;
-- answered are the moves, where the list goes on, the script entries used and the tail
abbrev pub SegmentPasses : Settings → PrintSegment → List ℕ → ℕ → List ℕ → List ℕ → List (List ℕ) → List (List ℕ) → ℕ
    → List PrintSegment → ℕ → List PrintSegment → ℕ → ℕ → ℕ → ℕ → Type 0
SegmentPasses settings prints script n w v l k at queue tail queue' moves end used tail' =
    (b : Book) (r : List ℕ) → Stored n w b r
    → (moves ≡ length (evaluated_in settings prints b).moved) × (end ≡ at + length (entries_in settings prints b))
    × (used ≡ (executed_in settings script prints b).used)
    × Enqueued (executed_in settings script prints b).segments queue tail queue' tail'
    × (k ≡ sets l at (map elected_words (entries_in settings prints b)))
    × Stored n v (evaluated_in settings prints b).book r

pub segment-passed : (settings : Settings) (prints : PrintSegment) {n : ℕ} {w v : List ℕ} (l k : List (List ℕ))
    (at moves end : ℕ)
    → Does (segment settings.kill prints) n w v l k at moves end → (j : List (List ℕ))
    → Completes settings n v k j at end → end ≤ length l
    → (script : List ℕ) (queue : List PrintSegment) (tail : ℕ) (queue' : List PrintSegment) (used tail' : ℕ)
    → Executes j at end script queue tail queue' used tail'
    → SegmentPasses settings prints script n w v l j at queue tail queue' moves end used tail'
segment-passed settings prints l k at moves end does j completes h script queue tail queue' used tail' executes b r st =
    let ends = entries_end settings prints l k at moves end does st in
    let (uses, adds) = executes (entries_in settings prints b)
    (entries_flags settings prints l k at moves end does st j completes h) ends in (
      (does b r st).0,
      ends,
      uses,
      adds,
      entries_listed settings prints l k at moves end does st j completes,
      (does b r st).3,
    )
