-- A pass on words: the pass over a queue, and the loop that takes the queue's segments.
use Prim.Native.Nat.{ℕ, suc, ◌+◌, ◌-◌, ◌*◌, ◌≤◌, ◌<◌}
use mathlib.Core.Bool.{true}
use mathlib.Core.List.{List, [], ◌∷◌, ◌++◌, map, append-nil, append_assoc}
use mathlib.Core.Logic.{◌≢◌}
use mathlib.Core.Path.{◌≡◌, refl, sym, ap, ◌∙◌}
use native.Mathlib.Nat.{zero-add}
use native.Mathlib.Omega.{arith}
use lib.ListN.{length, get_or, replicate, take, drop, length-append, length-drop}
use lib.Seq.{sets, drop-drop}
use Rattle.book.proofs.Execution.{executed_segments}
use Rattle.book.proofs.Passes.{pass_from_empty, pass_from_done, pass_from-step, pass_from_fuel, pass_from-moves}
use Rattle.book.specs.Book.{Book, pending_count}
use Rattle.book.specs.Calls.{Passed, pass_from, pass, evaluated_in, executed_in, script_after, ended, with_segment}
use Rattle.book.specs.Script.{script_formed}
use Rattle.book.specs.Sizes.{most_records, script_entry_length}
use Rattle.book.specs.declared.Elected.{Elected}
use Rattle.book.specs.declared.PrintSegment.{PrintSegment}
use Rattle.book.specs.declared.Settings.{Settings}
use Rattle.book.specs.Entries.{elected_words}
use Rattle.pending_stops.proofs.Found.{count_word}
use Rattle.pending_stops.proofs.Contents.{stored_holds}
use Rattle.pending_stops.specs.Stored.{Stored}
use Rattle.points.proofs.Steps.{stored_few, run_on}
use Rattle.script.proofs.Executions.{executed-within}
use Rattle.script.proofs.ScriptForm.{formed_drop, script_part}
use Rattle.script.proofs.Queue.{queued_sets, queued_next, queued_more, first_of_none, first_of_some, enqueued_length}
use Rattle.script.specs.Queue.{Queued, first_of}
use Rattle.pass_segments.proofs.Segments.{entries_in, entries_count, SegmentPasses}
use Rattle.std.specs.Prelude.{None, Option, Some}

------------------------------------------------------------------------
-- The pass over a queue

-- it has fuel for the queue and the pending stops
abbrev pub queue_pass : Settings → List ℕ → List PrintSegment → Book → Passed
queue_pass settings script q b = pass_from (length q + pending_count b.slots) settings script q b

module _ (settings : Settings) (script : List ℕ) (prints : PrintSegment) where
  pub queue_pass-step : (rest : List PrintSegment) (b : Book) → 1 ≤ pending_count b.slots
      → queue_pass settings script (prints ∷ rest) b ≡ with_segment settings script prints b
      (queue_pass settings (script_after settings script prints b)
      (rest ++ (executed_in settings script prints b).segments) (evaluated_in settings prints b).book)
  queue_pass-step rest b some =
      let count = pending_count b.slots in
      let added = (executed_in settings script prints b).segments in
      let after = (evaluated_in settings prints b).book in
      let fuel : length (prints ∷ rest) + count ≡ suc (length rest + count) = omega arith in
      let one : count ≡ suc (count - 1) = omega (arith, some) in
      let enough : length (rest ++ added) + pending_count after.slots ≤ length rest + count =
      rw length-append (omega
      (arith, executed_segments script (entries_in settings prints b), entries_count settings prints b)) in
      ap (λ i. pass_from i settings script (prints ∷ rest) b) fuel
      ∙ pass_from-step settings (length rest + count) (count - 1) script prints rest b one
      ∙ ap (with_segment settings script prints b)
      (pass_from_fuel settings (length rest + count) (length (rest ++ added) + pending_count after.slots)
      (script_after settings script prints b) (rest ++ added) after
      enough (omega arith))

  pub queue_pass_all : (b : Book) → queue_pass settings script (prints ∷ []) b ≡ pass settings script prints b
  unfolding pass
  queue_pass_all b =
      let fuel : length (prints ∷ []) + pending_count b.slots ≡ suc (pending_count b.slots) = omega arith in
      ap (λ i. pass_from i settings script (prints ∷ []) b) fuel

------------------------------------------------------------------------
-- What is done, and what is to come

-- entries, moves and script entries of earlier segments in front of the rest of a pass
abbrev pub before : List Elected → ℕ → ℕ → Passed → Passed
before es moves used rest = record {
  book = rest.book;
  entries = es ++ rest.entries;
  moves = moves + rest.moves;
  used = used + rest.used;
}

before_none : (o : Passed) → o ≡ before [] 0 0 o
before_none o = λ i. record {
  book = o.book;
  entries = o.entries;
  moves = sym (zero-add o.moves) i;
  used = sym (zero-add o.used) i;
}

before_then : (es fs : List Elected) (m k u v : ℕ) (o : Passed)
    → before es m u (before fs k v o) ≡ before (es ++ fs) (m + k) (u + v) o
before_then es fs m k u v o =
    let moves : m + (k + o.moves) ≡ m + k + o.moves = omega arith in
    let used : u + (v + o.used) ≡ u + v + o.used = omega arith in
    λ i. record { book = o.book; entries = sym (append_assoc es fs o.entries) i; moves = moves i; used = used i }

-- of the pass over the queue q from the book b, the entries es are elected, and the pass over the queue p from the book
-- c, on the script behind the used entries, is to come
pub record Underway (settings : Settings) (script : List ℕ) (n : ℕ) (v : List ℕ) (l k : List (List ℕ)) (queue : List PrintSegment)
    (head tail moves at used : ℕ)
    (b : Book) (r : List ℕ) (q : List PrintSegment) (c : Book) (p : List PrintSegment)
    (es : List Elected) : Type 0 where
  pub stored : Stored n v c r
  pub queued : Queued queue head tail p
  pub ends : at ≡ 0 + length es
  pub listed : k ≡ sets l 0 (map elected_words es)
  pub within : script_entry_length * used ≤ length script
  pub rest : queue_pass settings script q b ≡ before es moves used
      (queue_pass settings (drop (script_entry_length * used) script) p c)
  pub room : tail + pending_count c.slots ≤ length queue
  pub count : at + pending_count c.slots ≡ pending_count b.slots

-- the loop: so it is from every book and queue that the words at its start stand for, and there are such a book and
-- queue, with room for its stops in the list
pub record Passes (settings : Settings) (script : List ℕ) (n : ℕ) (w : List ℕ) (l : List (List ℕ)) (start : List PrintSegment)
    (first last : ℕ)
    (v : List ℕ) (k : List (List ℕ)) (queue : List PrintSegment) (head tail moves at used : ℕ) : Type 0 where
  pub formed : script_formed script ≡ true
  pub some : (b : Book) × (r : List ℕ) × (prints : PrintSegment) × Stored n w b r
      × Queued start first last (prints ∷ []) × (pending_count b.slots ≤ length l)
  pub words_length_same : length v ≡ length w
  pub list_length_same : length k ≡ length l
  pub same_queue : length queue ≡ length start
  pub goes : (b : Book) (r : List ℕ) (q : List PrintSegment) → Stored n w b r → Queued start first last q
      → (c : Book) × (p : List PrintSegment) × (es : List Elected)
      × Underway settings script n v l k queue head tail moves at used b r q c p es

-- the next segment of the queue is told
abbrev pub Tells : Option PrintSegment → List PrintSegment → ℕ → ℕ → Type 0
Tells told queue head tail = (q : List PrintSegment) → Queued queue head tail q → told ≡ first_of q

-- the part of the script that is lent to a segment
abbrev pub lent : List ℕ → ℕ → List ℕ
lent script used = take (length script - script_entry_length * used) (drop (script_entry_length * used) script)

------------------------------------------------------------------------
-- One turn, from one book and queue

module _ {settings : Settings} {script : List ℕ} {n : ℕ} {v : List ℕ} {l k : List (List ℕ)} {queue : List PrintSegment} {head tail moves at used : ℕ} {b : Book} {r : List ℕ}
    {q : List PrintSegment} {c : Book} {p : List PrintSegment} {es : List Elected}
    (u : Underway settings script n v l k queue head tail moves at used b r q c p es) where
  moves_few : {w : List ℕ} → Stored n w b r → moves ≤ (length q + pending_count b.slots) * (2 * most_records)
  moves_few st =
      omega (
        arith,
        ap (λ o. o.moves) u.rest,
        pass_from-moves settings most_records (length q + pending_count b.slots) script q b (stored_few st),
      )

  -- nothing is to come: the queue is empty, or the store
  rest_none : (told : Option PrintSegment) → told ≡ None → Tells told queue head tail
      → queue_pass settings (drop (script_entry_length * used) script) p c ≡ ended c
  rest_none told e tells =
      let z : p ≡ [] = first_of_none p (sym (tells p u.queued) ∙ e) in
      rw z (pass_from_done settings _ (drop (script_entry_length * used) script) c)

  rest_empty : get_or v 1 0 ≡ 0 → queue_pass settings (drop (script_entry_length * used) script) p c ≡ ended c
  rest_empty e = pass_from_empty settings _ (drop (script_entry_length * used) script) p c
      (sym (count_word u.stored) ∙ e)

  underway_last : queue_pass settings (drop (script_entry_length * used) script) p c ≡ ended c
      → (moves ≡ (queue_pass settings script q b).moves) × (at ≡ length (queue_pass settings script q b).entries)
      × (used ≡ (queue_pass settings script q b).used)
      × (k ≡ sets l 0 (map elected_words (queue_pass settings script q b).entries))
      × Stored n v (queue_pass settings script q b).book r
  underway_last none =
      rw (u.rest, none) (
        omega arith,
        rw append-nil (omega (arith, u.ends)),
        omega arith,
        rw append-nil u.listed,
        u.stored,
      )

  module _ {told : Option PrintSegment} {prints : PrintSegment} (is : told ≡ Some prints)
      (tells : Tells told queue head tail) where
    first_told : (rest : List PrintSegment) × (p ≡ prints ∷ rest)
    first_told = first_of_some p prints (sym (tells p u.queued) ∙ is)

    head_inside : head < length queue
    head_inside = let (rest, e) = first_told in omega (arith, ap length e, u.queued.ends, u.queued.room)

    module _ {x : List ℕ} {j : List (List ℕ)} {queue' : List PrintSegment} {m end uses tail' : ℕ} (many : get_or v 1 0 ≢ 0)
        (f : script_formed script ≡ true)
        (does : SegmentPasses settings prints (lent script used) n v x k j at queue tail queue' m end uses tail') where
      underway_next : (d : Book) × (t : List PrintSegment) × (fs : List Elected)
          × Underway settings script n x l j queue' (head + 1) tail' (moves + m) end (used + uses) b r q d t fs
      underway_next =
          let here = drop (script_entry_length * used) script in
          let fs = entries_in settings prints c in
          let run = executed_in settings here prints c in
          let d = (evaluated_in settings prints c).book in
          let (others, e) = first_told in
          let (mv, ends, us, adds, listed, done) =
          rw (script_part script (script_entry_length * used)) at does c r u.stored in
          let few = executed_segments here fs in
          let count = entries_count settings prints c in
          let (ending, list) = run_on elected_words es fs l k j 0 at end u.ends u.listed ends listed in
          let sum : script_entry_length * used + script_entry_length * uses ≡ script_entry_length * (used + uses) =
          omega arith in
          let on : drop (script_entry_length * uses) here ≡ drop (script_entry_length * (used + uses)) script =
          drop-drop (script_entry_length * uses) (script_entry_length * used) script ∙ ap (λ i. drop i script) sum in
          let after : Passed = queue_pass settings (script_after settings here prints c) (others ++ run.segments) d in (
            d,
            others ++ run.segments,
            es ++ fs,
            record {
              stored = done;
              queued = queued_more (queued_next (rw e at u).queued) adds
                  (omega (arith, u.room, adds.ends, few, count));
              ends = ending;
              listed = list;
              within = omega (
                arith,
                us,
                u.within,
                executed-within here fs (formed_drop script used f),
                length-drop (script_entry_length * used) script,
              );
              rest =
                  rw (mv, ← on, us) (u.rest ∙ ap (λ t. before es moves used (queue_pass settings here t c)) e
                  ∙ ap (before es moves used)
                  (queue_pass-step settings here prints others c (omega (arith, many, count_word u.stored)))
                  ∙ before_then es fs moves (length (evaluated_in settings prints c).moved) used run.used after);
              room = rw (enqueued_length adds) (omega (arith, u.room, adds.ends, few, count));
              count = omega (arith, u.count, ends, count);
            },
          )

------------------------------------------------------------------------
-- The loop

-- the places of the queue but the first, at the start
abbrev pub others_at_start : List PrintSegment
others_at_start = replicate most_records (record { prev = None; first = record { 0 = 0 }; last = record { 0 = 0 } })

queued_start : (prints : PrintSegment) (others : List PrintSegment) → Queued (prints ∷ others) 0 1 (prints ∷ [])
queued_start prints others = queued_sets (prints ∷ others) 0 (prints ∷ []) (omega arith)

module _ {settings : Settings} {script : List ℕ} {n : ℕ} {w : List ℕ} {l : List (List ℕ)} where
  pub passes_first : (prints : PrintSegment) (others : List PrintSegment) → most_records ≤ length others
      → script_formed script ≡ true → {b : Book} {r : List ℕ} → Stored n w b r → pending_count b.slots ≤ length l
      → Passes settings script n w l (prints ∷ others) 0 1 w l (prints ∷ others) 0 1 0 0 0
  passes_first prints others many f {b} {r} st long = record {
    formed = f;
    some = (b, r, prints, st, queued_start prints others, long);
    words_length_same = refl;
    list_length_same = refl;
    same_queue = refl;
    goes = λ b r q st queued. (
      b,
      q,
      [],
      record {
        stored = st;
        queued = queued;
        ends = omega arith;
        listed = refl;
        within = omega arith;
        rest = before_none (queue_pass settings script q b);
        room = omega (arith, many, stored_few st);
        count = omega arith;
      },
    );
  }

module _ {settings : Settings} {script : List ℕ} {n : ℕ} {w : List ℕ} {l : List (List ℕ)}
    {start : List PrintSegment} {first last : ℕ} {v : List ℕ} {k : List (List ℕ)} {queue : List PrintSegment}
    {head tail moves at used : ℕ}
    (h : Passes settings script n w l start first last v k queue head tail moves at used) where
  -- what a turn asks
  pub passes_queued : (p : List PrintSegment) × Queued queue head tail p
  passes_queued = let (b, r, prints, st, queued, long) = h.some in let (c, p, es, u) =
      h.goes b r _ st queued in (p, u.queued)

  pub count_inside : 1 < length v
  count_inside =
      let (b, r, prints, st, queued, long) = h.some in
      let (c, p, es, u) = h.goes b r _ st queued in
      omega (arith, (stored_holds u.stored).chained.inside.room)

  pub script-within : script_entry_length * used ≤ length script
  script-within = let (b, r, prints, st, queued, long) = h.some in let (c, p, es, u) =
      h.goes b r _ st queued in u.within

  pub segment_asks : (script_formed (lent script used) ≡ true)
      × ((c : Book) × (r : List ℕ) × Stored n v c r × (tail + pending_count c.slots ≤ length queue)
      × (at + pending_count c.slots ≤ length k))
  segment_asks =
      let (b, r, prints, st, queued, long) = h.some in
      let (c, p, es, u) = h.goes b r _ st queued in (
        rw (script_part script (script_entry_length * used)) (formed_drop script used h.formed),
        (c, r, u.stored, u.room, omega (arith, long, u.count, h.list_length_same)),
      )

  pub moves_word : moves ≤ suc most_records * (2 * most_records)
  moves_word =
      let (b, r, prints, st, queued, long) = h.some in
      let (c, p, es, u) = h.goes b r _ st queued in
      omega (arith, moves_few u st, stored_few st)

  module _ {told : Option PrintSegment} {prints : PrintSegment} (is : told ≡ Some prints)
      (tells : Tells told queue head tail) where
    pub head_few : head < length start
    head_few =
        let (b, r, prints, st, queued, long) = h.some in
        let (c, p, es, u) = h.goes b r _ st queued in
        omega (arith, head_inside u is tells, h.same_queue)

    -- one segment more
    pub passes_next : {x : List ℕ} {j : List (List ℕ)} {queue' : List PrintSegment} {m end uses tail' : ℕ} → get_or v 1 0 ≢ 0
        → SegmentPasses settings prints (lent script used) n v x k j at queue tail queue' m end uses tail'
        → length x ≡ length v → length j ≡ length k → length queue' ≡ length queue
        → Passes settings script n w l start first last x j queue' (head + 1) tail' (moves + m) end (used + uses)
    passes_next many does words_length_same list_length_same same_queue = record {
      formed = h.formed;
      some = h.some;
      words_length_same = words_length_same ∙ h.words_length_same;
      list_length_same = list_length_same ∙ h.list_length_same;
      same_queue = same_queue ∙ h.same_queue;
      goes = λ b r q st queued. let (c, p, es, u) =
          h.goes b r q st queued in underway_next u is tells many h.formed does;
    }

-- the loop ends: the pass over the queue is the pass
module _ {settings : Settings} {script : List ℕ} {n : ℕ} {w : List ℕ} {l : List (List ℕ)} (prints : PrintSegment)
    (others : List PrintSegment) {v : List ℕ} {k : List (List ℕ)} {queue : List PrintSegment} {head tail moves at used : ℕ}
    (h : Passes settings script n w l (prints ∷ others) 0 1 v k queue head tail moves at used) where
  passes_last : ((b : Book) (r : List ℕ) (c : Book) (p : List PrintSegment) (es : List Elected)
      → Underway settings script n v l k queue head tail moves at used b r (prints ∷ []) c p es
      → queue_pass settings (drop (script_entry_length * used) script) p c ≡ ended c)
      → (b : Book) (r : List ℕ) → Stored n w b r
      → (moves ≡ (pass settings script prints b).moves) × (at ≡ length (pass settings script prints b).entries)
      × (used ≡ (pass settings script prints b).used)
      × (k ≡ sets l 0 (map elected_words (pass settings script prints b).entries))
      × Stored n v (pass settings script prints b).book r
  passes_last none b r st =
      let (c, p, es, u) = h.goes b r (prints ∷ []) st (queued_start prints others) in
      rw (queue_pass_all settings script prints b) at (underway_last u (none b r c p es u))

  -- the queue is empty
  pub passes_none : {told : Option PrintSegment} → told ≡ None → Tells told queue head tail → (b : Book) (r : List ℕ)
      → Stored n w b r
      → (moves ≡ (pass settings script prints b).moves) × (at ≡ length (pass settings script prints b).entries)
      × (used ≡ (pass settings script prints b).used)
      × (k ≡ sets l 0 (map elected_words (pass settings script prints b).entries))
      × Stored n v (pass settings script prints b).book r
  passes_none is tells = passes_last (λ b r c p es u. rest_none u _ is tells)

  -- the store is empty
  pub passes_empty : get_or v 1 0 ≡ 0 → (b : Book) (r : List ℕ) → Stored n w b r
      → (moves ≡ (pass settings script prints b).moves) × (at ≡ length (pass settings script prints b).entries)
      × (used ≡ (pass settings script prints b).used)
      × (k ≡ sets l 0 (map elected_words (pass settings script prints b).entries))
      × Stored n v (pass settings script prints b).book r
  passes_empty zero = passes_last (λ b r c p es u. rest_empty u zero)
