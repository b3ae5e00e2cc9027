-- The elected of a list execute, entry by entry.
use Prim.Native.Nat.{ℕ, suc, ◌+◌, ◌-◌, ◌*◌, ◌≤◌, ◌<◌}
use mathlib.Core.Bool.{true}
use mathlib.Core.List.{List, [], ◌∷◌, ◌++◌, map, append_assoc, append-nil}
use mathlib.Core.Path.{◌≡◌, refl, sym, ap, ◌∙◌}
use native.Mathlib.Nat.{zero-add}
use native.Mathlib.Numerals.{add-one}
use native.Mathlib.Omega.{arith}
use lib.ListN.{length, get_or, set, drop, length-append, length-set}
use lib.Seq.{drop-drop, sets, get_or-set_same}
use Rattle.book.proofs.Execution.{execute_one_segments, execute_one_used, executed_used, script_left, script_formed_length}
use Rattle.book.specs.Script.{Executed, script_formed, execute_one, executed}
use Rattle.book.specs.Sizes.{script_entry_length, pending_place}
use Rattle.book.specs.declared.Elected.{Elected}
use Rattle.book.specs.declared.PrintSegment.{PrintSegment}
use Rattle.script.specs.Execute.{pending_word, Flags, Advanced}
use Rattle.script.specs.Queue.{Enqueued}
use Rattle.script.proofs.Queue.{enqueued_none, enqueued_then, enqueued_length}
use Rattle.book.proofs.Lists.{get_d_sets_before}

-- behind the used entries: the first elected, then the others behind those that it used
module _ (script : List ℕ) (used : ℕ) (e : Elected) (es : List Elected) where
  abbrev first : Executed
  first = execute_one (drop (script_entry_length * used) script) e

  abbrev others : Executed
  others = executed (drop (script_entry_length * (used + first.used)) script) es

  behind : script_entry_length * (used + first.used) ≡ script_entry_length * used + script_entry_length * first.used
  behind = omega arith

  executed_segments_on : (executed (drop (script_entry_length * used) script)
      (e ∷ es)).segments ≡ first.segments ++ others.segments
  unfolding executed
  executed_segments_on = rw (behind, ← drop-drop)

  executed_used_on : (executed (drop (script_entry_length * used) script) (e ∷ es)).used ≡ first.used + others.used
  unfolding executed
  executed_used_on = rw (behind, ← drop-drop)

  -- of a formed script no more than there are
  first-within : script_formed script ≡ true → script_entry_length * used ≤ length script
      → script_entry_length * (used + first.used) ≤ length script
  first-within f h =
      let (n, l) = script_formed_length script f in
      omega (
        arith,
        l,
        h,
        execute_one_used (drop (script_entry_length * used) script) e (n - used)
            (script_left script n used l),
      )

-- the elected es of a list have executed up to entry i: those that are left, and the segments so far
pub record Progress (list : List (List ℕ)) (to : ℕ) (script : List ℕ) (es : List Elected) (queue : List PrintSegment)
    (tail : ℕ)
    (queue' : List PrintSegment) (used tail' i : ℕ) (left : List Elected) : Type 0 where
  pub flags : Flags list i left
  pub ends : to ≡ i + length left
  pub done : List PrintSegment
  pub adds : Enqueued done queue tail queue' tail'
  pub segments : (executed script es).segments ≡ done ++ (executed (drop (script_entry_length * used) script) left).segments
  pub uses : (executed script es).used ≡ used + (executed (drop (script_entry_length * used) script) left).used
  pub few : length done + length left ≤ length es
  pub within : script_entry_length * used ≤ length script

module _ {list : List (List ℕ)} {to : ℕ} {script : List ℕ} {es : List Elected} {queue : List PrintSegment} {tail : ℕ} where
  pub progress_start : (from : ℕ) → Flags list from es → to ≡ from + length es
      → Progress list to script es queue tail queue 0 tail from es
  progress_start from flags ends = record {
    flags = flags;
    ends = ends;
    done = [];
    adds = enqueued_none queue tail;
    segments = refl;
    uses = sym (zero-add _);
    few = omega arith;
    within = omega arith;
  }

  module _ {queue' : List PrintSegment} {used tail' i : ℕ} where
    -- after a turn
    pub progress_next : (left : List Elected) → Progress list to script es queue tail queue' used tail' i left → i < to
        → script_formed script ≡ true → (queue'' : List PrintSegment) (used' tail'' : ℕ)
        → ((e : Elected) → get_or (get_or list i []) pending_place 0 ≡ pending_word e
        → Advanced (execute_one (drop (script_entry_length * used) script) e) used queue' tail' used' queue'' tail'')
        → (left' : List Elected) × Progress list to script es queue tail queue'' used' tail'' (i + 1) left'
    progress_next [] p h f queue'' used' tail'' turn = absurd (omega (arith, p.ends))
    progress_next (e ∷ left) p h f queue'' used' tail'' turn =
        let a = turn e p.flags.0 in
        let one : Executed = execute_one (drop (script_entry_length * used) script) e in (
          left,
          record {
            flags = rw add-one p.flags.1;
            ends = omega (arith, p.ends);
            done = p.done ++ one.segments;
            adds = enqueued_then p.adds a.adds;
            segments = rw (a.uses, append_assoc)
                (p.segments ∙ ap (λ l. p.done ++ l) (executed_segments_on script used e left));
            uses = rw a.uses (omega (arith, p.uses, executed_used_on script used e left));
            few = rw length-append
                (omega (arith, p.few, execute_one_segments (drop (script_entry_length * used) script) e));
            within = rw a.uses (first-within script used e left f p.within);
          },
        )

    -- after the last turn
    pub progress_end : (left : List Elected) → Progress list to script es queue tail queue' used tail' i left → to ≤ i
        → (used ≡ (executed script es).used) × Enqueued (executed script es).segments queue tail queue' tail'
    unfolding executed
    progress_end [] p h = (omega (arith, p.uses), rw (p.segments, append-nil) p.adds)
    progress_end (e ∷ left) p h = absurd (omega (arith, p.ends))

    -- there is room for the next segment
    pub progress_room : (left : List Elected) → Progress list to script es queue tail queue' used tail' i left → i < to
        → tail + length es ≤ length queue → tail' < length queue'
    progress_room left p h room = rw (enqueued_length p.adds) (omega (arith, p.ends, p.few, p.adds.ends))

------------------------------------------------------------------------
-- For callers

-- the elected of a formed script use no more than there is
pub executed-within : (script : List ℕ) (es : List Elected) → script_formed script ≡ true
    → script_entry_length * (executed script es).used ≤ length script
executed-within script es f = let (n, l) = script_formed_length script f in omega (arith, l, executed_used script es n l)

-- words behind an element leave it as it is
-- entries that are written to a list, each with its last word
module _ (entryWords : Elected → List ℕ) (last : (e : Elected) → get_or (entryWords e) pending_place 0 ≡ pending_word e) where
  pub flags-written : (list : List (List ℕ)) (from : ℕ) (es : List Elected) → from + length es ≤ length list
      → Flags (sets list from (map entryWords es)) from es
  flags-written list from [] room = tt
  flags-written list from (e ∷ es) room =
      let here : from < length list = omega (arith, room) in (
        rw (
          get_d_sets_before (map entryWords es) (set list from (entryWords e)) from (suc from) [] (omega arith),
          get_or-set_same,
        ) (last e),
        flags-written (set list from (entryWords e)) (suc from) es (rw length-set (omega (arith, room))),
      )
