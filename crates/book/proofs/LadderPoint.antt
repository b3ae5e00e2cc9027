-- The law of the ladder: a bit of a stop's word is set exactly if a point at its price, with the kill switch off, elects
-- that stop. Document 02, Three.
use Prim.Native.Nat.{ℕ, ◌-◌, ◌*◌, ◌≤◌, ◌<◌}
use mathlib.Core.Path.{◌≡◌, refl, sym, ap, ◌∙◌}
use mathlib.Core.Bool.{Bool, true, false, false≢true}
use mathlib.Core.List.{List, [], ◌∷◌, map, append-nil}
use native.Mathlib.Omega.{arith}
use borrow.Author.Tests.{eq-eqb, le-leb}
use borrow.Table.Steps.{cases}
use lib.ListN.{length, get_or, length-map}
use Rattle.error.specs.Answer.{accepted}
use Rattle.error.specs.Questions.{first_no, decide}
use Rattle.pricelevel.proofs.Identity.{same_id_equal, same_id_refl}
use Rattle.pricelevel.specs.Identity.{same_id}
use Rattle.pricelevel.specs.declared.Id.{Id}
use Rattle.pricelevel.specs.declared.Price.{Price}
use Rattle.stop_terms.specs.Terms.{elected_at}
use Rattle.book.proofs.BySequence.{by_sequence_holds, by_sequence_length}
use Rattle.book.proofs.LadderEntries.{entry_bit}
use Rattle.book.proofs.Lists.{all_map, all_at, all_mapped}
use Rattle.book.proofs.Lookup.{InBook}
use Rattle.book.proofs.PointElected.{Gone, elected_by_gone, elected_by_all}
use Rattle.book.proofs.PointRecord.{leaver-leaves}
use Rattle.book.proofs.Soundness.{sound_parts}
use Rattle.book.proofs.Stops.{leaves_untrailed}
use Rattle.book.proofs.VacatedEach.{lookup_is}
use Rattle.book.proofs.Walks.{PointsAt, done, next, walk_points, segment_points}
use Rattle.book.proofs.WellFormed.{well_formed-valid}
use Rattle.book.specs.Book.{vacant, Book, Pending, entries}
use Rattle.book.specs.BySequence.{by_sequence}
use Rattle.book.specs.Calls.{Settings, elected_entry, elected_entries, pending_in, segment_questions, segment_call, walk_questions, walk_call}
use Rattle.book.specs.Evaluation.{trailed, leaves, elected_by, fill_at, Evaluated, point, and_then, segment, walk}
use Rattle.book.specs.Ladder.{ladder_entry, ladder_questions, ladder, names, BitsTell}
use Rattle.book.specs.Lists.{All}
use Rattle.book.specs.Sizes.{most_trial_prices}
use Rattle.book.specs.Valid.{Valid}
use Rattle.book.specs.Words.{book_of, sound_stop, well_formed}
use Rattle.book.specs.declared.Elected.{Elected}
use Rattle.book.specs.declared.StopEntry.{StopEntry}
use Rattle.std.specs.Prelude.{None, Option, Some}

------------------------------------------------------------------------
-- The entries of a point's elected name an identity, or none of these has it

module _ (id : Id) (s : Settings) (c : Book) (p : Price) where
  abbrev listed : List Pending → List Elected
  listed l = map (elected_entry s c) (map (fill_at p) l)

  names_none : (l : List Pending) → All (λ r. same_id id r.entry.id ≡ false) l → names id (listed l) ≡ false
  unfolding names elected_entry fill_at
  names_none [] h = refl
  names_none (r ∷ l) h = rw h.0 (names_none l h.1)

  none_named : (l : List Pending) → names id (listed l) ≡ false → All (λ r. same_id id r.entry.id ≡ false) l
  unfolding names elected_entry fill_at
  none_named [] e = tt
  none_named (r ∷ l) e = cases (same_id id r.entry.id)
      (λ f. absurd (false≢true (sym (rw f at e))))
      (λ f. (f, none_named l (rw f at e)))

------------------------------------------------------------------------
-- A point elects a stop exactly if the price elects its terms as they stand

module _ (p : Price) (b : Book) (v : Valid b) (q : Pending) (h : InBook b.slots q) where
  abbrev own : Id
  own = q.entry.id

  -- the stop after trailing leaves exactly if the price elects it before
  leaves_as_stands : leaves false p (trailed p q.entry) ≡ elected_at q.entry.terms p
  unfolding leaves
  leaves_as_stands =
      let sound = rw h.there at (all_at (λ s. sound_stop b.next b.tick s ≡ true) b.slots (q.index - 1) vacant
      (omega (arith, h.from, h.to)) v.sound) in
      leaves_untrailed p q.entry (sound_parts b.next b.tick q.entry sound).terms

  abbrev Apart : Pending → Type 0
  Apart r = same_id own r.entry.id ≡ false

  -- where the price does not elect the stop, each that the point elects is of another identity
  gone-apart : elected_at q.entry.terms p ≡ false → (r : Pending) → Gone false p b r → Apart r
  unfolding trailed
  gone-apart e r g =
      let o = leaver-leaves false p g.side (get_or b.slots (r.index - 1) vacant) r.entry g.gathered.chosen in
      let u : Pending = record { index = r.index; entry = o.before } in
      let there : InBook b.slots u = record { from = g.gathered.from; to = omega (arith, g.gathered.to); there = o.was } in
      let same : r.entry.id ≡ o.before.id = ap (λ (x : StopEntry). x.id) o.after in
      cases (same_id own r.entry.id)
      (λ f.
      let i : own ≡ o.before.id = same_id_equal own r.entry.id f ∙ same in
      let found : Some q ≡ Some u = sym (lookup_is b q v h) ∙ (rw i (lookup_is b u v there)) in
      let itself : q.entry ≡ o.before = cc in
      absurd (false≢true (sym e ∙ (sym leaves_as_stands ∙ rw itself o.leaving))))
      (λ f. f)

  -- where it does, the point elects the stop itself
  elected_itself : (first : Bool) → elected_at q.entry.terms p ≡ true → All Apart (elected_by false first p b) → ⊥
  unfolding trailed
  elected_itself first e a =
      let k : q.index - 1 < length b.slots = omega (arith, h.from, h.to) in
      let f = elected_by_all false p b Apart (q.index - 1) q.entry k h.there (leaves_as_stands ∙ e) first a in
      false≢true (sym f ∙ same_id_refl own)

  point-names : (first : Bool) (s : Settings)
      → names own (elected_entries s (point false first p b)) ≡ elected_at q.entry.terms p
  unfolding elected_entries point
  point-names first s =
      let c = (point false first p b).book in
      let l = elected_by false first p b in
      cases (elected_at q.entry.terms p)
      (λ e. rw e (cases (names own (listed own s c p l)) (λ f. f)
      (λ f. absurd (elected_itself first e (none_named own s c p l f)))))
      (λ e. rw e (names_none own s c p l (all_map (gone-apart e) l (elected_by_gone false p b first))))

  points-names : (s : Settings) {o : Evaluated} → PointsAt false (p ∷ []) b o
      → names own (elected_entries s o) ≡ elected_at q.entry.terms p
  unfolding elected_entries and_then
  points-names s (next first p rest) = go rest
    where
      go : {o : Evaluated} → PointsAt false [] (point false first p b).book o
          → names own (elected_entries s (and_then (point false first p b) o)) ≡ elected_at q.entry.terms p
      go done = rw append-nil (point-names first s)

------------------------------------------------------------------------
-- Of every stop that a ladder lists

module _ (prices : List Price) (w : List ℕ) (formed : well_formed w ≡ true) where
  abbrev b : Book
  b = book_of w

  -- the stops in the order of the list
  abbrev stops : List StopEntry
  stops = entries (by_sequence b.slots)

  pub ladder_listed : (list : ℕ) → 1 ≤ length prices → length prices ≤ most_trial_prices → pending_in w ≤ list
      → ((ladder prices w list).answer ≡ accepted (pending_in w))
      × ((ladder prices w list).listed ≡ map (λ t. ladder_entry prices t.terms) stops)
  unfolding ladder ladder_questions first_no decide pending_in entries
  ladder_listed list least most room =
      rw (formed, le-leb 1 (length prices) least, le-leb (length prices) most_trial_prices most, le-leb (pending_in w) list room)
      (ap accepted (length-map (by_sequence b.slots) (λ p. p.entry) ∙ by_sequence_length b.slots), refl)

  ladder_tells : (listed : Price → List Elected)
      → ((p : Price) (q : Pending) → InBook b.slots q → names q.entry.id (listed p) ≡ elected_at q.entry.terms p)
      → All (BitsTell prices listed) stops
  unfolding entries
  ladder_tells listed h =
      all_mapped (InBook b.slots) (BitsTell prices listed) (λ q. q.entry)
      (λ q there j d inside. entry_bit q.entry.terms prices j d inside ∙ sym (h (get_or prices j d) q there))
      (by_sequence b.slots) (by_sequence_holds b.slots).in_book

  -- a point, whichever side goes first
  pub ladder-point : (s : Settings) (first : Bool) → All (BitsTell prices (λ p. elected_entries s (point false first p b))) stops
  ladder-point s first =
      ladder_tells (λ p. elected_entries s (point false first p b))
      (λ p q there. point-names p b (well_formed-valid w formed) q there first s)

  -- the calls that are one point: a walk over the price alone, and a segment from it to itself
  module _ (s : Settings) (off : s.kill ≡ false) (prev : Option Price) (elected : ℕ) (room : pending_in w ≤ elected) where
    pub ladder-walk : All (BitsTell prices (λ p. (walk_call s prev (p ∷ []) w elected).elected)) stops
    unfolding walk_call walk_questions first_no decide elected_entries elected_entry
    ladder-walk =
        rw (formed, le-leb (pending_in w) elected room, off)
        (ladder_tells (λ p. elected_entries s (walk false prev (p ∷ []) b))
        (λ p q there. points-names p b (well_formed-valid w formed) q there s (walk_points false prev (p ∷ []) b)))

    pub ladder-segment : (moved : ℕ) → 2 * pending_in w ≤ moved
        → All (BitsTell prices (λ p. (segment_call s (record { prev = prev; first = p; last = p }) w elected moved).elected)) stops
    unfolding segment_call segment_questions first_no decide elected_entries elected_entry
    ladder-segment moved more =
        rw (formed, le-leb (pending_in w) elected room, le-leb (2 * pending_in w) moved more, off)
        (ladder_tells (λ p. elected_entries s (segment false (record { prev = prev; first = p; last = p }) b))
        (λ p q there. points-names p b (well_formed-valid w formed) q there s
        (rw (eq-eqb p.0 p.0 refl) at (segment_points false (record { prev = prev; first = p; last = p }) b))))
