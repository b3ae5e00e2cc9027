-- A change of a pending stop keeps the book valid, its numbers words, and its records as many as they were.
use Prim.Native.Nat.{◌+◌, ◌-◌, ◌≤◌, ◌<◌, ◌^◌}
use native.Mathlib.Omega.{arith}
use mathlib.Core.Path.{◌≡◌, refl, sym, ◌∙◌}
use mathlib.Core.Bool.{true}
use borrow.Author.Tests.{ltb-true, leb-true}
use borrow.Table.Steps.{cases}
use lib.ListN.{length, set, length-set}
use Rattle.book.proofs.Differences.{SlotsDiffer, slots_differ_vacant, differs_parts, differs_of, all_differ_others}
use Rattle.book.proofs.Lists.{all_map_both, all_set, all_get_d}
use Rattle.book.specs.Lists.{All}
use Rattle.book.proofs.Lookup.{InBook}
use Rattle.book.proofs.Operations.{with_slot-valid, with_slot_fits}
use Rattle.book.proofs.Questions.{first_no_none}
use Rattle.book.proofs.VacantIndices.{vacant_indices_kept}
use Rattle.book.proofs.Soundness.{Sound, sound_parts, sound_of, consistent_parts, consistent_of}
use Rattle.book.specs.Valid.{Valid, StopFits, SlotFits, Fits}
use Rattle.book.specs.Book.{Slot, vacant, held, Book, Pending}
use Rattle.error.specs.Questions.{first_no}
use Rattle.book.specs.Store.{within_watermark, with_terms, changed_terms, changed_quantity, takes_sequence, change_questions, changed_entry, changed}
use Rattle.book.specs.Words.{sound_stop}
use Rattle.book.specs.declared.OrderUpdate.{OrderUpdate}
use Rattle.book.specs.declared.OrderUpdate.TheVariants.{UpdateQuantity, UpdatePrice, UpdatePriceAndQuantity, Replace}
use Rattle.book.specs.declared.StopEntry.{StopEntry}
use Rattle.std.specs.Prelude.{None, Option}
use Rattle.pricelevel.specs.declared.Price.{Price}

-- watermark and trail stay
pub changed_terms_keeps : (update : OrderUpdate) (t : StopEntry)
    → ((changed_terms update t).watermark ≡ t.terms.watermark) × ((changed_terms update t).trail ≡ t.terms.trail)
unfolding changed_terms with_terms
changed_terms_keeps (UpdateQuantity quantity) t = (refl, refl)
changed_terms_keeps (UpdatePrice price) t = (refl, refl)
changed_terms_keeps (UpdatePriceAndQuantity price quantity) t = (refl, refl)
changed_terms_keeps (Replace side price quantity) t = (refl, refl)

-- the numbers of a change are words
abbrev pub UpdateFits : OrderUpdate → Type 0
UpdateFits (UpdateQuantity quantity) = quantity.0 < 2 ^ 64
UpdateFits (UpdatePrice price) = price.0 < 2 ^ 64
UpdateFits (UpdatePriceAndQuantity price quantity) = (price.0 < 2 ^ 64) × (quantity.0 < 2 ^ 64)
UpdateFits (Replace side price quantity) = (price.0 < 2 ^ 64) × (quantity.0 < 2 ^ 64)

pub changed_numbers : (update : OrderUpdate) (t : StopEntry) → StopFits t → UpdateFits update
    → ((changed_terms update t).stop.0 < 2 ^ 64) × ((changed_quantity update t).0 < 2 ^ 64)
unfolding changed_terms changed_quantity with_terms
changed_numbers (UpdateQuantity quantity) t f h = (f.stop, h)
changed_numbers (UpdatePrice price) t f h = (h, f.quantity)
changed_numbers (UpdatePriceAndQuantity price quantity) t f h = h
changed_numbers (Replace side price quantity) t f h = h

-- what the questions of a change leave
pub record Changeable (update : OrderUpdate) (t : StopEntry) (b : Book) : Type 0 where
  pub some_quantity : 1 ≤ (changed_quantity update t).0
  pub within : within_watermark (changed_terms update t) ≡ true
  pub next_fits : takes_sequence update ≡ true → b.next + 1 < 2 ^ 64

pub change_changeable : (update : OrderUpdate) (trade : Option Price) (t : StopEntry) (b : Book)
    → first_no (change_questions update trade t b) ≡ None → Changeable update t b
unfolding change_questions
change_changeable update trade t b e =
    let h = first_no_none (change_questions update trade t b) e in
    record {
      some_quantity = leb-true _ _ h.1.0;
      within = h.1.1.0;
      next_fits = λ f. omega (arith, ltb-true b.next (2 ^ 64 - 1) (rw f at h.1.1.1.1.0));
    }

module _ (update : OrderUpdate) (p : Pending) (b : Book) where
  changed_later : b.next ≤ (changed update p b).next
  unfolding changed
  changed_later = cases (takes_sequence update) (λ e. rw e (omega arith)) (λ e. rw e (omega arith))

  changed_entry_sound : Sound b.next b.tick p.entry → Changeable update p.entry b
      → Sound (changed update p b).next b.tick (changed_entry update p.entry b)
  unfolding changed changed_entry
  changed_entry_sound s c = record {
    sequence = cases (takes_sequence update) (λ e. rw e (omega arith)) (λ e. rw e s.sequence);
    quantity = c.some_quantity;
    terms = consistent_of (changed_terms update p.entry)
        (rw (changed_terms_keeps update p.entry).1 (consistent_parts p.entry.terms s.terms).0) c.within;
    is_on_tick = rw (changed_terms_keeps update p.entry).1 s.is_on_tick;
  }

  -- the identity stays, and the sequence stays or is new
  changed_entry-differs : (s : Slot) → SlotsDiffer (held p.entry) s → sound_stop b.next b.tick s ≡ true
      → SlotsDiffer (held (changed_entry update p.entry b)) s
  unfolding changed_entry
  changed_entry-differs vacant h e = slots_differ_vacant (held (changed_entry update p.entry b))
  changed_entry-differs (held u) h e =
      let d = differs_parts p.entry u h in
      let s = sound_parts b.next b.tick u e in
      differs_of (changed_entry update p.entry b) u d.0
      (cases (takes_sequence update) (λ f. rw f (λ q. omega (arith, s.sequence))) (λ f. rw f d.1))

  pub changed-valid : Valid b → InBook b.slots p → Changeable update p.entry b → Valid (changed update p b)
  unfolding changed sound_stop
  changed-valid v h c =
      let k = p.index - 1 in
      let t = changed_entry update p.entry b in
      let Kept : Slot → Type 0 = λ s. sound_stop b.next b.tick s ≡ true in
      let s : Kept (held p.entry) = rw h.there at (all_get_d Kept b.slots k vacant refl v.sound) in
      let others : All (SlotsDiffer (held p.entry)) (set b.slots k vacant) =
      rw h.there at (all_differ_others b.slots k v.differ) in
      with_slot-valid b (changed update p b).next k (held t) b.free v changed_later
      (sound_of (changed update p b).next
      b.tick t (changed_entry_sound (sound_parts b.next b.tick p.entry s) c))
      (all_map_both changed_entry-differs (set b.slots k vacant) others
      (all_set Kept b.slots k vacant refl v.sound))
      (v.free_vacant ∙ sym (vacant_indices_kept 1 b.slots k p.entry t h.there))

  pub changed_fits : Fits b → InBook b.slots p → Changeable update p.entry b → UpdateFits update
      → Fits (changed update p b)
  unfolding changed changed_entry
  changed_fits f h c words =
      let t : StopFits p.entry =
      rw h.there at (all_get_d SlotFits b.slots (p.index - 1) vacant tt f.slots) in
      let n = changed_numbers update p.entry t words in
      with_slot_fits b (changed update p b).next (p.index - 1) (held (changed_entry update p.entry b)) b.free f
      (cases (takes_sequence update) (λ e. rw e (c.next_fits e)) (λ e. rw e f.next))
      (record {
        high = t.high;
        low = t.low;
        stop = n.0;
        watermark = rw (changed_terms_keeps update p.entry).0 t.watermark;
        trail = rw (changed_terms_keeps update p.entry).1 t.trail;
        quantity = n.1;
        seq = cases (takes_sequence update) (λ e. rw e f.next) (λ e. rw e t.seq);
        holder = t.holder;
      })

  pub changed_length : length (changed update p b).slots ≡ length b.slots
  unfolding changed
  changed_length = length-set b.slots (p.index - 1) (held (changed_entry update p.entry b))
