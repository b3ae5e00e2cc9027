-- The queue of a pass in a lent list: its first segment, the queue without it, and with more segments behind it.
use Prim.Native.Nat.{ℕ, suc, ◌+◌, ◌≤◌, ◌<◌}
use mathlib.Core.List.{List, [], ◌∷◌, ◌++◌}
use mathlib.Core.Path.{◌≡◌, refl, sym, ap, ◌∙◌}
use native.Mathlib.Numerals.{add-one}
use native.Mathlib.Omega.{arith}
use lib.ListN.{length, get_or, take, length-append}
use lib.Seq.{slice, slice_empty, slice-cons, sets, sets-eq, length-sets, take_at, length-take-le, drop-append-le}
use Rattle.book.proofs.Lists.{sets_append}
use Rattle.book.specs.declared.PrintSegment.{PrintSegment}
use Rattle.script.specs.Queue.{Queued, first_of, Enqueued}
use Rattle.std.specs.Prelude.{None, Option, Some}

------------------------------------------------------------------------
-- The first segment

module _ {list : List PrintSegment} {head tail : ℕ} where
  pub queued_end : (q : List PrintSegment) → Queued list head tail q → head ≡ tail → first_of q ≡ None
  unfolding first_of
  queued_end [] h e = refl
  queued_end (s ∷ q) h e = absurd (omega (arith, h.ends))

  queued_stands : {s : PrintSegment} {q : List PrintSegment} (d : PrintSegment) → Queued list head tail (s ∷ q)
      → get_or list head d ∷ slice (suc head) tail list ≡ s ∷ q
  queued_stands d h = sym (slice-cons head tail list d (omega (arith, h.ends)) h.room) ∙ h.stand

  pub queued_first : (q : List PrintSegment) (d : PrintSegment) → Queued list head tail q → (head ≡ tail → ⊥)
      → first_of q ≡ Some (get_or list head d)
  unfolding first_of
  queued_first [] d h n = absurd (n (omega (arith, h.ends)))
  queued_first (s ∷ q) d h n =
      let e : get_or list head d ≡ s = cc (queued_stands d h) in
      ap Some (sym e)

  -- the queue after its first segment
  pub queued_next : {s : PrintSegment} {q : List PrintSegment} → Queued list head tail (s ∷ q)
      → Queued list (head + 1) tail q
  queued_next {s} {q} h =
      let e : slice (suc head) tail list ≡ q = cc (queued_stands s h) in
      record { stand = rw add-one e; ends = omega (arith, h.ends); room = h.room }

-- no first segment: the queue is empty
pub first_of_none : (q : List PrintSegment) → first_of q ≡ None → q ≡ []
unfolding first_of
first_of_none [] e = refl
first_of_none (s ∷ q) e = let z : ◌≡◌ {A = ℕ} 0 1 = cc in absurd (omega arith)

pub first_of_some : (q : List PrintSegment) (s : PrintSegment) → first_of q ≡ Some s
    → (rest : List PrintSegment) × (q ≡ s ∷ rest)
unfolding first_of
first_of_some [] s e = let z : ◌≡◌ {A = ℕ} 0 1 = cc in absurd (omega arith)
first_of_some (t ∷ q) s e = (q, cc)

------------------------------------------------------------------------
-- More segments

pub queued_none : (list : List PrintSegment) (head : ℕ) → head ≤ length list → Queued list head head []
queued_none list head h = record { stand = slice_empty head list; ends = omega arith; room = h }

-- the queue with segments put behind it
pub queued_more : {list list' : List PrintSegment} {head tail tail' : ℕ} {q more : List PrintSegment}
    → Queued list head tail q
    → Enqueued more list tail list' tail' → tail' ≤ length list → Queued list' head tail' (q ++ more)
queued_more {list} {head = head} {tail = tail} {q = q} {more = more} h put room =
    let before : length (take tail list) ≡ tail = length-take-le tail list h.room in
    let inside : head ≤ length (take tail list) = omega (arith, before, h.ends) in
    let upto : length (take tail list ++ more) ≡ tail + length more = rw length-append (omega (arith, before)) in
    record {
      stand =
          rw (
            put.stand,
            put.ends,
            sets-eq more list tail (omega (arith, room, put.ends)),
            take_at (take tail list ++ more) _ _ upto,
            drop-append-le head (take tail list) more,
          ) (ap (λ (l : List PrintSegment). l ++ more) h.stand);
      ends = rw (put.ends, length-append) (omega (arith, h.ends));
      room = rw (put.stand, length-sets) room;
    }

-- a queue that is written from head on
pub queued_sets : (list : List PrintSegment) (head : ℕ) (q : List PrintSegment) → head + length q ≤ length list
    → Queued (sets list head q) head (head + length q) q
queued_sets list head q room = queued_more (queued_none list head (omega (arith, room))) (record {
  stand = refl;
  ends = refl;
}) room

-- segments put behind the queue one after another
pub enqueued_none : (list : List PrintSegment) (tail : ℕ) → Enqueued [] list tail list tail
enqueued_none list tail = record { stand = refl; ends = omega arith }

pub enqueued_then : {xs ys list list' list'' : List PrintSegment} {tail tail' tail'' : ℕ}
    → Enqueued xs list tail list' tail' → Enqueued ys list' tail' list'' tail''
    → Enqueued (xs ++ ys) list tail list'' tail''
enqueued_then {xs} {ys} {list} {tail = tail} h k =
    record {
      stand = rw (k.stand, h.stand, h.ends, sets_append);
      ends = rw (k.ends, h.ends, length-append) (omega arith);
    }

pub enqueued_length : {more list list' : List PrintSegment} {tail tail' : ℕ} → Enqueued more list tail list' tail'
    → length list' ≡ length list
enqueued_length h = rw (h.stand, length-sets)
