-- The search along a chain, by what is left of it.
use Prim.Native.Nat.{ℕ, ◌<◌}
use mathlib.Core.Path.{sym, ap, ◌∙◌}
use native.Mathlib.Omega.{arith}
use lib.ListN.{length}
use Rattle.book.specs.Words.{cell, record_word}
use Rattle.book.specs.Sizes.{next_by_stop}
use Rattle.chains.proofs.OneChain.{linked_from}
use Rattle.store_words.proofs.Search.{first_named_end, first_named_here, first_named_later}
use Rattle.stored_stops.proofs.+find_from.Goals as goal

pub returns-then-i-eq0 : goal.returns-then-i-eq0
returns-then-i-eq0 t c p l e h = sym (first_named_end _ _ next_by_stop p c.args.id l (e ∙ c.if-i-eq0.true) h)

pub id_at-here-requires : goal.id_at-here-requires
id_at-here-requires t c =
    let (p, l, e, h, short) = c.requires.by_index in
    let f = linked_from _ _ next_by_stop p _ l e c.if-i-eq0.false h in
    record { least = f.least; most = f.most; inside = c.requires.room }

pub returns-then-eq : goal.returns-then-eq
returns-then-eq t c p l e h =
    let f = linked_from _ _ next_by_stop p _ l e c.if-i-eq0.false h in
    rw f.is (sym (first_named_here _ _ _ f.rest (rw c.id_at-here.ensures at (sym c.eq.ensures ∙ c.if-eq.true))))

pub word-next-requires : goal.word-next-requires
word-next-requires t c =
    let (p, l, e, h, short) = c.requires.by_index in
    let f = linked_from _ _ next_by_stop p _ l e c.if-i-eq0.false h in
    (record { least = f.least; most = f.most; inside = c.requires.room }, omega arith)

pub overflow_sub-left : goal.overflow_sub-left
overflow_sub-left t c =
    let (p, l, e, h, short) = c.requires.by_index in
    let f = linked_from _ _ next_by_stop p _ l e c.if-i-eq0.false h in
    omega (arith, ap length f.is)

pub find_from-requires : goal.find_from-requires
unfolding record_word
find_from-requires t c =
    let (p, l, e, h, short) = c.requires.by_index in
    let f = linked_from _ _ next_by_stop p _ l e c.if-i-eq0.false h in (
      omega (arith, ap length f.is, c.decreases),
      (
        c.requires.room,
        (cell _ next_by_stop, f.rest, sym c.word-next.ensures, f.linked, omega (arith, ap length f.is)),
      ),
    )

pub returns : goal.returns
unfolding record_word
returns t c p l e h =
    let f = linked_from _ _ next_by_stop p _ l e c.if-i-eq0.false h in
    rw f.is (c.find_from.ensures (cell _ next_by_stop) f.rest (sym c.word-next.ensures) f.linked
    ∙ sym (first_named_later _ _ _ f.rest
    (rw c.id_at-here.ensures at (sym c.eq.ensures ∙ c.if-eq.false))))
