-- `electing::take_elected` meets its contract.
use native.Mathlib.Omega.{arith}
use mathlib.Core.Path.{sym, ◌∙◌}
use lib.ListN.{length-set}
use Rattle.book.specs.Book.{pending_count}
use Rattle.pending_stops.proofs.Contents.{stored_holds}
use Rattle.book.specs.Chains.{chains_of}
use Rattle.electing.proofs.Election.{election_none, election_dropped, election_room, election_fewer, election-stored}
use Rattle.electing.proofs.take_elected.Goals as goal

pub first_elected-requires : goal.first_elected-requires
first_elected-requires c = let (b, r, st) = c.requires in (chains_of b, (stored_holds st).chained)

pub returns-then-first_elected-eq0 : goal.returns-then-first_elected-eq0
returns-then-first_elected-eq0 c = λ b r st. election_none _ _ st (sym c.first_elected.ensures ∙ c.if-first_elected-eq0.true)

pub drop_elected-requires : goal.drop_elected-requires
drop_elected-requires c = let (b, r, st) =
    c.requires in (chains_of b, (stored_holds st).chained)

pub free_elected-m-requires : goal.free_elected-m-requires
free_elected-m-requires c =
    let (b, r, st) = c.requires in
    (b, r, pending_count b.slots, election_dropped _ _ st c.drop_elected.ensures.kept c.drop_elected.ensures.by_index)

pub bounds-s-1 : goal.bounds-s-1
bounds-s-1 c =
    let (b, r, st) = c.requires in
    omega (
      arith,
      election_room _ _ st c.drop_elected.ensures.kept c.drop_elected.ensures.by_index
          c.free_elected-m.ensures,
    )

pub overflow_sub-s : goal.overflow_sub-s
overflow_sub-s c =
    let (b, r, st) = c.requires in
    election_fewer _ _ st c.drop_elected.ensures.kept c.drop_elected.ensures.by_index c.free_elected-m.ensures

pub bounds-s-1-2 : goal.bounds-s-1-2
bounds-s-1-2 c =
    let (b, r, st) = c.requires in
    omega (
      arith,
      election_room _ _ st c.drop_elected.ensures.kept c.drop_elected.ensures.by_index
          c.free_elected-m.ensures,
    )

pub returns : goal.returns
returns c =
    λ b r st. election-stored _ _ st c.drop_elected.ensures.kept c.drop_elected.ensures.by_index
    c.free_elected-m.ensures
