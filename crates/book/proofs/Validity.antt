-- A valid book, part by part.
use mathlib.Core.Path.{◌≡◌}
use mathlib.Core.Bool.{true, ◌&&◌}
use borrow.Author.Tests.{leb-true, le-leb}
use lib.Dec.{leb}
use lib.ListN.{length}
use Rattle.pricelevel.proofs.Bools.{and_parts}
use Rattle.book.proofs.Lists.{every_all, all-every, same_list_equal, same_list_refl}
use Rattle.book.specs.Book.{Book}
use Rattle.book.specs.Lists.{every}
use Rattle.book.specs.Words.{sound_stop, all_differ, vacant_indices, valid}
use Rattle.book.specs.Sizes.{most_records}
use Rattle.book.specs.Valid.{Valid}

pub valid_parts : (b : Book) → valid b ≡ true → Valid b
unfolding valid
valid_parts b e =
    let h = and_parts (leb 1 (length b.slots) && leb (length b.slots) most_records) _ e in
    let n = and_parts (leb 1 (length b.slots)) _ h.0 in
    let s = and_parts (every (sound_stop b.next b.tick) b.slots) _ h.1 in
    let d = and_parts (all_differ b.slots) _ s.1 in
    record {
      some_records = leb-true _ _ n.0;
      few_records = leb-true _ _ n.1;
      sound = every_all (sound_stop b.next b.tick) b.slots s.0;
      differ = d.0;
      free_vacant = same_list_equal _ _ d.1;
    }

pub valid_of : (b : Book) → Valid b → valid b ≡ true
unfolding valid
valid_of b h =
    rw (
      le-leb 1 (length b.slots) h.some_records,
      le-leb (length b.slots) most_records h.few_records,
      all-every (sound_stop b.next b.tick) b.slots h.sound,
      h.differ,
      h.free_vacant,
      same_list_refl (vacant_indices 1 b.slots),
    )
