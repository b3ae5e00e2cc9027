-- `listing::list_fill` meets its contract: the words are those of the fill.
use mathlib.Core.Path.{refl, ap}
use lib.ListN.{set}
use Rattle.listing.proofs.Notes.{fill_words_lem}
use Rattle.listing.proofs.list_fill.Goals as goal

pub returns : goal.returns
returns c =
    let a = c.args in (
      refl,
      ap (set a.list.now a.at)
          (fill_words_lem _ _ _ c.entry_at-t.ensures _ _ c.number.ensures c.number-2.ensures),
    )
