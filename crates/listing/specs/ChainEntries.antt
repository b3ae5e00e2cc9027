-- What a stop of a chain puts on a lent list, as words, and the entry that a fill becomes.
use Rattle.std.specs.Prelude.{ℕ, cond, List, [], ◌∷◌, eqb, get_or}
use Rattle.pricelevel.specs.Identity.{kind_number}
use Rattle.pricelevel.specs.Side.{side_number}
use Rattle.pricelevel.specs.declared.Id.{Id}
use Rattle.pricelevel.specs.declared.Price.{Price}
use Rattle.stop_protection.specs.Collar.{limit_under, limit_present, limit_high, limit_low}
use Rattle.stop_trigger.specs.Child.{child_id}
use Rattle.book.specs.Book.{Book, side_of, stop_of, seq_of}
use Rattle.book.specs.Entries.{moved_words}
use Rattle.book.specs.Evaluation.{Fill, trailed}
use Rattle.book.specs.Store.{is_pending}
use Rattle.book.specs.Words.{kind_of, side_from}
use Rattle.book.specs.declared.Settings.{Settings}
use Rattle.book.specs.declared.StopEntry.{StopEntry}

-- kind, identity high, identity low, side, stop, quantity, sequence, trigger; the words of limit, child and pending are
-- still zero
unfoldable pub fill_words : Fill → List ℕ
fill_words f =
    let t = f.stop in
    kind_number t.id.kind ∷ t.id.high ∷ t.id.low ∷ side_number (side_of t) ∷ stop_of t ∷ t.quantity.0 ∷ seq_of t
    ∷ f.trigger.0
    ∷ 0 ∷ 0 ∷ 0 ∷ 0 ∷ 0 ∷ 0 ∷ []

-- its move, if a trade at the price changes its stop
unfoldable pub moves_of : Price → StopEntry → List (List ℕ)
moves_of price t =
    cond (eqb (stop_of (trailed price t)) (stop_of t)) [] (moved_words (record {
      id = t.id;
      stop = (trailed price t).terms.stop;
    }) ∷ [])

-- its fill, when a trade at the price has elected it
unfoldable pub fill_of : Price → StopEntry → List ℕ
fill_of price t = fill_words (record { stop = t; trigger = price })

unfoldable pub fills_of : Price → StopEntry → List (List ℕ)
fills_of price t = fill_of price t ∷ []

------------------------------------------------------------------------
-- The entry that the words of a fill become

-- the limit under the protection, the child identity, and whether that is pending in the book
unfoldable pub completed : Settings → Book → List ℕ → List ℕ
completed s b e =
    let id : Id = record { kind = kind_of (get_or e 0 0); high = get_or e 1 0; low = get_or e 2 0 } in
    let limit = limit_under s.protection (side_from (get_or e 3 0)) (record { 0 = get_or e 4 0 }) in
    let child = child_id s.namespace id in
    get_or e 0 0 ∷ get_or e 1 0 ∷ get_or e 2 0 ∷ get_or e 3 0 ∷ get_or e 4 0 ∷ get_or e 5 0 ∷ get_or e 6 0 ∷ get_or e 7 0
    ∷ limit_present limit ∷ limit_high limit ∷ limit_low limit ∷ child.high ∷ child.low ∷ cond (is_pending child b) 1 0 ∷ []
