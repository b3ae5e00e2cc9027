-- `stored_stops::find_id` meets its contract, by what the search along each of the two chains ensures.
use mathlib.Core.Path.{sym, ◌∙◌}
use Rattle.pricelevel.specs.declared.Side.TheVariants.{Buy, Sell}
use Rattle.store_words.proofs.Search.{stop_head, stop_search, stop_found, lookup_sell, lookup_buy}
use Rattle.stored_stops.proofs.find_id.Goals as goal

pub bounds-s-head_of : goal.bounds-s-head_of
bounds-s-head_of c = let (e, q) =
    c.requires in stop_head _ e _ q Sell _ c.head_of.ensures

pub find_from-i-requires : goal.find_from-i-requires
find_from-i-requires c =
    let (e, q) = c.requires in
    let found = stop_search _ e _ q Sell _ c.head_of.ensures in
    record { room = found.0; by_index = found.1 }

pub returns-then-i-ne0 : goal.returns-then-i-ne0
returns-then-i-ne0 c =
    let (e, q) = c.requires in
    let sell = stop_found _ e _ q Sell _ c.head_of.ensures _ _ c.find_from-i.ensures in
    sell ∙ sym (lookup_sell _ _ (λ z. c.if-i-ne0.true (sell ∙ z)))

pub bounds-s-head_of-2 : goal.bounds-s-head_of-2
bounds-s-head_of-2 c =
    let (e, q) = c.requires in
    stop_head _ e _ q Buy _ c.head_of-2.ensures

pub find_from-requires : goal.find_from-requires
find_from-requires c =
    let (e, q) = c.requires in
    let found = stop_search _ e _ q Buy _ c.head_of-2.ensures in
    record { room = found.0; by_index = found.1 }

pub returns : goal.returns
returns c =
    let (e, q) = c.requires in
    let sell = stop_found _ e _ q Sell _ c.head_of.ensures _ _ c.find_from-i.ensures in
    stop_found _ e _ q Buy _ c.head_of-2.ensures _ _ c.find_from.ensures
    ∙ sym (lookup_buy _ _ (sym sell ∙ c.if-i-ne0.false))
