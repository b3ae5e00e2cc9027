-- What a point elects: each is a stop that leaves its record, and every stop that leaves its record is one of them.
use Prim.Native.Nat.{ℕ, ◌+◌, ◌<◌}
use mathlib.Core.Path.{◌≡◌, refl}
use mathlib.Core.Bool.{Bool, true, false}
use lib.ListN.{length, get_or}
use Rattle.pricelevel.specs.declared.Price.{Price}
use Rattle.pricelevel.specs.declared.Side.{Side}
use Rattle.pricelevel.specs.declared.Side.TheVariants.{Buy, Sell}
use Rattle.book.proofs.Lists.{all_map, all_append, all_append_parts}
use Rattle.book.proofs.Lookup.{Gathered, gather_gathered, gather_all}
use Rattle.book.proofs.Sort.{sort_by_all, sort_by_parts}
use Rattle.book.specs.Book.{vacant, held, Book, ByStop, Pending, side_of, gather, of_side, earlier_in}
use Rattle.book.specs.Evaluation.{trailed, leaves, leaving_on, leaver, elected_on, elected_by}
use Rattle.book.specs.Lists.{All}
use Rattle.book.specs.declared.StopEntry.{StopEntry}
use Rattle.std.specs.Prelude.{Some}

module _ (kill : Bool) (p : Price) (b : Book) where
  -- it left its record, as a stop of a side
  pub record Gone (q : Pending) : Type 0 where
    pub side : Side
    pub gathered : Gathered (leaver kill p side) 1 b.slots q

  elected_on_gone : (d : Side) → All Gone (elected_on kill p d b)
  unfolding elected_on
  elected_on_gone d =
      let l = gather (leaver kill p d) 1 b.slots in
      sort_by_all (earlier_in (ByStop d)) Gone l
      (all_map (λ q g. record { side = d; gathered = g }) l (gather_gathered (leaver kill p d) 1 b.slots))

  pub elected_by_gone : (first : Bool) → All Gone (elected_by kill first p b)
  unfolding elected_by
  elected_by_gone true =
      all_append Gone (elected_on kill p Sell b) (elected_on kill p Buy b) (elected_on_gone Sell) (elected_on_gone Buy)
  elected_by_gone false =
      all_append Gone (elected_on kill p Buy b) (elected_on kill p Sell b) (elected_on_gone Buy) (elected_on_gone Sell)

  -- what holds of all that are elected holds of a stop that leaves its record
  module _ (P : Pending → Type 0) (k : ℕ) (t : StopEntry) (inside : k < length b.slots)
      (there : get_or b.slots k vacant ≡ held t) (leaving : leaves kill p (trailed p t) ≡ true) where
    leaver_own : (d : Side) → d ≡ side_of (trailed p t) → leaver kill p d (held t) ≡ Some (trailed p t)
    unfolding leaver leaving_on of_side
    leaver_own Sell e = rw (leaving, ← e)
    leaver_own Buy e = rw (leaving, ← e)

    on_side : (d : Side) → d ≡ side_of (trailed p t) → All P (elected_on kill p d b) → P (record { index = 1 + k; entry = trailed p t })
    unfolding elected_on
    on_side d e h =
        gather_all (leaver kill p d) P 1 b.slots
        (sort_by_parts (earlier_in (ByStop d)) P (gather (leaver kill p d) 1 b.slots) h) k (trailed p t) inside
        (rw there (leaver_own d e))

    either : All P (elected_on kill p Sell b) × All P (elected_on kill p Buy b) → (d : Side) → d ≡ side_of (trailed p t)
        → P (record { index = 1 + k; entry = trailed p t })
    either h Sell e = on_side Sell e h.0
    either h Buy e = on_side Buy e h.1

    pub elected_by_all : (first : Bool) → All P (elected_by kill first p b) → P (record { index = 1 + k; entry = trailed p t })
    unfolding elected_by
    elected_by_all true h =
        either (all_append_parts P (elected_on kill p Sell b) (elected_on kill p Buy b) h) (side_of (trailed p t)) refl
    elected_by_all false h =
        let g = all_append_parts P (elected_on kill p Buy b) (elected_on kill p Sell b) h in
        either (g.1, g.0) (side_of (trailed p t)) refl
