-- `same_lists::are_listed` meets its contract: list by list.
use mathlib.Core.Path.{◌≡◌, sym}
use mathlib.Core.Bool.{Bool, true, false, ◌&&◌}
use lib.Seq.{length-take-le}
use Rattle.same_lists.proofs.are_listed.Goals as goal

pub slice_bounds-same_entries-end : goal.slice_bounds-same_entries-end
slice_bounds-same_entries-end c = sym (length-take-le _ _ c.requires.0)

pub slice_bounds-same_entries-end-2 : goal.slice_bounds-same_entries-end-2
slice_bounds-same_entries-end-2 c = sym (length-take-le _ _ c.requires.1)

-- the second test where the first holds, and where it does not
first-fails : (x a b : Bool) → x ≡ a → x ≡ false → false ≡ (a && b)
first-fails x a b e f = rw (← e, f)

first_holds : (x y a b : Bool) → x ≡ a → x ≡ true → y ≡ b → y ≡ (a && b)
first_holds x y a b e t h = rw (← e, t) h

pub returns-then-not-same_entries : goal.returns-then-not-same_entries
returns-then-not-same_entries c = first-fails _ _ _ c.same_entries.ensures (c.if-not-same_entries.true)

pub returns : goal.returns
returns c =
    first_holds _ _ _ _ c.same_entries.ensures (c.if-not-same_entries.false) c.same_entries-2.ensures
