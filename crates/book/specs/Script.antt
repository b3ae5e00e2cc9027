-- A pass over a queue of segments, with the script that stands for the matching of its children: document 01, One
-- point, one segment, one pass.
use Rattle.std.specs.Prelude.{ℕ, ◌+◌, ◌*◌, Bool, true, false, cond, ◌&&◌, ◌||◌, List, [], ◌∷◌, ◌++◌, leb, eqb, length, get_or, drop, None, Option, Some}
use Rattle.book.specs.Sizes.{script_entry_length}
use Rattle.book.specs.declared.Elected.{Elected}
use Rattle.book.specs.declared.PrintSegment.{PrintSegment}
use Rattle.pricelevel.specs.declared.Price.{Price}

-- an entry is five words: printed (0, 1), prev present (0, 1), prev, first, last

-- whole entries only, both flags always 0 or 1
unfoldable pub script_formed : List ℕ → Bool
script_formed [] = true
script_formed (printed ∷ []) = false
script_formed (printed ∷ present ∷ []) = false
script_formed (printed ∷ present ∷ prev ∷ []) = false
script_formed (printed ∷ present ∷ prev ∷ first ∷ []) = false
script_formed (printed ∷ present ∷ prev ∷ first ∷ last ∷ rest) = (leb printed 1 && leb present 1) && script_formed rest

-- words that a flag of 0 leaves unused are not read
unfoldable pub script_prev : List ℕ → Option Price
script_prev script = cond (eqb (get_or script 1 0) 1) (Some (record { 0 = get_or script 2 0 })) None

unfoldable pub script_segment : List ℕ → List PrintSegment
script_segment script =
    cond (eqb (get_or script 0 0) 1)
    (record { prev = script_prev script; first = record { 0 = get_or script 3 0 }; last = record { 0 = get_or script 4 0 } } ∷ []) []

-- what the elected of a segment execute: the segments that they add, and the entries that they use
pub record Executed : Type 0 where
  pub segments : List PrintSegment
  pub used : ℕ

-- each elected stop whose child identity is free uses the next entry; a missing entry means nothing printed and is not
-- counted
unfoldable pub execute_one : List ℕ → Elected → Executed
execute_one script e =
    cond (e.pending || eqb (length script) 0) (record { segments = []; used = 0 })
    (record { segments = script_segment script; used = 1 })

unfoldable pub executed : List ℕ → List Elected → Executed
executed script [] = record { segments = []; used = 0 }
executed script (e ∷ es) =
    let one : Executed = execute_one script e in
    let rest : Executed = executed (drop (script_entry_length * one.used) script) es in
    record { segments = one.segments ++ rest.segments; used = one.used + rest.used }
