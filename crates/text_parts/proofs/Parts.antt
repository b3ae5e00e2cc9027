-- Laws of rows in a text, each with a line feed behind it: where the k-th begins and ends.
use Prim.Native.Nat.{ℕ, zero, suc, ◌+◌, ◌-◌, ◌≤◌, ◌<◌}
use mathlib.Core.Path.{◌≡◌, refl, ap}
use mathlib.Core.List.{List, [], ◌∷◌}
use native.Mathlib.Numerals.{add-one}
use native.Mathlib.Omega.{arith}
use lib.ListN.{length, take, drop, get_or, length-append}
use lib.Seq.{take-append_seam, drop-append-add}
use Rattle.text_parts.specs.Parts.{joined, starts, Begins, line_in}

starts_first : (at : ℕ) (rows : List (List ℕ)) → get_or (starts at rows) 0 0 ≡ at
unfolding starts
starts_first at [] = refl
starts_first at (row ∷ rows) = refl

-- A row stands between two places of the text, of which the second is a line feed.
pub record Placed (rows : List (List ℕ)) (k at start next : ℕ) : Type 0 where
  pub later : at ≤ start
  pub order : start < next
  pub within : next ≤ at + length (joined rows)
  pub bytes : take ((next - 1) - start) (drop (start - at) (joined rows)) ≡ get_or rows k []

placed_first : (row : List ℕ) (rows : List (List ℕ)) (at next : ℕ) → next ≡ at + length row + 1 → Placed (row ∷ rows) 0 at at next
unfolding joined
placed_first row rows at next e =
    let n : (next - 1) - at ≡ length row = omega arith in
    let z : at - at ≡ 0 = omega arith in
    record {
      later = omega arith;
      order = omega arith;
      within = omega (arith, length-append row (10 ∷ joined rows));
      bytes = rw (n, z) (take-append_seam row (10 ∷ joined rows));
    }

placed_later : (row : List ℕ) (rows : List (List ℕ)) (k at start next : ℕ) → Placed rows k (at + length row + 1) start next → Placed (row ∷ rows) (suc k) at start next
unfolding joined
placed_later row rows k at start next p =
    let d : start - at ≡ length row + suc (start - (at + length row + 1)) = omega (arith, p.later) in
    record {
      later = omega (arith, p.later);
      order = p.order;
      within = omega (arith, p.within, length-append row (10 ∷ joined rows));
      bytes = rw (d, drop-append-add row (10 ∷ joined rows) (suc (start - (at + length row + 1)))) p.bytes;
    }

pub row_placed : (rows : List (List ℕ)) (at k : ℕ) → k < length rows → Placed rows k at (get_or (starts at rows) k 0) (get_or (starts at rows) (suc k) 0)
unfolding starts
row_placed [] at k h = absurd (omega arith)
row_placed (row ∷ rows) at zero h = placed_first row rows at (get_or (starts (at + length row + 1) rows) 0 0) (starts_first (at + length row + 1) rows)
row_placed (row ∷ rows) at (suc k) h =
    placed_later row rows k at (get_or (starts (at + length row + 1) rows) k 0) (get_or (starts (at + length row + 1) rows) (suc k) 0)
    (row_placed rows (at + length row + 1) k (omega arith))

starts_length : (at : ℕ) (rows : List (List ℕ)) → length (starts at rows) ≡ suc (length rows)
unfolding starts
starts_length at [] = refl
starts_length at (row ∷ rows) = ap suc (starts_length (at + length row + 1) rows)

-- rows in their text: their places, and their bytes
pub rows_begin : (rows : List (List ℕ)) (k : ℕ) → k < length rows → Begins (joined rows) (starts 0 rows) k
rows_begin rows k h =
    let p = row_placed rows 0 k h in
    record {
      known = omega (arith, starts_length 0 rows);
      order = rw add-one p.order;
      within = rw add-one (omega (arith, p.within));
    }

pub rows_line : (rows : List (List ℕ)) (k : ℕ) → k < length rows → line_in (joined rows) (starts 0 rows) k ≡ get_or rows k []
unfolding line_in
rows_line rows k h =
    let p = row_placed rows 0 k h in
    let whole : get_or (starts 0 rows) k 0 - 0 ≡ get_or (starts 0 rows) k 0 = omega arith in
    rw add-one (rw whole at p.bytes)
