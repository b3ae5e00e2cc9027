-- The form of a script, entry by entry: the first entry, and the script behind the first entries.
use Prim.Native.Nat.{ℕ, zero, suc, ◌+◌, ◌-◌, ◌*◌, ◌%◌, ◌≤◌, ◌<◌}
use mathlib.Core.Bool.{true, false, ◌&&◌, false≢true}
use mathlib.Core.List.{List, [], ◌∷◌}
use mathlib.Core.Path.{◌≡◌, refl, ◌∙◌}
use native.Mathlib.Nat.{add-zero}
use native.Mathlib.Omega.{arith}
use borrow.Author.Tests.{le-leb, lt-leb}
use borrow.Table.Steps.{cases}
use lib.Dec.{leb}
use lib.ListN.{length, get_or, take, drop, length-drop, drop_of_length-le}
use lib.Seq.{take_all, get_or-drop, drop-drop}
use Rattle.pricelevel.proofs.Bools.{and_parts}
use Rattle.book.proofs.Execution.{script_formed_length}
use Rattle.book.specs.Script.{script_formed}
use Rattle.book.specs.Sizes.{script_entry_length}

-- words that are no whole entries are not formed
pub formed_whole : (l : List ℕ) → (length l % script_entry_length ≡ 0 → ⊥) → script_formed l ≡ false
formed_whole l h = cases (script_formed l)
    (λ e. let (n, whole) = script_formed_length l e in absurd (h (omega (arith, whole))))
    (λ e. e)

-- a whole entry is formed by its two flags
pub formed_entry : (l : List ℕ) → script_entry_length ≤ length l
    → script_formed l ≡ ((leb (get_or l 0 0) 1 && leb (get_or l 1 0) 1) && script_formed (drop script_entry_length l))
unfolding script_formed
formed_entry [] whole = absurd (omega arith)
formed_entry (a ∷ []) whole = absurd (omega arith)
formed_entry (a ∷ b ∷ []) whole = absurd (omega arith)
formed_entry (a ∷ b ∷ c ∷ []) whole = absurd (omega arith)
formed_entry (a ∷ b ∷ c ∷ d ∷ []) whole = absurd (omega arith)
formed_entry (a ∷ b ∷ c ∷ d ∷ f ∷ l) whole = refl

-- behind its first entry a formed script is formed
formed_next : (l : List ℕ) → script_formed l ≡ true → script_formed (drop script_entry_length l) ≡ true
unfolding script_formed
formed_next [] e = refl
formed_next (a ∷ []) e = absurd (false≢true e)
formed_next (a ∷ b ∷ []) e = absurd (false≢true e)
formed_next (a ∷ b ∷ c ∷ []) e = absurd (false≢true e)
formed_next (a ∷ b ∷ c ∷ d ∷ []) e = absurd (false≢true e)
formed_next (a ∷ b ∷ c ∷ d ∷ f ∷ l) e = (and_parts (leb a 1 && leb b 1) (script_formed l) e).1

-- and behind its first entries
pub formed_drop : (l : List ℕ) (used : ℕ) → script_formed l ≡ true
    → script_formed (drop (script_entry_length * used) l) ≡ true
formed_drop l zero e = e
formed_drop l (suc used) e =
    let step : script_entry_length * suc used ≡ script_entry_length + script_entry_length * used = omega arith in
    rw (step, ← drop-drop) (formed_drop (drop script_entry_length l) used (formed_next l e))

-- the script behind its first words, as it is lent: a part up to its end
pub script_part : (script : List ℕ) (at : ℕ) → take (length script - at) (drop at script) ≡ drop at script
script_part script at = take_all (length script - at) (drop at script) (omega (arith, length-drop at script))

------------------------------------------------------------------------
-- The script read up to a position: it is formed if it is so from there on

pub record FormedFrom (script : List ℕ) (at : ℕ) : Type 0 where
  pub same : script_formed script ≡ script_formed (drop at script)
  pub most : at ≤ length script

pub formed_start : (script : List ℕ) → FormedFrom script 0
formed_start script = record { same = refl; most = omega arith }

module _ {script : List ℕ} {at : ℕ} (f : FormedFrom script at) where
  pub formed_end : length script ≤ at → script_formed script ≡ true
  unfolding script_formed
  formed_end h = rw (f.same, drop_of_length-le script h)

  module _ (whole : script_entry_length ≤ length script - at) where
    formed_at : script_formed script
        ≡ ((leb (get_or script at 0) 1 && leb (get_or script (at + 1) 0) 1) && script_formed
        (drop (at + script_entry_length) script))
    formed_at = f.same ∙ simp (get_or-drop, drop-drop, add-zero) at
        (formed_entry (drop at script) (rw length-drop whole))

    pub formed_not_printed : 1 < get_or script at 0 → script_formed script ≡ false
    formed_not_printed h = rw (formed_at, lt-leb _ _ h)

    pub formed_not-present : get_or script at 0 ≤ 1 → 1 < get_or script (at + 1) 0 → script_formed script ≡ false
    formed_not-present g h = rw (formed_at, le-leb _ _ g, lt-leb _ _ h)

    pub formed_on : get_or script at 0 ≤ 1 → get_or script (at + 1) 0 ≤ 1 → FormedFrom script (at + script_entry_length)
    formed_on g h = record { same = rw (formed_at, le-leb _ _ g, le-leb _ _ h); most = omega arith }
