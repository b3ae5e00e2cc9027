-- What the elected of a segment execute: they add at most a segment each, of the script's words, and use no more
-- entries than there are.
use Prim.Native.Nat.{ℕ, suc, ◌≤◌, ◌-◌, ◌*◌}
use mathlib.Core.Path.{◌≡◌, refl}
use mathlib.Core.Bool.{true, ◌&&◌, ◌||◌, false≢true}
use mathlib.Core.List.{List, [], ◌∷◌}
use native.Mathlib.Omega.{arith}
use borrow.Author.Tests.{eqb-false}
use borrow.Table.Steps.{cases}
use lib.Dec.{leb, eqb}
use lib.ListN.{length, get_or, drop, length-append, length-drop}
use Rattle.pricelevel.proofs.Bools.{and_parts}
use Rattle.book.proofs.Walks.{SegmentFits}
use Rattle.book.proofs.Lists.{all_append, all_get_d, all_drop}
use Rattle.book.specs.Lists.{All}
use Rattle.book.proofs.WellFormed.{IsWord}
use Rattle.book.specs.Script.{script_formed, script_segment, execute_one, executed}
use Rattle.book.specs.Sizes.{script_entry_length}
use Rattle.book.specs.declared.Elected.{Elected}

module _ (script : List ℕ) (e : Elected) where
  -- it adds at most one segment, of the script's words
  pub execute_one_segments : length (execute_one script e).segments ≤ 1
  unfolding execute_one script_segment
  execute_one_segments = cases (e.pending || eqb (length script) 0) (λ f. rw f (omega arith))
      (λ f. rw f (cases (eqb (get_or script 0 0) 1) (λ g. rw g (omega arith)) (λ g. rw g (omega arith))))

  pub execute_one_fits : All IsWord script → All SegmentFits (execute_one script e).segments
  unfolding execute_one script_segment
  execute_one_fits h = cases (e.pending || eqb (length script) 0) (λ f. rw f tt)
      (λ f. rw f (cases (eqb (get_or script 0 0) 1)
      (λ g. rw g (
        record {
          first = all_get_d IsWord script 3 0 (omega arith) h;
          last = all_get_d IsWord script 4 0 (omega arith) h;
        },
        tt,
      )) (λ g. rw g tt)))

  -- of a script of whole entries it uses one only where there is one
  pub execute_one_used : (n : ℕ) → length script ≡ script_entry_length * n → (execute_one script e).used ≤ n
  unfolding execute_one
  execute_one_used n h = cases e.pending (λ f. rw f (omega arith))
      (λ f. cases (eqb (length script) 0) (λ g. rw (f, g) (omega arith))
      (λ g. rw (f, g) (omega (arith, eqb-false (length script) 0 g))))

pub executed_segments : (script : List ℕ) (es : List Elected) → length (executed script es).segments ≤ length es
unfolding executed
executed_segments script [] = omega arith
executed_segments script (e ∷ es) =
    let ih = executed_segments (drop (script_entry_length * (execute_one script e).used) script) es in
    rw length-append (omega (arith, execute_one_segments script e))

pub executed_fits : (script : List ℕ) (es : List Elected) → All IsWord script
    → All SegmentFits (executed script es).segments
unfolding executed
executed_fits script [] h = tt
executed_fits script (e ∷ es) h =
    let rest : List ℕ = drop (script_entry_length * (execute_one script e).used) script in
    all_append SegmentFits (execute_one script e).segments (executed rest es).segments (execute_one_fits script e h)
    (executed_fits rest es (all_drop IsWord (script_entry_length * (execute_one script e).used) script h))

-- the entries that are left
pub script_left : (script : List ℕ) (n used : ℕ) → length script ≡ script_entry_length * n
    → length (drop (script_entry_length * used) script) ≡ script_entry_length * (n - used)
script_left script n used h = rw length-drop (omega arith)

pub executed_used : (script : List ℕ) (es : List Elected) (n : ℕ) → length script ≡ script_entry_length * n
    → (executed script es).used ≤ n
unfolding executed
executed_used script [] n h = omega arith
executed_used script (e ∷ es) n h =
    let one : ℕ = (execute_one script e).used in
    let ih = executed_used (drop (script_entry_length * one) script) es (n - one) (script_left script n one h) in
    omega (arith, execute_one_used script e n h)

pub script_formed_length : (script : List ℕ) → script_formed script ≡ true
    → (n : ℕ) × (length script ≡ script_entry_length * n)
unfolding script_formed
script_formed_length [] e = (0, refl)
script_formed_length (a ∷ []) e = absurd (false≢true e)
script_formed_length (a ∷ b ∷ []) e = absurd (false≢true e)
script_formed_length (a ∷ b ∷ c ∷ []) e = absurd (false≢true e)
script_formed_length (a ∷ b ∷ c ∷ d ∷ []) e = absurd (false≢true e)
script_formed_length (a ∷ b ∷ c ∷ d ∷ f ∷ rest) e =
    let ih = script_formed_length rest (and_parts (leb a 1 && leb b 1) (script_formed rest) e).1 in
    (suc ih.0, omega (arith, ih.1))
