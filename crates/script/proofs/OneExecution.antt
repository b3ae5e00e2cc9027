-- One elected executes: what it uses of the script, and what it adds to the queue.
use Prim.Native.Nat.{ℕ, ◌+◌, ◌*◌, ◌≤◌, ◌<◌}
use mathlib.Core.Bool.{true, false}
use mathlib.Core.List.{List}
use mathlib.Core.Path.{◌≡◌, refl}
use native.Mathlib.Omega.{arith}
use borrow.Author.Tests.{eq-eqb, ne_eqb}
use borrow.Table.Steps.{cases}
use lib.ListN.{length}
use Rattle.book.proofs.Execution.{script_formed_length}
use Rattle.book.specs.Script.{script_formed, script_segment, execute_one}
use Rattle.book.specs.Sizes.{script_entry_length}
use Rattle.book.specs.declared.PrintSegment.{PrintSegment}
use Rattle.book.specs.declared.Elected.{Elected}
use Rattle.script.specs.Execute.{pending_word, Advanced}
use Rattle.script.specs.Queue.{Enqueued}

-- of a formed script there is no entry left, or a whole one
pub entry_left : (script : List ℕ) (used : ℕ) → script_formed script ≡ true → script_entry_length * used ≤ length script
    → (script_entry_length * used ≡ length script → ⊥) → script_entry_length * used + script_entry_length ≤ length script
entry_left script used f h d = let (n, e) = script_formed_length script f in omega (arith, e, h, d)

module _ (e : Elected) (pending : ℕ) (is : pending ≡ pending_word e) where
  pending_true : pending ≡ 1 → e.pending ≡ true
  unfolding pending_word
  pending_true h = cases e.pending (λ f. f) (λ f. absurd (omega (arith, rw f at is)))

  pending_false : (pending ≡ 1 → ⊥) → e.pending ≡ false
  unfolding pending_word
  pending_false h = cases e.pending (λ f. absurd (h (rw f at is))) (λ f. f)

  module _ (script : List ℕ) (used : ℕ) (queue : List PrintSegment) (tail : ℕ) where
    -- its child identity is pending
    pub one_pending : pending ≡ 1 → Advanced (execute_one script e) used queue tail used queue tail
    unfolding execute_one
    one_pending h = rw (pending_true h) (record {
      uses = omega arith;
      adds = record { stand = refl; ends = omega arith };
    })

    -- no entry is left
    pub one-missing : length script ≡ 0 → Advanced (execute_one script e) used queue tail used queue tail
    unfolding execute_one
    one-missing h = cases e.pending (λ f. rw f (record {
      uses = omega arith;
      adds = record { stand = refl; ends = omega arith };
    }))
        (λ f. rw (f, eq-eqb _ _ h) (record { uses = omega arith; adds = record { stand = refl; ends = omega arith } }))

    -- it uses an entry
    pub one_entry : (pending ≡ 1 → ⊥) → 0 < length script → (queue' : List PrintSegment) (tail' : ℕ)
        → Enqueued (script_segment script) queue tail queue' tail'
        → Advanced (execute_one script e) used queue tail (used + 1) queue' tail'
    unfolding execute_one
    one_entry h some queue' tail' put =
        let left : length script ≡ 0 → ⊥ = λ z. omega arith in
        rw (pending_false h, ne_eqb _ _ left) (record { uses = refl; adds = put })
