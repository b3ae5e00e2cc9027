-- `chain_form::walk_formed` meets its contract. The loop's invariant: what is left of the walk's test is the whole
-- test.
use Prim.Native.Nat.{◌-◌, ◌≤◌, ◌<◌}
use mathlib.Core.Path.{◌≡◌}
use lib.ListN.{length}
use Rattle.form_check.specs.Check.{walk_formed}
use Rattle.book.specs.Chains.{start_of}
use Rattle.chain_form.proofs.walk_formed.Given as goal

abbrev pub invariant-loop-seen : goal.invariant-loop-seen
invariant-loop-seen l =
    (l.p < length l.s) × (l.q ≤ l.n) × (walk_formed l.k l.s l.n l.count (start_of l.k) 0 ≡ walk_formed l.k l.s l.n (l.count - l._seen) l.p l.q)
