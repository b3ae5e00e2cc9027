-- `same_lists::same_entries` meets its contract: the entries before i are the same.
use Prim.Native.Nat.{◌<◌}
use mathlib.Core.Path.{sym, ◌∙◌}
use mathlib.Core.List.{[]}
use native.Mathlib.Omega.{arith}
use lib.ListN.{length}
use Rattle.book.specs.Lists.{same_list}
use Rattle.book.proofs.Lists.{same_by_length}
use Rattle.same_lists.proofs.Compared.{compared_none, same_read, compared_more, compared_all}
use Rattle.same_lists.proofs.same_entries.Goals as goal

pub returns-then-a-b : goal.returns-then-a-b
returns-then-a-b g c = sym (same_by_length same_list _ _ c.if-a-b.true)

pub loop-i-init : goal.loop-i-init
loop-i-init g c = compared_none same_list [] c.args.a.now c.args.b.now c.if-a-b.false

pub loop-i-preserved : goal.loop-i-preserved
loop-i-preserved g c =
    let k : c.loop-i.i < length c.args.a.now = omega arith in
    compared_more same_list [] c.args.a.now c.args.b.now c.loop-i.i c.loop-i.invariant k
    (same_read same_list [] _ _ _ (sym c.same_words.ensures ∙ grind arith) k (omega arith) (grind arith) (grind arith))

pub returns : goal.returns
returns g c = compared_all same_list [] _ _ c.loop-i.i c.loop-i.invariant (omega arith)
