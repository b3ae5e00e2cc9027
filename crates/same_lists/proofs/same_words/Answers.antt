-- `same_lists::same_words` meets its contract: the words before i are the same.
use mathlib.Core.Path.{sym, ◌∙◌}
use native.Mathlib.Omega.{arith}
use borrow.Author.Tests.{eq-eqb}
use lib.Dec.{eqb}
use Rattle.book.proofs.Lists.{same_by_length, same_list_by}
use Rattle.same_lists.proofs.Compared.{compared_none, compared_more, compared_all}
use Rattle.same_lists.proofs.same_words.Goals as goal

pub returns-then-a-b : goal.returns-then-a-b
returns-then-a-b c = sym (same_list_by _ _ ∙ same_by_length eqb _ _ c.if-a-b.true)

pub loop-i-init : goal.loop-i-init
loop-i-init c = compared_none eqb 0 c.args.a.now c.args.b.now c.if-a-b.false

pub loop-i-preserved : goal.loop-i-preserved
loop-i-preserved c =
    compared_more eqb 0 c.args.a.now c.args.b.now c.loop-i.i c.loop-i.invariant (omega arith) (eq-eqb _ _ (grind arith))

pub returns : goal.returns
returns c = compared_all eqb 0 _ _ c.loop-i.i c.loop-i.invariant (omega arith) ∙ sym (same_list_by _ _)
