-- `key_form::keys_differ` meets its contract. The loop's invariant: what is left of the test is the whole test, and the
-- stops passed are in the tables.
use Rattle.std.proofs.Common.{◌≡◌, ◌+◌, ◌-◌, sym, ◌∙◌, arith}
use Rattle.form_check.specs.Keys.{keys_differ}
use Rattle.form_check.proofs.Buckets.{tables_none, tables_vacant, tables_stop}
use Rattle.form_check.proofs.Keys.{new_at_vacant}
use Rattle.book.proofs.Tests.{every_end, every_no, every_yes}
use Rattle.key_form.proofs.keys_differ.Goals as goal
use Rattle.key_form.proofs.keys_differ.Goals.{then-word-ne0+else-not-is_new, else-word-ne0}

pub loop-i-init : goal.loop-i-init
unfolding keys_differ
loop-i-init c =
    let all : c.args.n + 1 - 1 ≡ c.args.n = omega arith in
    (rw all, tables_none _ _)

pub returns-then-not-is_new : goal.returns-then-not-is_new
returns-then-not-is_new c =
    every_no _ _ _ _ c.loop-i.invariant.0 (omega arith) (sym c.is_new.ensures ∙ c.if-not-is_new.true)

pub returns : goal.returns
returns c = every_end _ _ _ _ c.loop-i.invariant.0 (omega arith)

pub loop-i-preserved : goal.loop-i-preserved
loop-i-preserved c =
    let i = c.loop-i.invariant in
    let z : c.loop-i.i + 1 - 1 ≡ c.loop-i.i = omega arith in
    let left : c.args.n + 1 - c.loop-i.i - 1 ≡ c.args.n + 1 - (c.loop-i.i + 1) = omega arith in
    elim c.if-word-ne0.branch [
      | then-word-ne0+else-not-is_new w ↦ (
        rw left at (every_yes _ _ _ _ i.0 (omega arith) (sym w.is_new.ensures ∙ w.if-not-is_new.false)),
        rw (z, w.heads-is, w.nexts-is)
            (tables_stop _ _ _ _ _ i.1 (omega arith) _ w.bucket_of-h.ensures.value w.bucket_of-h.ensures.upper_bound (omega arith)
            (λ e. w.if-word-ne0.true (c.word.ensures ∙ e))),
      )
      | else-word-ne0 w ↦
          let v = sym c.word.ensures ∙ w.if-word-ne0.false in (
            rw left at (every_yes _ _ _ _ i.0 (omega arith) (new_at_vacant _ _ _ v)),
            rw (z, w.heads-is, w.nexts-is)
                (tables_vacant _ _ _ _ _ i.1 (omega arith) v),
          )
    ]
