-- `key_form::is_new` meets its contract. The loop's invariant: what is left of the test, at a stop of the bucket, is
-- the whole test. Each step goes to an earlier record.
use Rattle.std.proofs.Common.{sym, ◌∙◌, arith}
use Rattle.form_check.proofs.Buckets.{walking_start, walking_end, walking_found, walking_less, walking_next}
use Rattle.key_form.proofs.is_new.Goals as goal

pub returns-then-same_key : goal.returns-then-same_key
returns-then-same_key c =
    walking_found _ _ _ c.requires.fact.1 _ c.loop-j.invariant c.loop-j-test.true
    (sym c.same_key.ensures ∙ c.if-same_key.true)

pub returns : goal.returns
returns c = walking_end _ _ _ c.requires.fact.1 _ c.loop-j.invariant c.loop-j-test.false

pub loop-j-init : goal.loop-j-init
loop-j-init c = rw c.requires.p_value (walking_start _ _ _ c.requires.fact.1 (omega arith))

pub loop-j-smaller : goal.loop-j-smaller
loop-j-smaller c =
    walking_less _ _ _ c.requires.fact.1 _ c.loop-j.invariant c.loop-j-test.true c.args.nexts.now
    c.requires.bucketed

pub loop-j-preserved : goal.loop-j-preserved
loop-j-preserved c =
    walking_next _ _ _ c.requires.fact.1 _ c.loop-j.invariant c.loop-j-test.true c.args.nexts.now
    c.requires.bucketed
    (sym c.same_key.ensures ∙ c.if-same_key.false)
