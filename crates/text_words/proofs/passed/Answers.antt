-- `text_words::passed` meets its contract: the run that is left ends where the whole one does.
use Prim.Native.Nat.{◌+◌}
use mathlib.Core.Path.{sym, ap, ◌∙◌}
use Rattle.text_words.specs.Words.{run}
use Rattle.text_words.proofs.Turns.{run_on, run_stop, run_whole, rest_of}
use Rattle.text_words.proofs.passed.Goals as goal

pub returns-then-not-passes-clause-value : goal.returns-then-not-passes-clause-value
returns-then-not-passes-clause-value g c p is =
    ap (λ n. c.args.at + n)
    (sym (run_stop p _ _ c.loop-k-test.true (sym (is _ _ c.passes.ensures) ∙ c.if-not-passes.true)) ∙ c.loop-k.invariant p is ∙ ap (run p) (rest_of c.args.line.now c.args.at))

pub loop-k-preserved : goal.loop-k-preserved
loop-k-preserved g c p is = sym (run_on p _ _ c.loop-k-test.true (sym (is _ _ c.passes.ensures) ∙ c.if-not-passes.false)) ∙ c.loop-k.invariant p is

pub returns-clause-value : goal.returns-clause-value
returns-clause-value g c p is =
    run_whole p _ _ _ _ c.requires.at_bound (rest_of c.args.line.now c.args.at) c.loop-k-test.false c.loop-k.auto.k-end (c.loop-k.invariant p is)
