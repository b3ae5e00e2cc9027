-- `text_identities::spelling::place_in` meets its contract: the run that is left ends where the whole one does.
use mathlib.Core.Path.{◌≡◌, sym, ◌∙◌}
use mathlib.Core.Bool.{not}
use borrow.Author.Tests.{eq-eqb, ne_eqb}
use lib.Dec.{eqb}
use lib.ListN.{length}
use native.Mathlib.Omega.{arith}
use Rattle.text_words.proofs.Turns.{run_on, run_stop, run_end}
use Rattle.text_identities.specs.Identities.{place_in}
use Rattle.text_identities.proofs.spelling.place_in.Goals as goal

pub returns-then-x-b : goal.returns-then-x-b
unfolding place_in
returns-then-x-b c = sym (run_stop (λ x. not (eqb x c.args.b)) _ _ c.loop-i-test.true (simp (eq-eqb _ _ c.if-x-b.true))) ∙ c.loop-i.invariant

pub loop-i-preserved : goal.loop-i-preserved
loop-i-preserved c = sym (run_on (λ x. not (eqb x c.args.b)) _ _ c.loop-i-test.true (simp (ne_eqb _ _ c.if-x-b.false))) ∙ c.loop-i.invariant

pub returns : goal.returns
unfolding place_in
returns c =
    let all : length c.args.text.now ≡ c.loop-i.i = omega arith in
    all ∙ sym (run_end _ _ _ c.loop-i-test.false) ∙ c.loop-i.invariant
