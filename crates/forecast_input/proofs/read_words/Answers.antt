-- `forecast_input::read_words` meets its contract. The invariant: the first k words are read.
use mathlib.Core.Path.{◌≡◌, refl, sym, ap, ◌∙◌}
use native.Mathlib.Omega.{arith}
use lib.ListN.{length}
use lib.Seq.{take_all}
use Rattle.forecast_input.specs.Input.{words_at}
use Rattle.forecast_input.proofs.Words.{read_turn}
use Rattle.forecast_input.proofs.read_words.Goals as goal

pub loop-k-init : goal.loop-k-init
unfolding words_at
loop-k-init c = refl

pub loop-k-preserved : goal.loop-k-preserved
loop-k-preserved c = read_turn _ _ _ _ _ (omega arith) c.loop-k.invariant c.word_at.ensures

pub returns : goal.returns
returns c =
    let f : c.loop-k.k ≡ length c.args.words.now = omega arith in
    sym (take_all c.loop-k.k c.loop-k.words (omega arith)) ∙ c.loop-k.invariant ∙ ap (words_at _ _) f
