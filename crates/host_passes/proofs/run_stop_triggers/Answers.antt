-- `host_passes::run_stop_triggers` meets its contract.
use mathlib.Core.Path.{ap, refl, sym, ◌∙◌}
use Rattle.book.specs.Calls.{written}
use Rattle.host_words.specs.Answers.{answered, number, path_words}
use Rattle.host_words.specs.ByWords.{hosted_run, run_by_words}
use Rattle.host_passes.proofs.run_stop_triggers.Goals as goal

pub returns-then-not-path_known : goal.returns-then-not-path_known
unfolding run_by_words number answered written
returns-then-not-path_known c = rw (sym c.path_known.ensures ∙ c.if-not-path_known.true) ((refl, refl), refl, refl, refl)

pub returns : goal.returns
unfolding run_by_words hosted_run
returns c =
    let known = sym c.path_known.ensures ∙ c.if-not-path_known.false in
    let told = rw c.run_stop_triggers-run.ensures.0 at c.answer.ensures in
    let path = c.path_words.ensures ∙ ap path_words c.run_stop_triggers-run.ensures.3 in
    rw (known, ← c.settings_of-of.ensures, ← c.last_price_of-last.ensures, ← c.path_of.ensures)
    (told, c.run_stop_triggers-run.ensures.1, c.run_stop_triggers-run.ensures.2, path)
