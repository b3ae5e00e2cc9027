-- `host_admission::admit_trailing_stop` meets its contract.
use mathlib.Core.Path.{refl}
use Rattle.host_words.proofs.Known.{is_known, is-unknown}
use Rattle.host_words.specs.Answers.{answered, number}
use Rattle.host_admission.proofs.admit_trailing_stop.Goals as goal

pub returns-then-not-terms_known : goal.returns-then-not-terms_known
unfolding number answered
returns-then-not-terms_known c =
    let id = is_known c.id_known.ensures c.if-not-id_known.false in
    let terms = is-unknown c.terms_known.ensures c.if-not-terms_known.true in
    rw (id, terms) ((refl, refl), refl, refl)

pub returns-then-not-path_known : goal.returns-then-not-path_known
unfolding number answered
returns-then-not-path_known c =
    let id = is_known c.id_known.ensures c.if-not-id_known.false in
    let terms = is_known c.terms_known.ensures c.if-not-terms_known.false in
    let path = is-unknown c.path_known.ensures c.if-not-path_known.true in
    rw (id, terms, path) ((refl, refl), refl, refl)

pub returns : goal.returns
returns c =
    let admitted = c.admit_trailing_stop-admitted.ensures in
    let told = rw admitted.answer_value at c.answer.ensures in
    let path-left = rw admitted.path_value at c.path_words.ensures in
    let id = is_known c.id_known.ensures c.if-not-id_known.false in
    let terms = is_known c.terms_known.ensures c.if-not-terms_known.false in
    let path = is_known c.path_known.ensures c.if-not-path_known.false in
    rw (id, terms, path, ← c.path_of.ensures, ← c.last_price_of.ensures, ← c.id_of.ensures)
    (rw (← c.terms_of.ensures, ← c.holder_of.ensures) (told, admitted.s_after, path-left))

pub returns-then-not-id_known : goal.returns-then-not-id_known
unfolding number answered
returns-then-not-id_known c = rw (is-unknown c.id_known.ensures c.if-not-id_known.true) ((refl, refl), refl, refl)
