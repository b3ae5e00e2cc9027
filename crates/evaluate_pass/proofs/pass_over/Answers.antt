-- `evaluate_pass::pass_over` meets its contract.
use native.Mathlib.Omega.{arith}
use Rattle.book.specs.Words.{book_of}
use Rattle.pending_stops.proofs.Found.{beyond, well_formed-stored}
use Rattle.store_words.proofs.ChainsOf.{well_formed_room}
use Rattle.evaluation.proofs.Passes.{pass-formed, pass_elected, pass_script, passed_done}
use Rattle.evaluate_pass.proofs.pass_over.Goals as goal

pub bounds-s-0 : goal.bounds-s-0
bounds-s-0 c =
    omega (arith, (well_formed_room _ (pass-formed _ _ _ c.requires)).room)

pub pass-o-requires : goal.pass-o-requires
pass-o-requires c =
    let w = c.args.s.now in
    record {
      script_value = pass_script _ _ _ c.requires;
      by_index = (book_of w, beyond w, well_formed-stored w (pass-formed _ _ _ c.requires), pass_elected _ _ _ c.requires);
    }

pub returns : goal.returns
returns c =
    let g = c.args in
    let w = g.s.now in
    let d = c.pass-o.ensures (book_of w) (beyond w) (well_formed-stored w (pass-formed _ _ _ c.requires)) in
    passed_done g.settings g.script.now g.prints w g.elected.now c.requires _ _ _ d.0 d.1 d.2
    d.3 d.4
