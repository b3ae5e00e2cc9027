-- `store_layout::layout_store` meets its contract, by what `has_room` and `lay_out` ensure.
use mathlib.Core.Path.{sym, ◌∙◌}
use Rattle.error.specs.Answer.{told_answer}
use Rattle.store_words.proofs.EmptyWords.{in_range_room, lay_out_no, lay_out_yes}
use Rattle.store_layout.proofs.layout_store.Goals as goal

pub returns-then-not-has_room : goal.returns-then-not-has_room
unfolding told_answer
returns-then-not-has_room c =
    record {
      result_value = (lay_out_no _ _ _ (sym c.has_room.ensures ∙ c.if-not-has_room.true)).0;
      s_after = (lay_out_no _ _ _ (sym c.has_room.ensures ∙ c.if-not-has_room.true)).1;
    }

pub lay_out-requires : goal.lay_out-requires
lay_out-requires c =
    in_range_room _ _ (sym c.has_room.ensures ∙ c.if-not-has_room.false)

pub returns : goal.returns
unfolding told_answer
returns c =
    record {
      result_value = (lay_out_yes _ _ _ _ (sym c.has_room.ensures ∙ c.if-not-has_room.false)
          c.lay_out.ensures).0;
      s_after = (lay_out_yes _ _ _ _ (sym c.has_room.ensures ∙ c.if-not-has_room.false)
          c.lay_out.ensures).1;
    }
