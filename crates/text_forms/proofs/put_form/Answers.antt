-- `text_forms::put_form` meets its contract: what is left of the form stands behind what was put.
use Rattle.text_buffer.proofs.Writing.{left_byte, left_piece, left_none}
use Rattle.text_forms.proofs.Forms.{form_byte, form_mark, form_piece, form_end}
use native.Mathlib.Omega.{arith}
use Rattle.text_forms.proofs.put_form.Goals as goal
use Rattle.text_forms.proofs.put_form.Goals.{then-marked, else-marked+then-b-eq37, else-marked+else-b-eq37}

pub loop-b-preserved : goal.loop-b-preserved
loop-b-preserved c =
    elim c.if-marked.branch [
      | then-marked w ↦ (
        omega (arith, w.put_piece-next.ensures.upper_bound),
        omega (arith, w.takes-v.ensures.upper_bound),
        rw (w.marked-is, w.v-is, w.next-is, w.buf-is, w.takes-v.ensures.value)
            (left_piece _ _ (rw w.if-marked.true at c.loop-b.invariant.2) (form_piece c.args.form.now c.args.values.now c.loop-b.b-index c.loop-b.v c.loop-b-test.true) w.put_piece-next.ensures.put),
      )
      | else-marked+then-b-eq37 w ↦ (
        omega arith,
        omega arith,
        rw (w.marked-is, w.v-is, w.next-is, w.buf-is)
            (rw (w.if-marked.false, form_mark c.args.form.now _ c.loop-b.b-index c.loop-b-test.true w.if-b-eq37.true) at c.loop-b.invariant.2),
      )
      | else-marked+else-b-eq37 w ↦ (
        omega arith,
        omega arith,
        rw (w.marked-is, w.if-marked.false, w.v-is, w.next-is, w.buf-is)
            (left_byte _ _ _ (rw w.if-marked.false at c.loop-b.invariant.2) (form_byte _ _ _ c.loop-b-test.true w.if-b-eq37.false) w.put_byte.ensures),
      )
    ]

pub returns-clause-put : goal.returns-clause-put
returns-clause-put c = left_none c.loop-b.invariant.2 (form_end c.loop-b.marked _ _ _ c.loop-b-test.false)
