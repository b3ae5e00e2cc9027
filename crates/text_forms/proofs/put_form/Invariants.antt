-- `text_forms::put_form` meets its contract: what is left of the form stands behind what was put.
use Prim.Native.Nat.{◌+◌, ◌*◌, ◌≤◌}
use lib.ListN.{drop}
use Rattle.text_buffer.proofs.Writing.{Left}
use Rattle.text_forms.specs.Forms.{form_from, form_of}
use Rattle.text_forms.proofs.put_form.Given as goal

abbrev pub invariant-loop-b : goal.invariant-loop-b
invariant-loop-b l =
    (l.next ≤ l.at + 50 * l.b-index) × (l.v ≤ 4 * l.b-index)
    × Left l.initial.buf l.at (form_of l.form l.values) l.buf l.next (form_from l.marked (drop l.b-index l.form) (drop l.v l.values))
