-- `chain_form::walk_formed` meets its contract. The loop's invariant: what is left of the walk's test is the whole
-- test.
use Prim.Native.Nat.{◌+◌, ◌-◌}
use mathlib.Core.Path.{◌≡◌, refl, sym, ◌∙◌}
use native.Mathlib.Omega.{arith}
use borrow.Author.Tests.{le-leb, lt-leb, eq-eqb, ne_eqb}
use Rattle.book.proofs.Tests.{and_fails, and_passes}
use Rattle.form_check.proofs.Walks.{walk_end, walk_step, start_of-header, next_of_record}
use Rattle.chain_form.proofs.walk_formed.Goals as goal

pub loop-seen-init : goal.loop-seen-init
loop-seen-init c =
    let all : c.args.count - 0 ≡ c.args.count = omega arith in
    (omega (arith, start_of-header c.args.k, c.start_of-p.ensures), omega arith, rw (all, c.start_of-p.ensures) refl)

pub returns-then-j-lt1 : goal.returns-then-j-lt1
returns-then-j-lt1 c =
    and_fails _ _ (lt-leb _ _ c.if-j-lt1.true)
    ∙ sym (walk_step _ _ _ _ _ _ _ c.loop-seen.invariant.2 (omega arith))

pub returns-then-j-n : goal.returns-then-j-n
returns-then-j-n c =
    and_passes _ _ _ (le-leb _ _ c.if-j-lt1.false) (and_fails _ _ (lt-leb _ _ c.if-j-n.true))
    ∙ sym (walk_step _ _ _ _ _ _ _ c.loop-seen.invariant.2 (omega arith))

pub returns-then-h-g : goal.returns-then-h-g
returns-then-h-g c =
    and_passes _ _ _ (le-leb _ _ c.if-j-lt1.false)
    (and_passes _ _ _ (le-leb _ _ c.if-j-n.false)
    (and_fails _ _ (ne_eqb _ _
    (λ e. c.if-h-g.true (c.group_of-h.ensures ∙ e
    ∙ sym c.group_in-g.ensures)))))
    ∙ sym (walk_step _ _ _ _ _ _ _ c.loop-seen.invariant.2 (omega arith))

pub returns-then-not-may_follow : goal.returns-then-not-may_follow
returns-then-not-may_follow c =
    and_passes _ _ _ (le-leb _ _ c.if-j-lt1.false)
    (and_passes _ _ _ (le-leb _ _ c.if-j-n.false)
    (and_passes _ _ _ (eq-eqb _ _
    (sym c.group_of-h.ensures ∙ c.if-h-g.false ∙ c.group_in-g.ensures))
    (and_fails _ _ (sym c.may_follow.ensures ∙ c.if-not-may_follow.true))))
    ∙ sym (walk_step _ _ _ _ _ _ _ c.loop-seen.invariant.2 (omega arith))

pub cell-p-requires : goal.cell-p-requires
cell-p-requires c = (
  omega arith,
  omega (arith, c.if-j-n.false, c.requires.few),
  omega (arith, next_of_record c.args.k, c.next_of-link.ensures),
)

pub loop-seen-preserved : goal.loop-seen-preserved
loop-seen-preserved c =
    let left : c.args.count - c.loop-seen._seen - 1 ≡ c.args.count - (c.loop-seen._seen + 1) = omega arith in (
      omega (
        arith,
        c.cell-p.ensures.record_length_value,
        c.if-j-n.false,
        c.requires.room,
        next_of_record c.args.k,
        c.next_of-link.ensures,
      ),
      c.if-j-n.false,
      rw (c.cell-p.ensures.value, c.next_of-link.ensures)
          (rw left at (walk_step _ _ _ _ _ _ _ c.loop-seen.invariant.2 (omega arith))
          ∙ sym (and_passes _ _ _ (le-leb _ _ c.if-j-lt1.false)
          (and_passes _ _ _ (le-leb _ _ c.if-j-n.false)
          (and_passes _ _ _ (eq-eqb _ _
          (sym c.group_of-h.ensures ∙ c.if-h-g.false ∙ c.group_in-g.ensures))
          (and_passes _ _ _ (sym c.may_follow.ensures ∙ c.if-not-may_follow.false) refl))))),
    )

pub returns : goal.returns
returns c = sym (walk_end _ _ _ _ _ _ _ c.loop-seen.invariant.2 (omega arith))
