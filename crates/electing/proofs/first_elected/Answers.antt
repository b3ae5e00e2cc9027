-- `electing::first_elected` meets its contract.
use native.Mathlib.Omega.{arith}
use mathlib.Core.Path.{sym, ◌∙◌}
use Rattle.book.specs.declared.Chain.TheVariants.{ByStop}
use Rattle.chains.proofs.Names.{name_stands}
use Rattle.book.specs.declared.StoreChain.TheVariants.{Ordered}
use Rattle.electing.proofs.Heads.{head_record, first_elected_end, first_elected_yes, first_elected_no}
use Rattle.electing.proofs.first_elected.Goals as goal

pub offset_bounds-s-head : goal.offset_bounds-s-head
offset_bounds-s-head c = omega (arith, c.head_of-head.ensures, (name_stands (Ordered (ByStop c.args.side))).high)

pub bounds-s-head : goal.bounds-s-head
bounds-s-head c =
    let (ch, h) = c.requires in
    omega (
      arith,
      c.head_of-head.ensures,
      (name_stands (Ordered (ByStop c.args.side))).high,
      h.inside.room,
    )

pub returns-then-i-eq0 : goal.returns-then-i-eq0
returns-then-i-eq0 c = first_elected_end _ _ _ _ c.head_of-head.ensures c.if-i-eq0.true

pub terms_at-terms-requires : goal.terms_at-terms-requires
terms_at-terms-requires c =
    let (ch, h) = c.requires in
    head_record _ _ ch h (Ordered (ByStop c.args.side)) _
    c.head_of-head.ensures c.if-i-eq0.false

pub returns-then-elected_by : goal.returns-then-elected_by
returns-then-elected_by c =
    first_elected_yes _ _ _ _ c.head_of-head.ensures
    (rw c.terms_at-terms.ensures at (sym c.elected_by.ensures ∙ c.if-elected_by.true))

pub returns : goal.returns
returns c =
    first_elected_no _ _ _ _ c.head_of-head.ensures
    (rw c.terms_at-terms.ensures at (sym c.elected_by.ensures ∙ c.if-elected_by.false))
