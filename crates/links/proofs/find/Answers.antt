-- `links::find` meets its contract: the loop walks along the chain, with record i still to come.
use mathlib.Core.Path.{sym, ◌∙◌}
use native.Mathlib.Omega.{arith}
use Rattle.chains.proofs.OneChain.{spot_stop, spot_on}
use Rattle.chains.proofs.Members.{has_none, has_rest}
use Rattle.chains.proofs.Walks.{at_first, at_next, at_past, still}
use Rattle.links.proofs.find.Goals as goal

pub loop-n-init : goal.loop-n-init
loop-n-init c = let h = c.requires in at_first _ _ _ _ _ (still _) h.0 h.1 h.2

pub returns-then-j-i : goal.returns-then-j-i
returns-then-j-i c =
    let a = c.loop-n.invariant in
    let m = at_next _ _ _ _ _ (still _) a (λ h. absurd (has_none _ h)) in
    record {
      by_index = λ l d. sym (m.same l d ∙ spot_stop _ _ _ _ _ c.if-j-i.true);
      upper_bound = a.start;
    }

pub cell-p-requires : goal.cell-p-requires
cell-p-requires c =
    let m = at_next _ _ _ _ _ (still _) c.loop-n.invariant (λ h. absurd (has_none _ h)) in
    let h = c.requires.1 in
    (m.least, omega (arith, m.most, h.inside.few), h.link)

pub overflow_sub-left : goal.overflow_sub-left
overflow_sub-left c =
    let m = at_next _ _ _ _ _ (still _) c.loop-n.invariant (λ h. absurd (has_none _ h)) in
    omega (arith, m.short)

pub loop-n-smaller : goal.loop-n-smaller
loop-n-smaller c = omega (arith, overflow_sub-left c)

pub loop-n-preserved : goal.loop-n-preserved
loop-n-preserved c =
    let m = at_next _ _ _ _ _ (still _) c.loop-n.invariant (λ h. absurd (has_none _ h)) in
    let h = c.requires.1 in
    rw c.cell-p.ensures.value
    (at_past _ _ _ _ _ (still _) h.inside h.link m (has_rest _ _ _ c.if-j-i.false m.keeps)
    (spot_on _ _ _ _ _ c.if-j-i.false))
