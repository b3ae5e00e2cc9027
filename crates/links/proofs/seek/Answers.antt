-- `links::seek` meets its contract: the loop walks along the chain.
use mathlib.Core.Path.{sym, ◌∙◌}
use native.Mathlib.Omega.{arith}
use Rattle.chains.proofs.OneChain.{place_end, place_stop, place_on}
use Rattle.chains.proofs.Ranks.{ltb_told}
use Rattle.chains.proofs.Walks.{at_first, at_end, at_next, at_past, any}
use Rattle.links.proofs.seek.Goals as goal

pub loop-c-init : goal.loop-c-init
loop-c-init c = let h = c.requires.by_index in at_first _ _ _ _ _ any h.0 h.1 tt

pub returns-then-j-eq0 : goal.returns-then-j-eq0
returns-then-j-eq0 c =
    let a = c.loop-c.invariant in
    record {
      by_index_2 = λ l d. sym (at_end _ _ _ _ _ any a c.if-j-eq0.true l d ∙ place_end _ _ _ _);
      upper_bound = a.start;
    }

pub rank_of-y-requires : goal.rank_of-y-requires
rank_of-y-requires c =
    let m = at_next _ _ _ _ _ any c.loop-c.invariant (λ _. c.if-j-eq0.false) in
    record { least = m.least; most = m.most; inside = c.requires.fact.inside }

pub returns-then-is_before : goal.returns-then-is_before
returns-then-is_before c =
    let m = at_next _ _ _ _ _ any c.loop-c.invariant (λ _. c.if-j-eq0.false) in
    let e = ltb_told c.is_before.ensures c.rank_of-x.ensures
    c.rank_of-y.ensures c.if-is_before.true in
    record {
      by_index_2 = λ l d. sym (m.same l d ∙ place_stop _ _ _ _ _ _ e);
      upper_bound = c.loop-c.invariant.start;
    }

pub cell-p-requires : goal.cell-p-requires
cell-p-requires c =
    let m = at_next _ _ _ _ _ any c.loop-c.invariant (λ _. c.if-j-eq0.false) in
    let h = c.requires.by_index.1 in
    (m.least, omega (arith, m.most, h.inside.few), h.link)

pub overflow_sub-left : goal.overflow_sub-left
overflow_sub-left c =
    let m = at_next _ _ _ _ _ any c.loop-c.invariant (λ _. c.if-j-eq0.false) in
    omega (arith, m.short)

pub loop-c-smaller : goal.loop-c-smaller
loop-c-smaller c = omega (arith, overflow_sub-left c)

pub loop-c-preserved : goal.loop-c-preserved
loop-c-preserved c =
    let m = at_next _ _ _ _ _ any c.loop-c.invariant (λ _. c.if-j-eq0.false) in
    let h = c.requires.by_index.1 in
    let e = ltb_told c.is_before.ensures c.rank_of-x.ensures
    c.rank_of-y.ensures c.if-is_before.false in
    rw c.cell-p.ensures.value (at_past _ _ _ _ _ any h.inside h.link m tt (place_on _ _ _ _ _ _ e))
