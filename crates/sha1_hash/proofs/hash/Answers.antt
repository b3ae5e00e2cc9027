-- `sha1_hash::hash` meets its contract. The invariant: s is the hash value after i blocks.
use Prim.Native.Nat.{◌/◌}
use mathlib.Core.List.{◌++◌}
use mathlib.Core.Path.{◌≡◌, ap, ◌∙◌}
use native.Mathlib.Omega.{arith}
use lib.ListN.{length, length-append}
use Rattle.fips180.proofs.Pad.{pad-blocks}
use Rattle.fips180.proofs.Turns.{blocks_turn}
use Rattle.fips180.specs.Fips.{pad, blocks, hash}
use Rattle.sha1_hash.proofs.hash.Goals as goal

pub loop-i-init : goal.loop-i-init
unfolding blocks
loop-i-init c = c.initial-s.ensures

pub loop-i-preserved : goal.loop-i-preserved
loop-i-preserved c = blocks_turn _ _ _ _ c.loop-i.invariant c.block-s.ensures

pub returns : goal.returns
unfolding hash
returns c =
    let a = c.args in
    let m = a.head.now ++ a.tail.now in
    let e : c.loop-i.i ≡ length (pad m) / 64 =
    omega (arith, pad-blocks m, length-append a.head.now a.tail.now) in
    c.loop-i.invariant ∙ ap (blocks (pad m)) e
