-- `sha1_hash::hash` meets its contract. The invariant: s is the hash value after i blocks.
use mathlib.Core.List.{◌++◌}
use mathlib.Core.Path.{◌≡◌}
use Rattle.fips180.specs.Fips.{pad, blocks}
use Rattle.sha1_hash.proofs.hash.Given as goal

abbrev pub invariant-loop-i : goal.invariant-loop-i
invariant-loop-i l = l.s ≡ blocks (pad (l.head ++ l.tail)) l.i
