-- `examples::hashes::million` meets its contract: an array of a million elements has that length.
use Prim.Native.Nat.{ℕ}
use mathlib.Core.Path.{sym}
use lib.ListN.{length-replicate}
use Rattle.examples.proofs.hashes.million.Goals as goal

pub slice_bounds-digest-end-2 : goal.slice_bounds-digest-end-2
slice_bounds-digest-end-2 c = sym (length-replicate {0} {A = ℕ} 1000000 97)
