-- `sheet_signatures::read_arguments` meets its contract: what is left, put behind what is there, is the whole.
use Prim.Native.Nat.{◌*◌, ◌≤◌}
use lib.ListN.{length, drop}
use Rattle.sheet_signatures.specs.Signatures.{arguments_from}
use Rattle.sheet_signatures.proofs.Letters.{Left}
use Rattle.sheet_signatures.proofs.read_arguments.Given as goal

abbrev pub invariant-loop-letter : goal.invariant-loop-letter
invariant-loop-letter l =
    (l.place ≤ length l.line) × (l.next ≤ 5 * l.letter-index)
    × Left l.values l.next (arguments_from (drop l.letter-index l.signature) l.line l.place) l.initial.values (arguments_from l.signature l.line l.at)
