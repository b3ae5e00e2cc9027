-- `script::script_formed` meets its contract: before each turn the script is formed if it is so from entry k on.
use Prim.Native.Nat.{◌*◌}
use Rattle.book.specs.Sizes.{script_entry_length}
use Rattle.script.proofs.ScriptForm.{FormedFrom}
use Rattle.script.proofs.script_formed.Given as goal

abbrev pub invariant-loop-k : goal.invariant-loop-k
invariant-loop-k l = FormedFrom l.script (script_entry_length * l.k)
