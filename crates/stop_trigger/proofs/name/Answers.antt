-- `stop_trigger::name` meets its contract: what it lists of the identity's sixteen bytes is the identity.
use Prim.Native.Nat.{ℕ}
use mathlib.Core.Path.{ap}
use mathlib.Core.List.{List}
use borrow.Author.Rules.{rules}
use Rattle.stop_trigger.specs.Child.{child_name}
use Rattle.stop_trigger.proofs.Elements.{elements_drop}
use Rattle.stop_trigger.proofs.name.Goals as goal

pub returns : goal.returns
returns c = ap (λ (l : List ℕ). child_name c.args.kind l) (elements_drop c.args.bytes 0 16 (search rules))
