-- `forecast_input::decisive` meets its contract.
use Prim.Native.Nat.{◌+◌, ◌*◌, ◌%◌, ◌≤◌}
use mathlib.Core.Path.{◌≡◌}
use native.Mathlib.Omega.{arith}
use lib.ListN.{length}
use Rattle.forecast_input.specs.Input.{longest}
use Rattle.forecast_input.proofs.FirstBytes.{same_beginning, same_whole}
use Rattle.forecast_input.proofs.decisive.Goals as goal

pub returns-then-left-eq0 : goal.returns-then-left-eq0
returns-then-left-eq0 c =
    record {
      by_index = (λ bytes e p. same_whole bytes c.args.got (omega (arith, e, c.if-left-eq0.true)));
      upper_bound = omega arith;
    }

pub returns-then-got-lt-ROOM_BYTES : goal.returns-then-got-lt-ROOM_BYTES
returns-then-got-lt-ROOM_BYTES c =
    record {
      by_index = (λ bytes e p. same_whole bytes c.args.got
          (omega (arith, p c.if-left-eq0.false, c.if-got-lt-ROOM_BYTES.true)));
      upper_bound = omega arith;
    }

pub returns : goal.returns
returns c =
    let n = c.args.got + c.args.left in
    record {
      by_index = (λ bytes e p.
          let k = 8 * longest + 8 + n % 8 in
          let fits : k ≤ length bytes = omega (arith, e, c.if-got-lt-ROOM_BYTES.false) in
          let alike : k % 8 ≡ length bytes % 8 = omega (arith, e) in
          same_beginning bytes k fits alike (omega arith));
      upper_bound = omega (arith, c.if-got-lt-ROOM_BYTES.false);
    }
