-- `text_identities::spelling::behind` meets its contract: what goes up has room there.
use native.Mathlib.Omega.{arith}
use Rattle.text_identities.proofs.Spellings.{carry_fits, digit_fits}
use borrow.Author.Rules.{rules}
use Rattle.text_identities.proofs.spelling.behind.Goals as goal

pub overflow_add-result : goal.overflow_add-result
overflow_add-result c = record { fits = carry_fits c.args.n.high c.args.n.low c.args.base c.args.top c.requires.whole (search rules) }

pub overflow_mul-result-2 : goal.overflow_mul-result-2
overflow_mul-result-2 c = record { fits = omega (arith, digit_fits c.args.n.low c.args.base c.args.top c.args.d c.requires.whole c.requires.digit) }
