-- `text_wide::put_wide` meets its contract: the quotient, and nine digits behind it; the high word falls.
use Rattle.text_buffer.specs.Digits.{decimal_letter}
use Rattle.text_buffer.proofs.Digits.{digits_put}
use Rattle.text_buffer.proofs.Writing.{put_then}
use Rattle.text_wide.proofs.Wide.{wide_length, wide_word, wide_parts}
use mathlib.Core.Path.{ap}
use lib.ListN.{length}
use native.Mathlib.Omega.{arith}
use Rattle.text_wide.proofs.+put_wide.Goals as goal

pub returns-then-high-eq0-clause-put : goal.returns-then-high-eq0-clause-put
returns-then-high-eq0-clause-put t c = rw (wide_word _ _ c.if-high-eq0.true) at c.put_decimal.ensures.put

pub returns : goal.returns
returns t c =
    let put = put_then c.put_wide-next.ensures.put (digits_put decimal_letter 10 _ _ _ _ _ c.put_digits.ensures) in
    let whole =
    wide_parts _ _ _ _ _ c.ranges.high.fits c.ranges.low.fits c.if-high-eq0.false c.parted-p.ensures.low_value c.parted-p.ensures.rest_bound.0
    in
    record {
      put = rw whole put;
      upper_bound = omega (arith, put.place, ap length whole, wide_length c.args.high c.args.low);
    }
