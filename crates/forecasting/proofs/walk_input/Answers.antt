-- `forecasting::walk_input` meets its contract: the words that are read are the store's and the prices.
use native.Mathlib.Omega.{arith}
use Rattle.forecasting.proofs.Walked.{walked_as}
use Rattle.forecast_input.proofs.WordCounts.{store_inside, prices_inside, store_read, prices_read}
use Rattle.forecast_input.proofs.Split.{prices_few}
use Rattle.forecasting.proofs.walk_input.Goals as goal

pub overflow_sub-at : goal.overflow_sub-at
overflow_sub-at c =
    omega (arith, c.word_count-count.ensures, prices_few c.args.bytes.now, c.requires.prices_len)

pub read_words-requires : goal.read_words-requires
read_words-requires c = store_inside _ _ c.requires.store_len

pub read_words-requires-2 : goal.read_words-requires-2
read_words-requires-2 c =
    prices_inside _ _ _ c.word_count-count.ensures c.requires.prices_len

pub returns : goal.returns
returns c =
    let bytes = c.args.bytes.now in
    let store = store_read bytes _ _ c.requires.store_len c.read_words.ensures in
    let prices = prices_read bytes _ _ _ c.word_count-count.ensures c.requires.prices_len
    c.read_words-2.ensures in
    record {
      result_value = (walked_as _ bytes _ _ _ _ _ _ c.settings.ensures store prices c.requires.elected_len c.walk.ensures.0
          c.walk.ensures.2).0;
      elected_after = (walked_as _ bytes _ _ _ _ _ _ c.settings.ensures store prices c.requires.elected_len c.walk.ensures.0
          c.walk.ensures.2).1;
    }
