-- `forecasting::forecast` meets its contract: the longest store and the most prices have room for those of any input.
use mathlib.Core.Path.{sym, ◌∙◌}
use native.Mathlib.Omega.{arith}
use lib.Seq.{length-take-le}
use Rattle.forecast_input.specs.Input.{words_of}
use Rattle.forecast_input.proofs.Split.{store_most, prices_most}
use Rattle.forecasting.proofs.forecast.Goals as goal

pub slice_bounds-store-end : goal.slice_bounds-store-end
slice_bounds-store-end c =
    omega (
      arith,
      c.store_length-n.ensures,
      store_most (words_of c.args.bytes.now),
      c.longest_store-store.ensures,
    )

pub slice_bounds-walk_input-end : goal.slice_bounds-walk_input-end
slice_bounds-walk_input-end c = sym (length-take-le _ _ ((omega (arith, c.store_length-n.ensures, store_most (words_of c.args.bytes.now), c.longest_store-store.ensures))))

pub slice_bounds-prices-end : goal.slice_bounds-prices-end
slice_bounds-prices-end c =
    omega (
      arith,
      c.price_count-c.ensures,
      prices_most c.args.bytes.now,
      c.most_prices-prices.ensures,
    )

pub slice_bounds-walk_input-end-2 : goal.slice_bounds-walk_input-end-2
slice_bounds-walk_input-end-2 c = sym (length-take-le _ _ ((omega (arith, c.price_count-c.ensures, prices_most c.args.bytes.now, c.most_prices-prices.ensures))))

pub walk_input-requires : goal.walk_input-requires
walk_input-requires c =
    record {
      store_len = length-take-le _ _ ((omega (arith, c.store_length-n.ensures, store_most (words_of c.args.bytes.now), c.longest_store-store.ensures))) ∙ c.store_length-n.ensures;
      prices_len = length-take-le _ _ ((omega (arith, c.price_count-c.ensures, prices_most c.args.bytes.now, c.most_prices-prices.ensures)))
          ∙ c.price_count-c.ensures;
      elected_len = c.requires;
    }
