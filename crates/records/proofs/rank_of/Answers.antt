-- `records::rank_of` meets its contract: each arm knows the chain and the side.
use Rattle.book.specs.Words.{entry_at}
use Rattle.chains.specs.Rank.{rank, rank_at}
use Rattle.records.proofs.rank_of.Goals as goal

pub returns-in-Sell : goal.returns-in-Sell
unfolding rank_at rank entry_at
returns-in-Sell c =
    rw (
      c.in-ByStop.is,
      c.in-Sell.is,
      c.word-stop.ensures,
      c.word-seq.ensures,
    )

pub returns-in-Buy : goal.returns-in-Buy
unfolding rank_at rank entry_at
returns-in-Buy c =
    rw (
      c.in-ByStop.is,
      c.in-Buy.is,
      c.word-stop.ensures,
      c.word-seq.ensures,
    )

pub returns-in-Sell-side : goal.returns-in-Sell-side
unfolding rank_at rank entry_at
returns-in-Sell-side c =
    rw (
      c.in-ByWatermark.is,
      c.in-Sell-side.is,
      c.word-watermark.ensures,
      c.word-seq.ensures,
    )

pub returns-in-Buy-side : goal.returns-in-Buy-side
unfolding rank_at rank entry_at
returns-in-Buy-side c =
    rw (
      c.in-ByWatermark.is,
      c.in-Buy-side.is,
      c.word-watermark.ensures,
      c.word-seq.ensures,
    )
