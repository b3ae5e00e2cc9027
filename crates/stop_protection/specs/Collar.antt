-- The collar and the limit that it gives an elected stop's order.
use Rattle.std.specs.Prelude.{ℕ, ◌+◌, ◌-◌, cond, List, [], ◌∷◌, eqb, Option, Some, None}
use Rattle.error.specs.Answer.{Answer, refused, accepted}
use Rattle.pricelevel.specs.Tick.{on_tick}
use Rattle.pricelevel.specs.TwoWords.{two_words}
use Rattle.pricelevel.specs.declared.Price.{Price}
use Rattle.pricelevel.specs.declared.Side.{Side}
use Rattle.pricelevel.specs.declared.Side.TheVariants.{Buy, Sell}
use Rattle.stop_protection.specs.declared.LimitPrice.{LimitPrice}
use Rattle.stop_protection.specs.declared.StopProtection.{StopProtection}

-- document 01, The questions, 17: the collar is not zero
unfoldable pub try_new : ℕ → Answer StopProtection
try_new collar = cond (eqb collar 0) (refused 17) (accepted (record { collar = collar }))

-- document 01, The limit and the child, as document 02, Four, has it: a sell's is stop − collar, or 0 if that is
-- negative; a buy's is stop + collar
unfoldable pub limit_for : ℕ → Side → ℕ → ℕ
limit_for collar Sell stop = stop - collar
limit_for collar Buy stop = stop + collar

-- document 02, Four: the same in two words, high and low
unfoldable pub limit_price : ℕ → Side → Price → LimitPrice
limit_price collar side stop = record { 0 = two_words (limit_for collar side stop.0) }

-- document 01, the same place: no collar, no limit
unfoldable pub limit_under : Option StopProtection → Side → Price → Option LimitPrice
limit_under None side stop = None
limit_under (Some p) side stop = Some (limit_price p.collar side stop)

-- document 02, Four: the words of a limit: 1 if there is one, and its high and low word, or 0
unfoldable pub limit_present : Option LimitPrice → ℕ
limit_present None = 0
limit_present (Some p) = 1

unfoldable pub limit_high : Option LimitPrice → ℕ
limit_high None = 0
limit_high (Some p) = p.0.high

unfoldable pub limit_low : Option LimitPrice → ℕ
limit_low None = 0
limit_low (Some p) = p.0.low

abbrev pub limit_words : Option LimitPrice → List ℕ
limit_words l = limit_present l ∷ limit_high l ∷ limit_low l ∷ []

-- document 01, The questions, 18: the tick is 0 or the collar a multiple of it
unfoldable pub check_tick_size : ℕ → ℕ → Answer (Unit {0})
check_tick_size collar tick = cond (on_tick tick collar) (accepted tt) (refused 18)
