-- The number of each refusal.
use Rattle.std.specs.Prelude.{ℕ}
use Rattle.error.specs.declared.Refusal.{Refusal}
use Rattle.error.specs.declared.Refusal.TheVariants.{StoreNotWellFormed, LayoutOutOfRange, KillSwitchActive, ZeroQuantity, ZeroTrail, StopBeyondWatermark, StopWouldTrigger, DuplicateOrderId, TrailOffTick, NoFreeRecord, SequenceExhausted, OrderNotFound, SamePrice, ListTooShort, InvalidScript, PriceCountOutOfRange, ZeroCollar, CollarOffTick, TrialPriceCountOutOfRange, ListsDiffer}

-- document 01, The questions a call goes through; 19 and 20: document 02, Three and Six
abbrev pub refusal_number : Refusal → ℕ
refusal_number StoreNotWellFormed = 1
refusal_number LayoutOutOfRange = 2
refusal_number KillSwitchActive = 3
refusal_number ZeroQuantity = 4
refusal_number ZeroTrail = 5
refusal_number StopBeyondWatermark = 6
refusal_number StopWouldTrigger = 7
refusal_number DuplicateOrderId = 8
refusal_number TrailOffTick = 9
refusal_number NoFreeRecord = 10
refusal_number SequenceExhausted = 11
refusal_number OrderNotFound = 12
refusal_number SamePrice = 13
refusal_number ListTooShort = 14
refusal_number InvalidScript = 15
refusal_number PriceCountOutOfRange = 16
refusal_number ZeroCollar = 17
refusal_number CollarOffTick = 18
refusal_number TrialPriceCountOutOfRange = 19
refusal_number ListsDiffer = 20
