-- `error::Refusal::number` meets its contract: each arm knows its variant.
use Rattle.error.proofs.Refusal.number.Goals as goal

pub returns-in-StoreNotWellFormed : goal.returns-in-StoreNotWellFormed
returns-in-StoreNotWellFormed c = rw c.in-StoreNotWellFormed.is

pub returns-in-LayoutOutOfRange : goal.returns-in-LayoutOutOfRange
returns-in-LayoutOutOfRange c = rw c.in-LayoutOutOfRange.is

pub returns-in-KillSwitchActive : goal.returns-in-KillSwitchActive
returns-in-KillSwitchActive c = rw c.in-KillSwitchActive.is

pub returns-in-ZeroQuantity : goal.returns-in-ZeroQuantity
returns-in-ZeroQuantity c = rw c.in-ZeroQuantity.is

pub returns-in-ZeroTrail : goal.returns-in-ZeroTrail
returns-in-ZeroTrail c = rw c.in-ZeroTrail.is

pub returns-in-StopBeyondWatermark : goal.returns-in-StopBeyondWatermark
returns-in-StopBeyondWatermark c = rw c.in-StopBeyondWatermark.is

pub returns-in-StopWouldTrigger : goal.returns-in-StopWouldTrigger
returns-in-StopWouldTrigger c = rw c.in-StopWouldTrigger.is

pub returns-in-DuplicateOrderId : goal.returns-in-DuplicateOrderId
returns-in-DuplicateOrderId c = rw c.in-DuplicateOrderId.is

pub returns-in-TrailOffTick : goal.returns-in-TrailOffTick
returns-in-TrailOffTick c = rw c.in-TrailOffTick.is

pub returns-in-NoFreeRecord : goal.returns-in-NoFreeRecord
returns-in-NoFreeRecord c = rw c.in-NoFreeRecord.is

pub returns-in-SequenceExhausted : goal.returns-in-SequenceExhausted
returns-in-SequenceExhausted c = rw c.in-SequenceExhausted.is

pub returns-in-OrderNotFound : goal.returns-in-OrderNotFound
returns-in-OrderNotFound c = rw c.in-OrderNotFound.is

pub returns-in-SamePrice : goal.returns-in-SamePrice
returns-in-SamePrice c = rw c.in-SamePrice.is

pub returns-in-ListTooShort : goal.returns-in-ListTooShort
returns-in-ListTooShort c = rw c.in-ListTooShort.is

pub returns-in-InvalidScript : goal.returns-in-InvalidScript
returns-in-InvalidScript c = rw c.in-InvalidScript.is

pub returns-in-PriceCountOutOfRange : goal.returns-in-PriceCountOutOfRange
returns-in-PriceCountOutOfRange c = rw c.in-PriceCountOutOfRange.is

pub returns-in-ZeroCollar : goal.returns-in-ZeroCollar
returns-in-ZeroCollar c = rw c.in-ZeroCollar.is

pub returns-in-CollarOffTick : goal.returns-in-CollarOffTick
returns-in-CollarOffTick c = rw c.in-CollarOffTick.is

pub returns-in-TrialPriceCountOutOfRange : goal.returns-in-TrialPriceCountOutOfRange
returns-in-TrialPriceCountOutOfRange c = rw c.in-TrialPriceCountOutOfRange.is

pub returns-in-ListsDiffer : goal.returns-in-ListsDiffer
returns-in-ListsDiffer c = rw c.in-ListsDiffer.is
