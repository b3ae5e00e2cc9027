-- The number of a refusal names it: no two refusals share one, so that a promise about the number decides the refusal.
use Prim.Native.Nat.{ℕ, ◌-◌}
use mathlib.Core.Path.{◌≡◌, refl, sym, ap, ◌∙◌}
use mathlib.Core.List.{List, [], ◌∷◌}
use native.Mathlib.Omega.{arith}
use lib.ListN.{get_or}
use Rattle.error.specs.Answer.{Answer, refused, accepted, told_answer}
use Rattle.error.specs.Refusal.{refusal_number}
use Rattle.error.specs.Verdict.{told_verdict}
use Rattle.error.specs.declared.Refusal.{Refusal}
use Rattle.error.specs.declared.Refusal.TheVariants.{StoreNotWellFormed, LayoutOutOfRange, KillSwitchActive, ZeroQuantity, ZeroTrail, StopBeyondWatermark, StopWouldTrigger, DuplicateOrderId, TrailOffTick, NoFreeRecord, SequenceExhausted, OrderNotFound, SamePrice, ListTooShort, InvalidScript, PriceCountOutOfRange, ZeroCollar, CollarOffTick, TrialPriceCountOutOfRange, ListsDiffer}
use Rattle.std.specs.Prelude.{Err, Ok, Result}

all : List Refusal
all =
    StoreNotWellFormed ∷ LayoutOutOfRange ∷ KillSwitchActive ∷ ZeroQuantity ∷ ZeroTrail ∷ StopBeyondWatermark
    ∷ StopWouldTrigger
    ∷ DuplicateOrderId ∷ TrailOffTick ∷ NoFreeRecord ∷ SequenceExhausted ∷ OrderNotFound ∷ SamePrice ∷ ListTooShort
    ∷ InvalidScript
    ∷ PriceCountOutOfRange ∷ ZeroCollar ∷ CollarOffTick ∷ TrialPriceCountOutOfRange ∷ ListsDiffer ∷ []

pub numbered : ℕ → Refusal
numbered k = get_or all (k - 1) StoreNotWellFormed

pub numbered-number : (e : Refusal) → numbered (refusal_number e) ≡ e
unfolding all numbered
numbered-number StoreNotWellFormed = refl
numbered-number LayoutOutOfRange = refl
numbered-number KillSwitchActive = refl
numbered-number ZeroQuantity = refl
numbered-number ZeroTrail = refl
numbered-number StopBeyondWatermark = refl
numbered-number StopWouldTrigger = refl
numbered-number DuplicateOrderId = refl
numbered-number TrailOffTick = refl
numbered-number NoFreeRecord = refl
numbered-number SequenceExhausted = refl
numbered-number OrderNotFound = refl
numbered-number SamePrice = refl
numbered-number ListTooShort = refl
numbered-number InvalidScript = refl
numbered-number PriceCountOutOfRange = refl
numbered-number ZeroCollar = refl
numbered-number CollarOffTick = refl
numbered-number TrialPriceCountOutOfRange = refl
numbered-number ListsDiffer = refl

pub refusal_number_injective : (d e : Refusal) → refusal_number d ≡ refusal_number e → d ≡ e
refusal_number_injective d e h = sym (numbered-number d) ∙ ap numbered h ∙ numbered-number e

pub told_verdict_injective : (v w : Result (Unit {0}) Refusal) → told_verdict v ≡ told_verdict w → v ≡ w
unfolding told_verdict
told_verdict_injective (Ok x) (Ok y) h = refl
told_verdict_injective (Ok x) (Err e) h = let z : ◌≡◌ {A = ℕ} 0 1 = cc in absurd (omega arith)
told_verdict_injective (Err d) (Ok y) h = let z : ◌≡◌ {A = ℕ} 0 1 = cc in absurd (omega arith)
told_verdict_injective (Err d) (Err e) h = ap Err (refusal_number_injective d e (cc))

-- an answer is read back from how it is told, so no two answers are told alike
pub read_back : {A : Type 0} → Answer A → Result A Refusal
read_back (accepted a) = Ok a
read_back (refused k) = Err (numbered k)

pub told_answer_read : {A : Type 0} (r : Result A Refusal) → read_back (told_answer r) ≡ r
unfolding read_back told_answer
told_answer_read (Ok a) = refl
told_answer_read (Err e) = ap Err (numbered-number e)

pub told_answer_injective : {A : Type 0} (q r : Result A Refusal) → told_answer q ≡ told_answer r → q ≡ r
told_answer_injective q r h = sym (told_answer_read q) ∙ ap read_back h ∙ told_answer_read r
