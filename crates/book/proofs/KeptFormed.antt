-- An evaluation leaves a well-formed store, accepted or refused, if the prices that it is given are words.
use Prim.Native.Nat.{ℕ}
use mathlib.Core.Path.{◌≡◌, refl}
use mathlib.Core.Bool.{Bool, true}
use mathlib.Core.List.{List}
use Rattle.error.specs.Answer.{Answer, refused, accepted}
use Rattle.pricelevel.specs.declared.Price.{Price}
use Rattle.book.proofs.Accepted.{Accepted}
use Rattle.book.proofs.Evaluated.{TradeFits, segment_call_lost, step_call_lost, walk_call_lost, pass_call_lost, run_call_lost}
use Rattle.book.proofs.Refusals.{Refused, segment_call_refused, step_call_refused, walk_call_refused, pass_call_refused, run_call_refused}
use Rattle.book.proofs.Walks.{PriceFits, SegmentFits}
use Rattle.book.proofs.WellFormed.{IsWord}
use Rattle.book.specs.Calls.{Settings, segment_call, walk_call, pass_call, run_call}
use Rattle.book.specs.Lists.{All}
use Rattle.book.specs.StepCall.{step_call}
use Rattle.book.specs.Words.{well_formed}
use Rattle.book.specs.declared.PrintPath.{PrintPath}
use Rattle.book.specs.declared.PrintSegment.{PrintSegment}
use Rattle.std.specs.Prelude.{Option}

-- a refused call alters no word
kept-formed : {B : Type 0} {w v : List ℕ} (a : Answer B) → well_formed w ≡ true → (Refused a → v ≡ w)
    → (Accepted a → well_formed v ≡ true) → well_formed v ≡ true
kept-formed (refused k) formed f g = rw (f (k, refl)) formed
kept-formed (accepted x) formed f g = g (x, refl)

module _ (s : Settings) (w : List ℕ) (elected : ℕ) (formed : well_formed w ≡ true) where
  pub segment_call-formed : (prints : PrintSegment) (moved : ℕ) → SegmentFits prints
      → well_formed (segment_call s prints w elected moved).words ≡ true
  segment_call-formed prints moved fits =
      kept-formed (segment_call s prints w elected moved).answer formed
      (λ r. (segment_call_refused s w elected prints moved r).0)
      (λ a. (segment_call_lost s w elected prints moved fits a).stored.formed)

  pub step_call-formed : (falls : Bool) (from : Option Price) (price : Price) (moved : ℕ) → PriceFits price
      → well_formed (step_call s falls from price w elected moved).words ≡ true
  step_call-formed falls from price moved fits =
      kept-formed (step_call s falls from price w elected moved).answer formed
      (λ r. (step_call_refused s w elected falls from price moved r).0)
      (λ a. (step_call_lost s w elected falls from price moved fits a).stored.formed)

  pub walk_call-formed : (prev : Option Price) (prices : List Price) → All PriceFits prices
      → well_formed (walk_call s prev prices w elected).words ≡ true
  walk_call-formed prev prices fits =
      kept-formed (walk_call s prev prices w elected).answer formed
      (λ r. (walk_call_refused s w elected prev prices r).0)
      (λ a. (walk_call_lost s w elected prev prices fits a).stored.formed)

  module _ (script : List ℕ) (words : All IsWord script) where
    pub pass_call-formed : (prints : PrintSegment) → SegmentFits prints
        → well_formed (pass_call s script prints w elected).words ≡ true
    pass_call-formed prints fits =
        kept-formed (pass_call s script prints w elected).answer formed
        (λ r. (pass_call_refused s w elected script prints r).0)
        (λ a. (pass_call_lost s w elected script words prints fits a).stored.formed)

    pub run_call-formed : (trade : Option Price) (path : PrintPath) → PriceFits path.first → TradeFits trade
        → well_formed (run_call s script trade w elected path).words ≡ true
    run_call-formed trade path first last =
        kept-formed (run_call s script trade w elected path).answer formed
        (λ r. (run_call_refused s w elected script trade path r).0)
        (λ a. (run_call_lost s w elected script words trade path first last a).stored.formed)
