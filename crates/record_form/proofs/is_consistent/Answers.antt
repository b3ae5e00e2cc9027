-- `record_form::is_consistent` meets its contract: every inconsistency has a number.
use mathlib.Core.Path.{◌≡◌, refl, ap, sym, ◌∙◌}
use Rattle.std.specs.Prelude.{Bool, true, false, not, None, Option, Some, is_none, is_some}
use Rattle.stop_terms.specs.Terms.{inconsistency_number}
use Rattle.stop_terms.specs.declared.Inconsistency.{Inconsistency}
use Rattle.stop_terms.specs.declared.Inconsistency.TheVariants.{ZeroTrail, SellAboveWatermark, BuyBelowWatermark}
use Rattle.book.specs.Words.{consistent}
use Rattle.record_form.proofs.is_consistent.Goals as goal

is_none_number : (found : Option Inconsistency) → is_none found ≡ is_none (inconsistency_number found)
unfolding inconsistency_number
is_none_number None = refl
is_none_number (Some ZeroTrail) = refl
is_none_number (Some SellAboveWatermark) = refl
is_none_number (Some BuyBelowWatermark) = refl

-- by what the library's `is_none` ensures
answered : (found : Option Inconsistency) (b : Bool) → is_some found ≡ not b → b ≡ is_none (inconsistency_number found)
answered found true h = rw (← is_none_number found, h)
answered found false h = rw (← is_none_number found, h)

pub returns : goal.returns
unfolding consistent
returns c = rw (← c.inconsistency.ensures) (answered _ _ c.is_none.ensures)
