-- What the call answers and lists, refused and accepted.
use Prim.Native.Nat.{ℕ, ◌≤◌}
use mathlib.Core.Path.{◌≡◌, refl, sym, ap}
use mathlib.Core.List.{List, map}
use borrow.Author.Tests.{leb-true}
use lib.Dec.{leb}
use lib.ListN.{length}
use Rattle.error.specs.Answer.{refused, accepted}
use Rattle.error.specs.Questions.{first_no, decide}
use Rattle.pricelevel.proofs.Bools.{and_parts}
use Rattle.pricelevel.specs.Price.{price_word}
use Rattle.pricelevel.specs.declared.Price.{Price}
use Rattle.book.proofs.Questions.{first_no_none}
use Rattle.book.specs.Calls.{written}
use Rattle.book.specs.TurningPoints.{turning_points, turning_points_questions, turning_points_call}
use Rattle.std.specs.Prelude.{None, Some}

module _ (prices : List Price) (list : ℕ) (h : None ≡ first_no (turning_points_questions prices list)) where
  pub accepted_some : 1 ≤ length prices
  unfolding turning_points_questions
  accepted_some =
      leb-true _ _ (and_parts (leb 1 (length prices)) _ (first_no_none (turning_points_questions prices list) (sym h)).0).0

  pub accepted_room : length prices ≤ list
  unfolding turning_points_questions
  accepted_room = leb-true _ _ (first_no_none (turning_points_questions prices list) (sym h)).1.0

module _ (prices : List Price) (list : List ℕ) where
  pub turning_points_refused : (k : ℕ) → Some k ≡ first_no (turning_points_questions prices (length list))
      → (refused k ≡ (turning_points_call prices (length list)).answer)
      × (list ≡ written (map price_word (turning_points_call prices (length list)).listed) list)
  unfolding turning_points_call decide written
  turning_points_refused k h = rw (← h) (refl, refl)

  pub turning_points_done : (m : ℕ) (after : List ℕ) → None ≡ first_no (turning_points_questions prices (length list))
      → m ≡ length (turning_points prices)
      → after ≡ written (map price_word (turning_points prices)) list
      → (accepted m ≡ (turning_points_call prices (length list)).answer)
      × (after ≡ written (map price_word (turning_points_call prices (length list)).listed) list)
  unfolding turning_points_call decide
  turning_points_done m after h count e = rw (← h) (ap accepted count, e)
