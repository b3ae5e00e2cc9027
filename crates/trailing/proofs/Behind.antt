-- Laws of the test whether a record's watermark is behind the price.
use Prim.Native.Nat.{ℕ, ◌≤◌}
use mathlib.Core.Path.{◌≡◌, ◌∙◌}
use mathlib.Core.Bool.{Bool, true, false}
use mathlib.Core.List.{List}
use native.Mathlib.Omega.{arith}
use borrow.Author.Tests.{eqb-true, eqb-false, eq-eqb, ne_eqb}
use borrow.Table.Steps.{cases}
use lib.Dec.{eqb}
use Rattle.pricelevel.specs.declared.Price.{Price}
use Rattle.pricelevel.specs.declared.Side.{Side}
use Rattle.stop_terms.specs.Terms.{behind}
use Rattle.book.specs.Book.{watermark_of}
use Rattle.book.specs.Words.{entry_at}
use Rattle.trailing.specs.Trail.{if_behind}

module _ (side : Side) (price : Price) (w : List ℕ) (i : ℕ) where
  abbrev is_behind : Bool
  is_behind = behind side (watermark_of (entry_at w i)) price.0

  pub if_behind_none : i ≡ 0 → if_behind side price w i ≡ 0
  unfolding if_behind
  if_behind_none e = rw (eq-eqb i 0 e)

  pub if_behind_some : (i ≡ 0 → ⊥) → is_behind ≡ true → if_behind side price w i ≡ i
  unfolding if_behind
  if_behind_some n e = rw (ne_eqb i 0 n, e)

  pub if_behind_not : (i ≡ 0 → ⊥) → is_behind ≡ false → if_behind side price w i ≡ 0
  unfolding if_behind
  if_behind_not n e = rw (ne_eqb i 0 n, e)

  -- what the answer tells
  pub behind_none : if_behind side price w i ≡ 0 → 1 ≤ i → is_behind ≡ false
  behind_none z low = cases is_behind (λ e. absurd (omega (arith, if_behind_some (λ q. omega arith) e))) (λ e. e)

  pub behind_some : (j : ℕ) → j ≡ if_behind side price w i → (j ≡ 0 → ⊥) → (j ≡ i) × (is_behind ≡ true)
  behind_some j q n = cases (eqb i 0)
      (λ e. absurd (n (q ∙ if_behind_none (eqb-true i 0 e))))
      (λ e. cases is_behind
      (λ f. (q ∙ if_behind_some (eqb-false i 0 e) f, f))
      (λ f. absurd (n (q ∙ if_behind_not (eqb-false i 0 e) f))))
