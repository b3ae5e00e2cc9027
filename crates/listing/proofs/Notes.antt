-- What one stop puts on a list.
use Prim.Native.Nat.{ℕ, ◌+◌, ◌<◌, ◌≤◌}
use native.Mathlib.Omega.{arith}
use mathlib.Core.Path.{◌≡◌, refl, ap}
use mathlib.Core.Logic.{◌≢◌}
use mathlib.Core.List.{List, [], ◌∷◌}
use borrow.Author.Tests.{eq-eqb, ne_eqb}
use lib.ListN.{length, set}
use lib.Seq.{sets}
use Rattle.pricelevel.specs.Identity.{kind_number}
use Rattle.pricelevel.specs.Side.{side_number}
use Rattle.pricelevel.specs.declared.Price.{Price}
use Rattle.stop_terms.specs.Terms.{trailed_at}
use Rattle.stop_terms.specs.declared.StopTerms.{StopTerms}
use Rattle.book.specs.Book.{side_of, stop_of, seq_of}
use Rattle.book.specs.Evaluation.{trailed}
use Rattle.book.specs.declared.StopEntry.{StopEntry}
use Rattle.book.specs.Entries.{moved_words}
use Rattle.listing.specs.ChainEntries.{fill_words, moves_of, fill_of, fills_of}

-- the entries es written into a list at a place, and the place after them
abbrev pub Written : List (List ℕ) → ℕ → List (List ℕ) → ℕ → List (List ℕ) → Type 0
Written list at es r after = (r ≡ at + length es) × (after ≡ sets list at es)

module _ (list : List (List ℕ)) (at : ℕ) (es : List (List ℕ)) where
  written_none : es ≡ [] → Written list at es at list
  written_none e = rw e (omega arith, refl)

  written_one : (x : List ℕ) → es ≡ x ∷ [] → Written list at es (at + 1) (set list at x)
  written_one x e = rw e (refl, refl)

room_one : (at : ℕ) (es : List (List ℕ)) (x : List ℕ) → es ≡ x ∷ [] → (most : ℕ) → at + length es ≤ most → at < most
room_one at es x e most h = omega (arith, ap length e)

------------------------------------------------------------------------
-- A move

module _ (price : Price) (t u : StopEntry) (same : t ≡ u) (after : StopTerms)
    (e : after ≡ trailed_at t.terms price) where
  moves_none : after.stop.0 ≡ t.terms.stop.0 → moves_of price u ≡ []
  unfolding moves_of trailed
  moves_none q = rw (← same, ← e, eq-eqb after.stop.0 t.terms.stop.0 q)

  moves_one : after.stop.0 ≢ t.terms.stop.0
      → moves_of price u ≡ (kind_number t.id.kind ∷ t.id.high ∷ t.id.low ∷ after.stop.0 ∷ []) ∷ []
  unfolding moves_of trailed moved_words
  moves_one q = rw (← same, ← e, ne_eqb after.stop.0 t.terms.stop.0 q)

  pub move_room : after.stop.0 ≢ t.terms.stop.0 → (at most : ℕ) → at + length (moves_of price u) ≤ most → at < most
  move_room q at = room_one at (moves_of price u) _ (moves_one q)

  module _ (list : List (List ℕ)) (at : ℕ) where
    pub move_none : after.stop.0 ≡ t.terms.stop.0 → Written list at (moves_of price u) at list
    move_none q = written_none list at (moves_of price u) (moves_none q)

    pub move_one : after.stop.0 ≢ t.terms.stop.0 → (kind : ℕ) → kind ≡ kind_number t.id.kind
        → Written list at (moves_of price u) (at + 1)
        (set list at (kind ∷ t.id.high ∷ t.id.low ∷ after.stop.0 ∷ []))
    move_one q kind k = rw k (written_one list at (moves_of price u) _ (moves_one q))

------------------------------------------------------------------------
-- A fill

pub fill_words_lem : (price : Price) (t u : StopEntry) → t ≡ u → (kind side : ℕ) → kind ≡ kind_number t.id.kind
    → side ≡ side_number (side_of t)
    → (kind ∷ t.id.high ∷ t.id.low ∷ side ∷ stop_of t ∷ t.quantity.0 ∷ seq_of t ∷ price.0
    ∷ 0 ∷ 0 ∷ 0 ∷ 0 ∷ 0 ∷ 0 ∷ []) ≡ fill_of price u
unfolding fill_of fill_words
fill_words_lem price t u same kind side k d = rw (← same, k, d)

module _ (price : Price) (t : StopEntry) where
  pub fill_room : (at most : ℕ) → at + length (fills_of price t) ≤ most → at < most
  unfolding fills_of
  fill_room at most h = omega arith

  pub fill-written : (list after : List (List ℕ)) (at r : ℕ) → (r ≡ at + 1) × (after ≡ set list at (fill_of price t))
      → Written list at (fills_of price t) r after
  unfolding fills_of
  fill-written list after at r e = e
