-- A watermark chain ascends, so the stops that a price has passed are a beginning of it.
use Prim.Native.Nat.{ℕ, ◌-◌, ◌<◌}
use mathlib.Core.Path.{◌≡◌, refl, ◌∙◌}
use mathlib.Core.Bool.{Bool, true, false}
use mathlib.Core.List.{List, [], ◌∷◌, ◌++◌}
use native.Mathlib.Omega.{arith}
use borrow.Author.Tests.{ltb-true, lt-ltb, le-ltb, eqb-true}
use lib.Dec.{T, ltb, eqb}
use Rattle.pricelevel.proofs.Bools.{and_parts}
use Rattle.pricelevel.specs.declared.Side.{Side}
use Rattle.pricelevel.specs.declared.Side.TheVariants.{Buy, Sell}
use Rattle.stop_terms.proofs.Terms.{past_trans}
use Rattle.stop_terms.specs.Terms.{behind}
use Rattle.book.proofs.Lists.{all_get_d}
use Rattle.book.specs.Valid.{Valid, StopFits, SlotFits, Fits}
use Rattle.book.specs.Book.{Slot, vacant, held, Book, chain_side, watermark_of, seq_of, lexicographic, before}
use Rattle.book.specs.Words.{chain_indices}
use Rattle.book.specs.declared.Chain.{Chain}
use Rattle.book.specs.declared.Chain.TheVariants.{ByWatermark}
use Rattle.book.specs.declared.StopEntry.{StopEntry}
use Rattle.chains.proofs.Members.{has_cases, all-has}
use Rattle.chains.proofs.Ranks.{before-rank}
use Rattle.chains.specs.Indices.{has}
use Rattle.chains.specs.Rank.{rank}
use Rattle.chains.proofs.Ascents.{Ascending, sort_ranked_ascending}
use Rattle.form_check.proofs.Groups.{members_ranks}
use Rattle.chains.proofs.Ranked.{rank_in, chain_members}
use Rattle.book.proofs.Members.{members}
use Rattle.book.specs.Chains.{Member}

lexicographic_first : {X : Type 0} (earlier : Bool) (x y : ℕ) (tie : Bool) → lexicographic earlier x y tie ≡ true
    → (earlier ≡ true → X) → (x ≡ y → X) → X
unfolding lexicographic
lexicographic_first true x y tie e f g = f refl
lexicographic_first false x y tie e f g = g (eqb-true x y (and_parts (eqb x y) tie e).0)

-- a stop after another in a watermark chain has a watermark at or past that one's
watermarks_past : (side : Side) (t u : StopEntry) → before (ByWatermark side) t u ≡ true
    → behind side (watermark_of u) (watermark_of t) ≡ false
unfolding before behind
watermarks_past Sell t u e =
    lexicographic_first (ltb (watermark_of t) (watermark_of u)) (watermark_of t) (watermark_of u)
    (ltb (seq_of t) (seq_of u)) e
    (λ h. le-ltb (watermark_of u) (watermark_of t) (omega (arith, ltb-true (watermark_of t) (watermark_of u) h)))
    (λ h. le-ltb (watermark_of u) (watermark_of t) (omega arith))
watermarks_past Buy t u e =
    lexicographic_first (ltb (watermark_of u) (watermark_of t)) (watermark_of t) (watermark_of u)
    (ltb (seq_of u) (seq_of t)) e
    (λ h. le-ltb (watermark_of t) (watermark_of u) (omega (arith, ltb-true (watermark_of u) (watermark_of t) h)))
    (λ h. le-ltb (watermark_of t) (watermark_of u) (omega arith))

later_past : (side : Side) (price : ℕ) (t u : StopEntry) → StopFits t → StopFits u
    → rank (ByWatermark side) t < rank (ByWatermark side) u
    → behind side (watermark_of t) price ≡ false → behind side (watermark_of u) price ≡ false
later_past side price t u f g lt h =
    past_trans side price (watermark_of t) (watermark_of u) h
    (watermarks_past side t u
    (before-rank (ByWatermark side) t u f g ∙ lt-ltb (rank (ByWatermark side) t) (rank (ByWatermark side) u) lt))

pub chain_ascending : (c : Chain) (b : Book) → Valid b → Fits b → Ascending (rank_in c b.slots) (chain_indices c b)
chain_ascending c b v f =
    rw (chain_members c b f.slots)
    (sort_ranked_ascending (rank_in c b.slots) (members (chain_side c) 1 b.slots)
    (members_ranks c b.slots v.differ f.slots))

pub ascending_rest : (rk : ℕ → ℕ) (f l : List ℕ) → Ascending rk (f ++ l) → Ascending rk l
ascending_rest rk [] l a = a
ascending_rest rk (i ∷ f) l a = ascending_rest rk f l a.1

module _ (side : Side) (price : ℕ) (b : Book) (v : Valid b) (fits : Fits b) where
  member_fits : (j : ℕ) (m : Member side b.slots j) → StopFits m.entry
  member_fits j m = rw m.there at (all_get_d SlotFits b.slots (j - 1) vacant tt fits.slots)

  -- where the price has not passed the next stop of the chain, it has passed none of those to come
  pub rest_past : (front : List ℕ) (i : ℕ) (after : List ℕ) → chain_indices (ByWatermark side) b ≡ front ++ (i ∷ after)
      → (m : Member side b.slots i) → behind side (watermark_of m.entry) price ≡ false
      → (j : ℕ) → T (has j (i ∷ after)) → (o : Member side b.slots j)
      → behind side (watermark_of o.entry) price ≡ false
  rest_past front i after e m h j t o = has_cases j i after t
      (λ q. let same : m.entry ≡ o.entry = held_same (rw q at m.there) o.there in rw same at h)
      (λ u. later_past side price m.entry o.entry (member_fits i m) (member_fits j o) (above u) h)
    where
      held_same : {s : Slot} {x y : StopEntry} → s ≡ held x → s ≡ held y → x ≡ y
      held_same p q = cc

      above : T (has j after) → rank (ByWatermark side) m.entry < rank (ByWatermark side) o.entry
      above u =
          let rk = rank_in (ByWatermark side) b.slots in
          let a = ascending_rest rk front (i ∷ after) (rw e at (chain_ascending (ByWatermark side) b v fits)) in
          rw (m.there, o.there) at (all-has (λ x. rk i < rk x) after a.0 j u)
