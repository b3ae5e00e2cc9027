-- The watermark chain of the book after an election is that of the book before, without the elected.
use Prim.Native.Nat.{ℕ, ◌-◌}
use native.Mathlib.Omega.{arith}
use mathlib.Core.Path.{◌≡◌, refl, sym, ap, ◌∙◌}
use mathlib.Core.Bool.{true, false}
use mathlib.Core.List.{List, [], ◌∷◌}
use borrow.Author.Tests.{eqb-true, eqb-false}
use borrow.Table.Steps.{cases}
use lib.Dec.{T, eqb}
use lib.ListN.{get_or, length-set}
use lib.Seq.{get_or-set_same, get_or-set_other}
use Rattle.pricelevel.specs.declared.Price.{Price}
use Rattle.pricelevel.specs.declared.Side.{Side}
use Rattle.stop_terms.specs.Terms.{elected_at}
use Rattle.book.specs.Steps.{elected_in, taken_on}
use Rattle.book.specs.Valid.{Valid, Fits}
use Rattle.book.specs.Book.{Slot, vacant, held, Book}
use Rattle.book.specs.Store.{vacated}
use Rattle.book.specs.Words.{chain_indices, entry_at}
use Rattle.book.specs.declared.Chain.TheVariants.{ByWatermark}
use Rattle.chains.proofs.Members.{has_here, has_there}
use Rattle.chains.specs.Indices.{remove, has}
use Rattle.book.specs.Chains.{Member}
use Rattle.pending_stops.proofs.ChainChanges.{chain_member, chain_out}
use Rattle.electing.proofs.Elected.{First}
use Rattle.electing.proofs.Remainder.{taken_none, none_member}
use Rattle.electing.proofs.Departures.{taken_step, one_by_one}
use Rattle.electing.specs.Elected.{unelected}

module _ (price : Price) (w : List ℕ) where
  unelected_all : (l : List ℕ) → ((j : ℕ) → T (has j l) → elected_at (entry_at w j).terms price ≡ false)
      → unelected price w l ≡ l
  unfolding unelected
  unelected_all [] h = refl
  unelected_all (i ∷ l) h = rw (h i (has_here i l), unelected_all l (λ j t. h j (has_there j i l t)))

  -- one of the elected more or less
  unelected-remove : (i : ℕ) (l : List ℕ) → elected_at (entry_at w i).terms price ≡ true
      → unelected price w (remove i l) ≡ unelected price w l
  unfolding unelected remove
  unelected-remove i [] e = refl
  unelected-remove i (j ∷ l) e = cases (eqb j i)
      (λ q. rw (q, eqb-true j i q, e))
      (λ q. rw (q, unelected-remove i l e))

-- the words give the stops of the side
abbrev pub Entries : Side → List ℕ → List Slot → Type 0
Entries side w ss = (j : ℕ) (m : Member side ss j) → entry_at w j ≡ m.entry

-- and those that are left when one record is vacated
entries-vacated : (side : Side) (w : List ℕ) (b : Book) (i : ℕ) → Entries side w b.slots
    → Entries side w (vacated i b).slots
unfolding vacated
entries-vacated side w b i h j m =
    h j (record {
      from = m.from;
      to = rw length-set at m.to;
      entry = m.entry;
      there = there;
      is_of_side = m.is_of_side;
    })
  where
    there : get_or b.slots (j - 1) vacant ≡ held m.entry
    there = cases (eqb (j - 1) (i - 1))
        (λ e.
        let same = eqb-true (j - 1) (i - 1) e in
        let gone = get_or-set_same b.slots (i - 1) vacant vacant (omega (arith, m.from, rw length-set at m.to)) in
        let here = rw same at m.there in
        let z : ◌≡◌ {A = ℕ} 0 1 = cc in
        absurd (omega arith))
        (λ e. sym (get_or-set_other b.slots (i - 1) (j - 1) vacant vacant (eqb-false (j - 1) (i - 1) e)) ∙ m.there)

module _ (side : Side) (price : Price) (w : List ℕ) where
  pub unelected_taken : (b : Book) → Valid b → Fits b → Entries side w b.slots
      → unelected price w (chain_indices (ByWatermark side) b) ≡ chain_indices (ByWatermark side) (taken_on side price b)
  unelected_taken = one_by_one side price Left none step
    where
      Left : Book → Type 0
      Left b = Entries side w b.slots
          → unelected price w (chain_indices (ByWatermark side) b) ≡ chain_indices (ByWatermark side)
          (taken_on side price b)

      none : (b : Book) → Valid b → Fits b → elected_in side price b ≡ [] → Left b
      none b v f e h =
          rw (taken_none side price b e)
          (unelected_all price w (chain_indices (ByWatermark side) b)
          (λ j t. let m = chain_member (ByWatermark side) b f j t in rw (h j m) (none_member side price b e j m)))

      step : (b : Book) → Valid b → Fits b → (i : ℕ) → First side price b i → Left (vacated i b) → Left b
      step b v f i q left h =
          let m = q.member in
          sym (unelected-remove price w i (chain_indices (ByWatermark side) b) (rw (h i m) q.elected))
          ∙ ap (unelected price w) (sym (chain_out (ByWatermark side) b v f i m.from))
          ∙ left (entries-vacated side w b i h) ∙ ap (chain_indices (ByWatermark side)) (taken_step v f q)
