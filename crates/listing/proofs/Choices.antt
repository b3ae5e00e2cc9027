-- A choice among the stops of a chain, in its order: what is chosen from the sorted stops are the chosen stops, sorted.
use Prim.Native.Nat.{ℕ, suc, ◌≤◌, ◌<◌}
use native.Mathlib.Omega.{arith}
use mathlib.Core.Path.{◌≡◌, refl, sym, ap, ◌∙◌}
use mathlib.Core.Bool.{Bool, true, false, cond}
use mathlib.Core.List.{List, [], ◌∷◌}
use borrow.Author.Tests.{ltb-true, ltb-false, lt-ltb}
use borrow.Table.Steps.{cases}
use Rattle.book.proofs.Lists.{all_map, all_map_both}
use Rattle.book.proofs.SortedParts.{AllStops}
use Rattle.book.specs.Valid.{StopFits}
use Rattle.book.specs.Book.{Slot, before, Pending, with_index, gather, sort, earlier_in}
use Rattle.book.proofs.Sort.{insert, insert_by_all, sort_by_all}
use Rattle.book.specs.declared.Chain.{Chain}
use Rattle.book.specs.declared.StopEntry.{StopEntry}
use Rattle.chains.proofs.Ranks.{before-rank}
use Rattle.chains.specs.Rank.{rank}
use Rattle.book.specs.Lists.{sort_by, insert_by, All}
use Rattle.std.specs.Prelude.{None, Option, Some}

module _ (keep : StopEntry → Bool) where
  -- the stops that pass a test
  unfoldable pub chosen : List Pending → List Pending
  chosen [] = []
  chosen (p ∷ l) = cond (keep p.entry) (p ∷ chosen l) (chosen l)

  unfoldable pub chosen_of : Option StopEntry → Option StopEntry
  chosen_of None = None
  chosen_of (Some t) = cond (keep t) (Some t) None

  chosen_all : (P : Pending → Type 0) (l : List Pending) → All P l → All P (chosen l)
  unfolding chosen
  chosen_all P [] h = h
  chosen_all P (p ∷ l) h =
      cases (keep p.entry) (λ e. rw e (h.0, chosen_all P l h.1)) (λ e. rw e (chosen_all P l h.1))

  chosen-with_index : (i : ℕ) (o : Option StopEntry) (l : List Pending)
      → chosen (with_index i o l) ≡ with_index i (chosen_of o) (chosen l)
  unfolding chosen chosen_of with_index
  chosen-with_index i None l = refl
  chosen-with_index i (Some t) l = cases (keep t) (λ e. rw e) (λ e. rw e)

  pub chosen-gather : (f g : Slot → Option StopEntry) → ((s : Slot) → chosen_of (f s) ≡ g s) → (i : ℕ) (ss : List Slot)
      → chosen (gather f i ss) ≡ gather g i ss
  unfolding gather chosen
  chosen-gather f g h i [] = refl
  chosen-gather f g h i (s ∷ ss) =
      chosen-with_index i (f s) (gather f (suc i) ss) ∙ rw (h s, chosen-gather f g h (suc i) ss)

------------------------------------------------------------------------
-- In the order of a chain

module _ (c : Chain) where
  -- no stop ranks below one before it
  abbrev Rising : List Pending → Type 0
  Rising [] = Unit {0}
  Rising (x ∷ l) = AllStops (λ t. rank c x.entry ≤ rank c t) l × Rising l

  module _ (x : Pending) (f : StopFits x.entry) where
    ranks_below : (y : Pending) → StopFits y.entry → before c x.entry y.entry ≡ true
        → rank c x.entry < rank c y.entry
    ranks_below y g e = ltb-true _ _ (sym (before-rank c x.entry y.entry f g) ∙ e)

    below_ranks : (y : Pending) → StopFits y.entry → rank c x.entry < rank c y.entry
        → before c x.entry y.entry ≡ true
    below_ranks y g u = before-rank c x.entry y.entry f g ∙ lt-ltb _ _ u

    ranks_above : (y : Pending) → StopFits y.entry → before c x.entry y.entry ≡ false
        → rank c y.entry ≤ rank c x.entry
    ranks_above y g e = ltb-false _ _ (sym (before-rank c x.entry y.entry f g) ∙ e)

    below_first : (l : List Pending) → AllStops (λ t. before c x.entry t ≡ true) l → insert c x l ≡ x ∷ l
    unfolding insert_by
    below_first [] h = refl
    below_first (y ∷ l) h = rw h.0

    -- before the first of a list that rises, so before all
    before_all : (y : Pending) (l : List Pending) → AllStops StopFits (y ∷ l) → Rising (y ∷ l)
        → before c x.entry y.entry ≡ true
        → AllStops (λ t. before c x.entry t ≡ true) (y ∷ l)
    before_all y l g r e =
        let u = ranks_below y g.0 e in (
          e,
          all_map_both {P = λ z. StopFits z.entry} {Q = λ z. rank c y.entry ≤ rank c z.entry}
              (λ z k v. below_ranks z k (omega (arith, u, v))) l g.1 r.0,
        )

    insert-rising : (l : List Pending) → AllStops StopFits l → Rising l → Rising (insert c x l)
    unfolding insert_by
    insert-rising [] g r = (tt, tt)
    insert-rising (y ∷ l) g r = cases (before c x.entry y.entry)
        (λ e. rw e
        let u = ranks_below y g.0 e in (
          (
            omega (arith, u),
            all_map {P = λ z. rank c y.entry ≤ rank c z.entry} (λ z v. omega (arith, u, v)) l
                r.0,
          ),
          r,
        ))
        (λ e. rw e (
          insert_by_all (earlier_in c) (λ z. rank c y.entry ≤ rank c z.entry) x l (ranks_above y g.0 e) r.0,
          insert-rising l g.1 r.1,
        ))

  sort-rising : (l : List Pending) → AllStops StopFits l → Rising (sort c l)
  unfolding sort_by
  sort-rising [] g = tt
  sort-rising (x ∷ l) g =
      insert-rising x g.0 (sort c l) (sort_by_all (earlier_in c) (λ z. StopFits z.entry) l g.1)
      (sort-rising l g.1)

  module _ (keep : StopEntry → Bool) where
    chosen_out : (x : Pending) (l : List Pending) → keep x.entry ≡ false → chosen keep (insert c x l) ≡ chosen keep l
    unfolding insert_by chosen
    chosen_out x [] k = rw k
    chosen_out x (y ∷ l) k = cases (before c x.entry y.entry) (λ e. rw (e, k)) (λ e. rw (e, chosen_out x l k))

    chosen_in : (x : Pending) (l : List Pending) → keep x.entry ≡ true → StopFits x.entry → AllStops StopFits l
        → Rising l
        → chosen keep (insert c x l) ≡ insert c x (chosen keep l)
    unfolding insert_by chosen
    chosen_in x [] k f g r = rw k
    chosen_in x (y ∷ l) k f g r = cases (before c x.entry y.entry)
        (λ e. rw (e, k)
        (sym (below_first x f (chosen keep (y ∷ l))
        (chosen_all keep (λ z. before c x.entry z.entry ≡ true) (y ∷ l) (before_all x f y l g r e)))))
        (λ e. rw e (cases (keep y.entry)
        (λ t. rw (t, e, chosen_in x l k f g.1 r.1))
        (λ t. rw (t, chosen_in x l k f g.1 r.1))))

    pub chosen-sort : (l : List Pending) → AllStops StopFits l → chosen keep (sort c l) ≡ sort c (chosen keep l)
    unfolding sort_by chosen
    chosen-sort [] g = refl
    chosen-sort (x ∷ l) g =
        let h = sort_by_all (earlier_in c) (λ z. StopFits z.entry) l g.1 in
        cases (keep x.entry)
        (λ k. rw k (chosen_in x (sort c l) k g.0 h (sort-rising l g.1) ∙ ap (insert c x) (chosen-sort l g.1)))
        (λ k. rw k (chosen_out x (sort c l) k ∙ chosen-sort l g.1))
