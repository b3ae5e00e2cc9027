-- Laws of one chain of links: the words determine it, it has no repeats, a store elsewhere keeps it, and what linking a
-- record in and out makes of it.
use Prim.Native.Nat.{ℕ, ◌≤◌, ◌<◌}
use mathlib.Core.Path.{◌≡◌, refl, sym, ap, ◌∙◌}
use mathlib.Core.Logic.{◌≢◌}
use mathlib.Core.Bool.{true, false}
use mathlib.Core.List.{List, [], ◌∷◌, ◌++◌}
use native.Mathlib.Omega.{arith}
use borrow.Author.Tests.{eqb-true, eqb-false, eq-eqb, ne_eqb, le-ltb}
use borrow.Table.Steps.{cases}
use lib.Dec.{T, ltb, eqb}
use lib.ListN.{length, get_or, set, length-set}
use lib.Seq.{get_or-set_same, get_or-set_other}
use Rattle.book.proofs.Sort.{Distinct}
use Rattle.book.proofs.Lists.{all_map}
use Rattle.book.specs.Words.{cell}
use Rattle.chains.proofs.Members.{has_none, has_rest, all-has, distinct_length, has_here, has_there}
use Rattle.chains.specs.Indices.{insert_ranked, remove, has}
use Rattle.chains.specs.Links.{Linked, place, spot, put_in, put_out, word_after}
use Rattle.book.specs.Lists.{insert_by, All}

-- q is word k of no record of l
abbrev pub Apart : ℕ → ℕ → List ℕ → Type 0
Apart q k l = All (λ j. q ≢ cell j k) l

------------------------------------------------------------------------
-- Places in a chain

module _ (k i p : ℕ) where
  pub place_end : (rk : ℕ → ℕ) → place rk k i p [] ≡ p
  unfolding place
  place_end rk = refl

  pub place_stop : (rk : ℕ → ℕ) (j : ℕ) (l : List ℕ) → ltb (rk i) (rk j) ≡ true → place rk k i p (j ∷ l) ≡ p
  unfolding place
  place_stop rk j l e = rw e

  pub place_on : (rk : ℕ → ℕ) (j : ℕ) (l : List ℕ) → ltb (rk i) (rk j) ≡ false
      → place rk k i p (j ∷ l) ≡ place rk k i (cell j k) l
  unfolding place
  place_on rk j l e = rw e

  pub spot_stop : (j : ℕ) (l : List ℕ) → j ≡ i → spot k i p (j ∷ l) ≡ p
  unfolding spot
  spot_stop j l e = rw (eq-eqb j i e)

  pub spot_on : (j : ℕ) (l : List ℕ) → j ≢ i → spot k i p (j ∷ l) ≡ spot k i (cell j k) l
  unfolding spot
  spot_on j l n = rw (ne_eqb j i n)

-- what holds of the start and of each link holds of every place in a chain
module _ (P : ℕ → Type 0) (k i : ℕ) where
  pub place_all : (rk : ℕ → ℕ) (p : ℕ) (l : List ℕ) → P p → All (λ j. P (cell j k)) l → P (place rk k i p l)
  unfolding place
  place_all rk p [] h a = h
  place_all rk p (j ∷ l) h a =
      cases (ltb (rk i) (rk j)) (λ e. rw e h) (λ e. rw e (place_all rk (cell j k) l a.0 a.1))

  pub spot_all : (p : ℕ) (l : List ℕ) → P p → All (λ j. P (cell j k)) l → P (spot k i p l)
  unfolding spot
  spot_all p [] h a = h
  spot_all p (j ∷ l) h a = cases (eqb j i) (λ e. rw e h) (λ e. rw e (spot_all (cell j k) l a.0 a.1))

module _ (n k : ℕ) where
  ------------------------------------------------------------------------
  -- The words determine a chain, and it has no repeats

  pub linked_unique : (w : List ℕ) (p : ℕ) (l m : List ℕ) → Linked n w k p l → Linked n w k p m → l ≡ m
  linked_unique w p [] [] c d = refl
  linked_unique w p [] (j ∷ m) c d = absurd (omega (arith, c, d.0, d.1))
  linked_unique w p (i ∷ l) [] c d = absurd (omega (arith, d, c.0, c.1))
  linked_unique w p (i ∷ l) (j ∷ m) c d =
      let e : i ≡ j = sym c.0 ∙ d.0 in
      let r : l ≡ m = linked_unique w (cell i k) l m c.3 (rw (sym e) at d.3) in
      cc

  -- a chain that is no longer does not come by where the other starts
  apart_from : (w : List ℕ) (p : ℕ) (l : List ℕ) → Linked n w k p l → (q : ℕ) (m : List ℕ) → Linked n w k q m
      → length m ≤ length l → Apart p k m
  apart_from w p l c q [] d h = tt
  apart_from w p l c q (j ∷ m) d h = (
    λ e. let r : l ≡ m = linked_unique w p l m c (rw (sym e) at d.3) in omega (arith, ap length r),
    apart_from w p l c (cell j k) m d.3 (omega arith),
  )

  -- a chain does not come back to where it starts
  pub linked-apart : (w : List ℕ) (p : ℕ) (l : List ℕ) → Linked n w k p l → Apart p k l
  linked-apart w p l c = apart_from w p l c p l c (omega arith)

  pub linked_distinct : (w : List ℕ) (p : ℕ) (l : List ℕ) → Linked n w k p l → Distinct l
  linked_distinct w p [] c = tt
  linked_distinct w p (j ∷ l) c = (
    all_map {P = λ i. cell j k ≢ cell i k} {Q = λ i. j ≢ i} (λ i h e. h (rw e refl)) l
        (linked-apart w (cell j k) l c.3),
    linked_distinct w (cell j k) l c.3,
  )

  pub linked_records : (w : List ℕ) (p : ℕ) (l : List ℕ) → Linked n w k p l → All (λ j. (1 ≤ j) × (j ≤ n)) l
  linked_records w p [] c = tt
  linked_records w p (j ∷ l) c = ((c.1, c.2), linked_records w (cell j k) l c.3)

  pub linked_length : (w : List ℕ) (p : ℕ) (l : List ℕ) → Linked n w k p l → length l ≤ n
  linked_length w p l c =
      distinct_length n l (linked_distinct w p l c) (all-has (λ j. (1 ≤ j) × (j ≤ n)) l (linked_records w p l c))

  ------------------------------------------------------------------------
  -- Stores

  -- at none of its words: the chain stays
  pub linked_set : (w : List ℕ) (p : ℕ) (l : List ℕ) (q v : ℕ) → q ≢ p → Apart q k l → Linked n w k p l
      → Linked n (set w q v) k p l
  linked_set w p [] q v np na c = get_or-set_other w q p v 0 (λ e. np (sym e)) ∙ c
  linked_set w p (j ∷ l) q v np na c = (
    get_or-set_other w q p v 0 (λ e. np (sym e))
        ∙ c.0,
    c.1,
    c.2,
    linked_set w (cell j k) l q v na.0 na.1 c.3,
  )

  -- of the word at p, at q: what starts at p starts at q too
  linked_copy : (w : List ℕ) (p q : ℕ) (l : List ℕ) → q < length w → Apart q k l → Linked n w k p l
      → Linked n (set w q (get_or w p 0)) k q l
  linked_copy w p q [] hq na c = get_or-set_same w q (get_or w p 0) 0 hq ∙ c
  linked_copy w p q (j ∷ l) hq na c = (
    get_or-set_same w q (get_or w p 0) 0 hq
        ∙ c.0,
    c.1,
    c.2,
    linked_set w (cell j k) l q (get_or w p 0) na.0 na.1 c.3,
  )

  ------------------------------------------------------------------------
  -- Linking in and out

  module _ (w : List ℕ) (i : ℕ) (least : 1 ≤ i) (most : i ≤ n)
      (room : (j : ℕ) → 1 ≤ j → j ≤ n → cell j k < length w) where
    -- in, where a chain starts
    pub link_first : (p : ℕ) (l : List ℕ) → p < length w → cell i k ≢ p → Apart (cell i k) k l → Linked n w k p l
        → Linked n (put_in w k i p) k p (i ∷ l)
    link_first p l hp ne na c = (
      get_or-set_same (set w (cell i k) (get_or w p 0)) p i 0 (rw length-set hp),
      least,
      most,
      linked_set (set w (cell i k) (get_or w p 0)) (cell i k) l p i (λ e. ne (sym e)) (linked-apart w p l c)
          (linked_copy w p (cell i k) l (room i least most) na c),
    )

    -- in, at its place
    pub link_in : (rk : ℕ → ℕ) (p : ℕ) (l : List ℕ) → p < length w → cell i k ≢ p → Apart (cell i k) k l
        → Linked n w k p l
        → Linked n (put_in w k i (place rk k i p l)) k p (insert_ranked rk i l)
    unfolding place insert_by
    link_in rk p [] hp ne na c = link_first p [] hp ne na c
    link_in rk p (j ∷ l) hp ne na c = cases (ltb (rk i) (rk j))
        (λ e. rw e (link_first p (j ∷ l) hp ne na c))
        (λ e. rw e (
          get_or-set_other (set w (cell i k) (get_or w q 0)) q p i 0 p≢q
              ∙ get_or-set_other w (cell i k) p (get_or w q 0) 0 (λ e. ne (sym e)) ∙ c.0,
          c.1,
          c.2,
          link_in rk (cell j k) l (room j c.1 c.2) na.0 na.1 c.3,
        ))
      where
        q : ℕ
        q = place rk k i (cell j k) l

        p≢q : p ≢ q
        p≢q = let a = linked-apart w p (j ∷ l) c in place_all (λ x. p ≢ x) k i rk (cell j k) l a.0 a.1

    -- out
    pub link_out : (p : ℕ) (l : List ℕ) → p < length w → T (has i l) → Linked n w k p l
        → Linked n (put_out w k i (spot k i p l)) k p (remove i l)
    unfolding spot remove
    link_out p [] hp h c = absurd (has_none i h)
    link_out p (j ∷ l) hp h c =
        let apart = linked-apart w p (j ∷ l) c in
        cases (eqb j i)
        (λ e. rw e (linked_copy w (cell i k) p l hp apart.1 (rw (eqb-true j i e) at c.3)))
        (λ e. rw e (
          get_or-set_other w (spot k i (cell j k) l) p (get_or w (cell i k) 0) 0
              (spot_all (λ x. p ≢ x) k i (cell j k) l apart.0 apart.1) ∙ c.0,
          c.1,
          c.2,
          link_out (cell j k) l (room j c.1 c.2) (has_rest i j l (eqb-false j i e) h) c.3,
        ))

------------------------------------------------------------------------
-- Its first record

-- a chain whose first record is i
pub record From (n : ℕ) (w : List ℕ) (k i : ℕ) (l : List ℕ) : Type 0 where
  pub rest : List ℕ
  pub is : l ≡ i ∷ rest
  pub least : 1 ≤ i
  pub most : i ≤ n
  pub linked : Linked n w k (cell i k) rest

pub linked_from : (n : ℕ) (w : List ℕ) (k p i : ℕ) (l : List ℕ) → get_or w p 0 ≡ i → (i ≡ 0 → ⊥) → Linked n w k p l
    → From n w k i l
linked_from n w k p i [] e z h = absurd (z (sym e ∙ h))
linked_from n w k p i (j ∷ l) e z h =
    let q : j ≡ i = sym h.0 ∙ e in
    record { rest = l; is = rw q; least = rw q at h.1; most = rw q at h.2; linked = rw q at h.3 }

------------------------------------------------------------------------
-- In two parts

pub word_after_end : (k p : ℕ) (f : List ℕ) (i : ℕ) → word_after k p (f ++ (i ∷ [])) ≡ cell i k
word_after_end k p [] i = refl
word_after_end k p (z ∷ f) i = word_after_end k (cell z k) f i

pub word_after_all : (P : ℕ → Type 0) (k p : ℕ) (f : List ℕ) → P p → All (λ j. P (cell j k)) f → P (word_after k p f)
word_after_all P k p [] h a = h
word_after_all P k p (z ∷ f) h a = word_after_all P k (cell z k) f a.0 a.1

pub linked_after : (n : ℕ) (w : List ℕ) (k p : ℕ) (f l : List ℕ) → Linked n w k p (f ++ l)
    → Linked n w k (word_after k p f) l
linked_after n w k p [] l c = c
linked_after n w k p (z ∷ f) l c = linked_after n w k (cell z k) f l c.3

-- a search passes those that rank at most as the record
pub place_after : (rk : ℕ → ℕ) (k i p : ℕ) (g l : List ℕ) → All (λ j. rk j ≤ rk i) g
    → place rk k i p (g ++ l) ≡ place rk k i (word_after k p g) l
place_after rk k i p [] l h = refl
place_after rk k i p (z ∷ g) l h =
    place_on k i p rk z (g ++ l) (le-ltb (rk i) (rk z) h.0) ∙ place_after rk k i (cell z k) g l h.1

pub spot_after : (k i p : ℕ) (f m : List ℕ) → (T (has i f) → ⊥) → spot k i p (f ++ (i ∷ m)) ≡ word_after k p f
spot_after k i p [] m n = spot_stop k i p i m refl
spot_after k i p (z ∷ f) m n =
    spot_on k i p z (f ++ (i ∷ m)) (λ e. n (rw e (has_here i f)))
    ∙ spot_after k i (cell z k) f m (λ h. n (has_there i z f h))
