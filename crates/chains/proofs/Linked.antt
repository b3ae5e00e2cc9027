-- A chain of links: no record is there twice, and its words are the heads and links of a list.
use Rattle.chains.proofs.OneChain.{linked_distinct}
use Prim.Native.Nat.{ℕ, zero, suc, ◌≤◌}
use native.Mathlib.Omega.{arith}
use mathlib.Core.Path.{◌≡◌, refl, sym, ◌∙◌}
use mathlib.Core.Logic.{◌≢◌}
use mathlib.Core.List.{List, [], ◌∷◌}
use borrow.Author.Tests.{eq-eqb, ne_eqb}
use lib.ListN.{length, get_or}
use Rattle.book.proofs.Sort.{Distinct}
use Rattle.book.proofs.Lists.{all_map_both}
use Rattle.book.proofs.ReadBack.{next_in_here, next_in_there}
use Rattle.book.specs.Lists.{head_or0, All}
use Rattle.book.specs.Words.{next_in, cell, record_word, free_from}
use Rattle.chains.specs.Links.{Linked}
use Rattle.book.specs.Sizes.{next_by_stop}

module _ (n : ℕ) (w : List ℕ) (k : ℕ) where
  ------------------------------------------------------------------------
  -- Heads and links

  -- word k of record j names what follows it in the list
  abbrev pub Names : List ℕ → ℕ → Type 0
  Names l j = record_word w j k ≡ next_in l j

  names_later : (i : ℕ) (l : List ℕ) → All (λ j. i ≢ j) l → All (Names l) l → All (Names (i ∷ l)) l
  names_later i l d h =
      all_map_both {P = λ j. i ≢ j} {Q = Names l} {R = Names (i ∷ l)} (λ j u e. e ∙ sym (next_in_there i j l u)) l d h

  names_earlier : (i : ℕ) (l : List ℕ) → All (λ j. i ≢ j) l → All (Names (i ∷ l)) l → All (Names l) l
  names_earlier i l d h =
      all_map_both {P = λ j. i ≢ j} {Q = Names (i ∷ l)} {R = Names l} (λ j u e. e ∙ next_in_there i j l u) l d h

  pub linked_head : (p : ℕ) (l : List ℕ) → Linked n w k p l → get_or w p 0 ≡ head_or0 l
  unfolding head_or0
  linked_head p [] c = c
  linked_head p (j ∷ l) c = c.0

  pub linked-names : (p : ℕ) (l : List ℕ) → Linked n w k p l → All (Names l) l
  unfolding record_word
  linked-names p [] c = tt
  linked-names p (i ∷ l) c = (
    linked_head (cell i k) l c.3
        ∙ sym (next_in_here i l),
    names_later i l (linked_distinct n k w p (i ∷ l) c).0
        (linked-names (cell i k) l c.3),
  )

  pub names_linked : (p : ℕ) (l : List ℕ) → Distinct l → All (λ j. (1 ≤ j) × (j ≤ n)) l → All (Names l) l
      → get_or w p 0 ≡ head_or0 l → Linked n w k p l
  unfolding record_word head_or0
  names_linked p [] d r h e = e
  names_linked p (i ∷ l) d r h e = (
    e,
    r.0.0,
    r.0.1,
    names_linked (cell i k) l d.1 r.1 (names_earlier i l d.0 h.1)
        (h.0 ∙ next_in_here i l),
  )

-- the free chain is read along its links
pub linked-free_from : (n : ℕ) (w : List ℕ) (f p : ℕ) (l : List ℕ) → Linked n w 9 p l → length l ≤ f
    → free_from w f (get_or w p 0) ≡ l
unfolding free_from record_word
linked-free_from n w zero p [] c h = refl
linked-free_from n w (suc f) p [] c h = rw (eq-eqb (get_or w p 0) 0 c)
linked-free_from n w zero p (j ∷ l) c h = absurd (omega arith)
linked-free_from n w (suc f) p (j ∷ l) c h =
    rw (c.0, ne_eqb j 0 (omega (arith, c.1)), linked-free_from n w f (cell j next_by_stop) l c.3 (omega arith))
