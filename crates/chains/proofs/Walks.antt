-- A walk along a chain: the state of a loop that stands at p, and what a step makes of it. What the loop is to find is
-- `f head l`, for the whole chain l; at p it is `f p` of what is left of the chain.
use Prim.Native.Nat.{ℕ, ◌-◌, ◌≤◌, ◌<◌}
use mathlib.Core.Path.{◌≡◌, ap, ◌∙◌}
use mathlib.Core.List.{List, [], ◌∷◌}
use native.Mathlib.Omega.{arith}
use lib.Dec.{T}
use lib.ListN.{length, get_or}
use Rattle.book.specs.Words.{cell}
use Rattle.book.specs.Sizes.{record_length}
use Rattle.chains.proofs.Cells.{cell_below}
use Rattle.chains.proofs.OneChain.{linked_unique, linked_length}
use Rattle.chains.specs.Indices.{has}
use Rattle.chains.specs.Links.{Linked, Walk}
use Rattle.chains.specs.Records.{Room}

module _ (n : ℕ) (w : List ℕ) (k head : ℕ) (f : ℕ → List ℕ → ℕ) (P : List ℕ → Type 0) where
  -- at p, with `rest` to come
  pub record At (p left : ℕ) : Type 0 where
    pub rest : List ℕ
    pub start : p < length w
    pub short : length rest ≤ left
    pub linked : Linked n w k p rest
    pub keeps : P rest
    pub same : (l : List ℕ) → Linked n w k head l → f head l ≡ f p rest

  -- at p, where record j is next, and `rest` after it
  pub record Next (p left j : ℕ) : Type 0 where
    pub rest : List ℕ
    pub least : 1 ≤ j
    pub most : j ≤ n
    pub short : length rest < left
    pub linked : Linked n w k (cell j k) rest
    pub keeps : P (j ∷ rest)
    pub same : (l : List ℕ) → Linked n w k head l → f head l ≡ f p (j ∷ rest)

  pub at_first : (l : List ℕ) → Walk n w k head l → P l → At head n
  at_first l h t = record {
    rest = l;
    start = h.start;
    short = linked_length n k w head l h.linked;
    linked = h.linked;
    keeps = t;
    same = λ m c. ap (f head) (linked_unique n k w head m l c h.linked);
  }

  -- the chain ends here
  pub at_end : {p left : ℕ} (a : At p left) → get_or w p 0 ≡ 0 → (l : List ℕ) → Linked n w k head l → f head l ≡ f p []
  at_end {p} a z l c = go a.rest a.linked (a.same l c)
    where
      go : (r : List ℕ) → Linked n w k p r → f head l ≡ f p r → f head l ≡ f p []
      go [] d e = e
      go (j ∷ r) d e = absurd (omega (arith, d.0, d.1))

  -- the chain goes on, where what is left of it may not be empty
  pub at_next : {p left : ℕ} (a : At p left) → (P [] → get_or w p 0 ≡ 0 → ⊥) → Next p left (get_or w p 0)
  at_next {p} {left} a z = go a.rest a.short a.linked a.keeps a.same
    where
      go : (r : List ℕ) → length r ≤ left → Linked n w k p r → P r
          → ((l : List ℕ) → Linked n w k head l → f head l ≡ f p r) → Next p left (get_or w p 0)
      go [] s d t e = absurd (z t d)
      go (j ∷ r) s d t e = rw d.0 (record {
        rest = r;
        least = d.1;
        most = d.2;
        short = omega arith;
        linked = d.3;
        keeps = t;
        same = e;
      })

  -- past record j
  pub at_past : {p left j : ℕ} → Room n w → k < record_length → (m : Next p left j) → P m.rest
      → f p (j ∷ m.rest) ≡ f (cell j k) m.rest
      → At (cell j k) (left - 1)
  at_past {p} {left} {j} r h m t e = record {
    rest = m.rest;
    start = omega (arith, cell_below n j k m.least m.most h, r.room);
    short = omega (arith, m.short);
    linked = m.linked;
    keeps = t;
    same = λ l c. m.same l c ∙ e;
  }

-- no condition on what is left
abbrev pub any : List ℕ → Type 0
any l = Unit {0}

-- i is still to come
abbrev pub still : ℕ → List ℕ → Type 0
still i l = T (has i l)
