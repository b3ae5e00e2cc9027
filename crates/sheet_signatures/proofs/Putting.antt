-- Values put into a list one behind the other.
use Prim.Native.Nat.{ℕ, suc, ◌+◌, ◌≤◌}
use mathlib.Core.Path.{◌≡◌, ap, ◌∙◌}
use mathlib.Core.List.{List, [], ◌∷◌, ◌++◌}
use native.Mathlib.Omega.{arith}
use lib.ListN.{length, set, take}
use lib.Seq.{sets, take_all}
use Rattle.text_numbers.specs.Steps.{values_of}
use Rattle.text_numbers.specs.declared.Step.{Step}

-- two runs, one behind the other, are one
pub sets_append : (l : List ℕ) (at : ℕ) (a b : List ℕ) → sets (sets l at a) (at + length a) b ≡ sets l at (a ++ b)
sets_append l at [] b = ap (λ (k : ℕ). sets l k b) (omega arith)
sets_append l at (x ∷ a) b =
    let e : at + suc (length a) ≡ suc at + length a = omega arith in
    ap (λ (k : ℕ). sets (sets (set l at x) (suc at) a) k b) e ∙ sets_append (set l at x) (suc at) a b

-- one value more
pub one_more : (l m n : List ℕ) (at v : ℕ) (vs : List ℕ) → m ≡ sets l at vs → n ≡ set m (at + length vs) v → n ≡ sets l at (vs ++ (v ∷ []))
one_more l m n at v vs e f = f ∙ rw e (sets_append l at vs (v ∷ []))

-- so many of an argument's five values, all of them at the most
pub values_size : (s : Step) (k : ℕ) → s.size ≡ k → values_of s ≡ take k (s.a ∷ s.b ∷ s.c ∷ s.d ∷ s.e ∷ [])
unfolding values_of
values_size s k e = rw e

pub values_all : (s : Step) → 5 ≤ s.size → values_of s ≡ s.a ∷ s.b ∷ s.c ∷ s.d ∷ s.e ∷ []
unfolding values_of
values_all s h = take_all s.size (s.a ∷ s.b ∷ s.c ∷ s.d ∷ s.e ∷ []) h

-- where so many are put, the values are
pub all_put : (l n : List ℕ) (at next : ℕ) (vs ws : List ℕ) → ws ≡ vs → n ≡ sets l at vs → next ≡ at + length vs → length vs ≤ 5
    → (n ≡ sets l at ws) × ((next ≡ at + length ws) × (next ≤ at + 5))
all_put l n at next vs ws e p q h = rw e (p, (q, omega arith))
