-- Laws of ranks: a pair of words compares by its first and, for ties, its second, and an order of stops is that of
-- their ranks.
use Prim.Native.Nat.{ℕ, ◌+◌, ◌-◌, ◌*◌, ◌^◌, ◌≤◌, ◌<◌}
use mathlib.Core.Path.{◌≡◌, refl, sym, ◌∙◌}
use mathlib.Core.Bool.{Bool, true, false, ◌||◌}
use native.Mathlib.Omega.{arith}
use borrow.Author.Tests.{ltb-true, ltb-false, lt-ltb, le-ltb, eqb-true, eqb-false, eq-eqb, ne_eqb}
use borrow.Table.Steps.{cases}
use lib.Dec.{ltb, eqb}
use Rattle.pricelevel.specs.declared.Side.TheVariants.{Buy, Sell}
use Rattle.book.specs.Valid.{StopFits}
use Rattle.book.specs.Book.{stop_of, watermark_of, seq_of, lexicographic, before}
use Rattle.book.specs.declared.Chain.{Chain}
use Rattle.book.specs.declared.Chain.TheVariants.{ByStop, ByWatermark}
use Rattle.book.specs.declared.StopEntry.{StopEntry}
use Rattle.chains.specs.Rank.{top, rank}

-- two tests for less agree where each outcome of the one gives that of the other
pub ltb_same : (a b c d : ℕ) → (a < b → c < d) → (b ≤ a → d ≤ c) → ltb a b ≡ ltb c d
ltb_same a b c d f g =
    cases (ltb a b) (λ e. e ∙ sym (lt-ltb c d (f (ltb-true a b e)))) (λ e. e ∙ sym (le-ltb c d (g (ltb-false a b e))))

pub pair_tie : (a b c d : ℕ) → a ≡ c → ltb b d ≡ ltb (a * 2 ^ 64 + b) (c * 2 ^ 64 + d)
pair_tie a b c d e = ltb_same b d (a * 2 ^ 64 + b) (c * 2 ^ 64 + d) (omega arith) (omega arith)

pub pair_key : (a b c d : ℕ) → b < 2 ^ 64 → d < 2 ^ 64 → (a ≡ c → ⊥) → ltb a c ≡ ltb (a * 2 ^ 64 + b) (c * 2 ^ 64 + d)
pair_key a b c d hb hd e = ltb_same a c (a * 2 ^ 64 + b) (c * 2 ^ 64 + d) (omega arith) (omega arith)

-- by a key, and between equal keys by a tie-break: as one number
pub lexicographic-pair : (a b c d : ℕ) → b < 2 ^ 64 → d < 2 ^ 64
    → lexicographic (ltb a c) a c (ltb b d) ≡ ltb (a * 2 ^ 64 + b) (c * 2 ^ 64 + d)
unfolding lexicographic
lexicographic-pair a b c d hb hd = cases (eqb a c)
    (λ e. rw (e, le-ltb a c (omega (arith, eqb-true))) (pair_tie a b c d (eqb-true a c e)))
    (λ e. rw e (go (ltb a c) refl e))
  where
    go : (t : Bool) → ltb a c ≡ t → eqb a c ≡ false → (t || false) ≡ ltb (a * 2 ^ 64 + b) (c * 2 ^ 64 + d)
    go true f e = sym f ∙ pair_key a b c d hb hd (eqb-false a c e)
    go false f e = sym f ∙ pair_key a b c d hb hd (eqb-false a c e)

-- complements turn an order of words around
top_ltb : (a c : ℕ) → a < 2 ^ 64 → c < 2 ^ 64 → ltb c a ≡ ltb (top - a) (top - c)
top_ltb a c ha hc = ltb_same c a (top - a) (top - c) (omega arith) (omega arith)

top_eqb : (a c : ℕ) → a < 2 ^ 64 → c < 2 ^ 64 → eqb a c ≡ eqb (top - a) (top - c)
top_eqb a c ha hc = cases (eqb a c)
    (λ e. e ∙ sym (eq-eqb (top - a) (top - c) (omega (arith, eqb-true))))
    (λ e. e ∙ sym (ne_eqb (top - a) (top - c) (λ q. eqb-false a c e (omega arith))))

-- a chain ascends in its rank
pub before-rank : (c : Chain) (x y : StopEntry) → StopFits x → StopFits y → before c x y ≡ ltb (rank c x) (rank c y)
unfolding before rank lexicographic
before-rank (ByStop Sell) x y f g =
    rw (top_ltb (stop_of x) (stop_of y) f.stop g.stop, top_eqb (stop_of x) (stop_of y) f.stop g.stop)
    (lexicographic-pair (top - stop_of x) (seq_of x) (top - stop_of y) (seq_of y) f.seq g.seq)
before-rank (ByStop Buy) x y f g = lexicographic-pair (stop_of x) (seq_of x) (stop_of y) (seq_of y) f.seq g.seq
before-rank (ByWatermark Sell) x y f g =
    lexicographic-pair (watermark_of x) (seq_of x) (watermark_of y) (seq_of y) f.seq g.seq
before-rank (ByWatermark Buy) x y f g =
    rw (
      top_ltb (watermark_of x) (watermark_of y) f.watermark g.watermark,
      top_eqb (watermark_of x) (watermark_of y)
          f.watermark g.watermark,
      top_ltb (seq_of x) (seq_of y) f.seq g.seq,
    )
    (lexicographic-pair (top - watermark_of x) (top - seq_of x) (top - watermark_of y) (top - seq_of y)
    (omega (arith, f.seq)) (omega (arith, g.seq)))

-- a test of two numbers is one of those that they equal
pub ltb_told : {t u : Bool} {x y a b : ℕ} → t ≡ ltb x y → x ≡ a → y ≡ b → t ≡ u → ltb a b ≡ u
ltb_told p q r s = cc
