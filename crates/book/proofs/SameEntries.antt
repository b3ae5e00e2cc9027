-- The tests on lists that are handed in decide their equality: every field of every entry counts.
use Prim.Native.Nat.{ℕ}
use mathlib.Core.Path.{◌≡◌, refl, sym, ap, ◌∙◌}
use mathlib.Core.Bool.{Bool, true, false, cond}
use mathlib.Core.List.{List, map}
use native.Mathlib.Omega.{arith}
use borrow.Author.Tests.{eqb-true, eq-eqb}
use lib.Dec.{eqb}
use Rattle.pricelevel.proofs.Bools.{and_parts}
use Rattle.pricelevel.proofs.Identity.{kind_number_injective}
use Rattle.pricelevel.specs.Identity.{kind_number}
use Rattle.pricelevel.specs.Side.{side_number}
use Rattle.pricelevel.specs.declared.Side.{Side}
use Rattle.stop_protection.specs.Collar.{limit_present, limit_high, limit_low}
use Rattle.book.proofs.Lists.{same_by_equal, same_by_refl, same_list_equal, same_list_refl}
use Rattle.book.proofs.ReadBack.{side_from-number}
use Rattle.book.specs.Commit.{same_moved, same_elected, same_records, same_words}
use Rattle.book.specs.Entries.{elected_words, moved_words}
use Rattle.book.specs.Lists.{same_by, same_list}
use Rattle.book.specs.Words.{side_from}
use Rattle.book.specs.declared.Elected.{Elected}
use Rattle.book.specs.declared.Moved.{Moved}
use Rattle.std.specs.Prelude.{None, Option, Some}
use Rattle.stop_protection.specs.declared.LimitPrice.{LimitPrice}

------------------------------------------------------------------------
-- Entries

side_number_injective : (a b : Side) → side_number a ≡ side_number b → a ≡ b
side_number_injective a b e = sym (side_from-number a) ∙ ap side_from e ∙ side_from-number b

limit_injective : (a b : Option LimitPrice) → limit_present a ≡ limit_present b → limit_high a ≡ limit_high b → limit_low a ≡ limit_low b
    → a ≡ b
unfolding limit_present limit_high limit_low
limit_injective None None p h l = refl
limit_injective None (Some y) p h l = absurd (omega arith)
limit_injective (Some x) None p h l = absurd (omega arith)
limit_injective (Some x) (Some y) p h l = λ i. Some (record { 0 = record { high = h i; low = l i } })

flag_injective : (a b : Bool) → cond {A = ℕ} a 1 0 ≡ cond b 1 0 → a ≡ b
flag_injective true true e = refl
flag_injective true false e = absurd (omega arith)
flag_injective false true e = absurd (omega arith)
flag_injective false false e = refl

pub moved_words_injective : (m n : Moved) → moved_words m ≡ moved_words n → m ≡ n
unfolding moved_words
moved_words_injective m n e =
    let k : kind_number m.id.kind ≡ kind_number n.id.kind = cc in
    let h : m.id.high ≡ n.id.high = cc in
    let l : m.id.low ≡ n.id.low = cc in
    let s : m.stop.0 ≡ n.stop.0 = cc in
    λ i. record {
      id = record { kind = kind_number_injective m.id.kind n.id.kind k i; high = h i; low = l i };
      stop = record { 0 = s i };
    }

-- an elected entry's words leave out the kind of its child
pub elected_words_injective : (e f : Elected) → e.child.kind ≡ f.child.kind → elected_words e ≡ elected_words f → e ≡ f
unfolding elected_words
elected_words_injective e f c h =
    let k : kind_number e.id.kind ≡ kind_number f.id.kind = cc in
    let high : e.id.high ≡ f.id.high = cc in
    let low : e.id.low ≡ f.id.low = cc in
    let side : side_number e.side ≡ side_number f.side = cc in
    let stop : e.stop.0 ≡ f.stop.0 = cc in
    let quantity : e.quantity.0 ≡ f.quantity.0 = cc in
    let seq : e.seq.0 ≡ f.seq.0 = cc in
    let trigger : e.trigger.0 ≡ f.trigger.0 = cc in
    let present : limit_present e.limit ≡ limit_present f.limit = cc in
    let limit-high : limit_high e.limit ≡ limit_high f.limit = cc in
    let limit-low : limit_low e.limit ≡ limit_low f.limit = cc in
    let child-high : e.child.high ≡ f.child.high = cc in
    let child-low : e.child.low ≡ f.child.low = cc in
    let pending : cond {A = ℕ} e.pending 1 0 ≡ cond f.pending 1 0 = cc in
    λ i. record {
      id = record { kind = kind_number_injective e.id.kind f.id.kind k i; high = high i; low = low i };
      side = side_number_injective e.side f.side side i;
      stop = record { 0 = stop i };
      quantity = record { 0 = quantity i };
      seq = record { 0 = seq i };
      trigger = record { 0 = trigger i };
      limit = limit_injective e.limit f.limit present limit-high limit-low i;
      child = record { kind = c i; high = child-high i; low = child-low i };
      pending = flag_injective e.pending f.pending pending i;
    }

pub same_moved_equal : (m n : Moved) → same_moved m n ≡ true → m ≡ n
unfolding same_moved
same_moved_equal m n e = moved_words_injective m n (same_list_equal (moved_words m) (moved_words n) e)

pub same_moved_refl : (m : Moved) → same_moved m m ≡ true
unfolding same_moved
same_moved_refl m = same_list_refl (moved_words m)

pub same_elected_equal : (e f : Elected) → same_elected e f ≡ true → e ≡ f
unfolding same_elected
same_elected_equal e f s =
    let h = and_parts (eqb (kind_number e.child.kind) (kind_number f.child.kind)) _ s in
    elected_words_injective e f (kind_number_injective _ _ (eqb-true _ _ h.0))
    (same_list_equal (elected_words e) (elected_words f) h.1)

pub same_elected_refl : (e : Elected) → same_elected e e ≡ true
unfolding same_elected
same_elected_refl e = rw (eq-eqb (kind_number e.child.kind) _ refl, same_list_refl (elected_words e))

------------------------------------------------------------------------
-- The lists that are handed in

module _ (elected listed : List Elected) (moved shifted : List Moved) where
  pub same_records_equal : same_records elected moved listed shifted ≡ true → (elected ≡ listed) × (moved ≡ shifted)
  unfolding same_records
  same_records_equal e =
      let h = and_parts (same_by same_elected elected listed) _ e in
      (same_by_equal same_elected same_elected_equal elected listed h.0, same_by_equal same_moved same_moved_equal moved shifted h.1)

pub same_records_refl : (elected : List Elected) (moved : List Moved) → same_records elected moved elected moved ≡ true
unfolding same_records
same_records_refl elected moved =
    rw (same_by_refl same_elected same_elected_refl elected, same_by_refl same_moved same_moved_refl moved)

module _ (elected moved : List (List ℕ)) (listed : List Elected) (shifted : List Moved) where
  pub same_words_equal : same_words elected moved listed shifted ≡ true
      → (elected ≡ map elected_words listed) × (moved ≡ map moved_words shifted)
  unfolding same_words
  same_words_equal e =
      let h = and_parts (same_by same_list elected (map elected_words listed)) _ e in
      (same_by_equal same_list same_list_equal elected _ h.0, same_by_equal same_list same_list_equal moved _ h.1)

pub same_words_refl : (listed : List Elected) (shifted : List Moved)
    → same_words (map elected_words listed) (map moved_words shifted) listed shifted ≡ true
unfolding same_words
same_words_refl listed shifted = rw
    (same_by_refl same_list same_list_refl (map elected_words listed), same_by_refl same_list same_list_refl (map moved_words shifted))
