-- The buckets of keys: a stop that is apart from those of its bucket is apart from all before it, and the tables that
-- chain a bucket.
use Prim.Native.Nat.{ℕ, zero, suc, ◌+◌, ◌-◌, ◌%◌, ◌^◌, ◌≤◌, ◌<◌}
use native.Mathlib.Omega.{arith}
use mathlib.Core.Path.{◌≡◌, refl, sym, ap, ◌∙◌}
use mathlib.Core.Bool.{Bool, true, false, not, ◌&&◌, false≢true}
use mathlib.Core.List.{List}
use borrow.Author.Tests.{eqb-true, eqb-false, eq-eqb, ne_eqb, not-true}
use borrow.Table.Steps.{cases}
use lib.Dec.{eqb}
use lib.ListN.{length, get_or, set, replicate, length-set, length-replicate, get_or-replicate}
use lib.Seq.{get_or-set_same, get_or-set_other}
use Rattle.pricelevel.proofs.Bools.{and_parts}
use Rattle.pricelevel.proofs.Identity.{same_id_equal}
use Rattle.pricelevel.specs.declared.Id.{Id}
use Rattle.book.specs.Words.{record_word, entry_at}
use Rattle.book.specs.Sizes.{most_records}
use Rattle.form_check.specs.Check.{is_zero}
use Rattle.form_check.specs.Keys.{same_key, Stop, apart, down_from, new_at, buckets, bucket_at, in_bucket, last_of, Bucketed}
use Rattle.form_check.specs.declared.Key.{Key}
use Rattle.form_check.specs.declared.Key.TheVariants.{Sequence, Identity}
use Rattle.form_check.proofs.Keys.{apart_first, apart_stops, by_slot}

------------------------------------------------------------------------
-- The last that passes

module _ (P : ℕ → Bool) where
  pub last_of_most : (m : ℕ) → last_of P m ≤ m
  unfolding last_of
  last_of_most zero = omega arith
  last_of_most (suc m) = cases (P (suc m)) (λ e. rw e (omega arith)) (λ e. rw e (omega (arith, last_of_most m)))

  pub last_of_passes : (m : ℕ) → 0 < last_of P m → P (last_of P m) ≡ true
  unfolding last_of
  last_of_passes zero h = absurd (omega arith)
  last_of_passes (suc m) h = cases (P (suc m)) (λ e. rw (e, e)) (λ e. rw e (last_of_passes m (rw e at h)))

  pub last_of_yes : (i : ℕ) → 1 ≤ i → P i ≡ true → last_of P i ≡ i
  unfolding last_of
  last_of_yes zero h e = absurd (omega arith)
  last_of_yes (suc i) h e = rw e

  pub last_of_no : (i : ℕ) → 1 ≤ i → P i ≡ false → last_of P i ≡ last_of P (i - 1)
  unfolding last_of
  last_of_no zero h e = absurd (omega arith)
  last_of_no (suc i) h e = let z : suc i - 1 ≡ i = omega arith in rw (e, z)

  -- a test that all others pass
  pub down_from_last : (Q : ℕ → Bool) → ((j : ℕ) → P j ≡ false → Q j ≡ true) → (m : ℕ)
      → down_from m Q ≡ down_from (last_of P m) Q
  unfolding last_of down_from
  down_from_last Q h zero = refl
  down_from_last Q h (suc m) = cases (P (suc m)) (λ e. rw e) (λ e. rw (e, h (suc m) e) (down_from_last Q h m))

pub down_from-step : (Q : ℕ → Bool) (j : ℕ) → 0 < j → down_from j Q ≡ (Q j && down_from (j - 1) Q)
unfolding down_from
down_from-step Q zero h = absurd (omega arith)
down_from-step Q (suc j) h = let z : suc j - 1 ≡ j = omega arith in rw z

pub down_from_end : (Q : ℕ → Bool) (j : ℕ) → j ≤ 0 → true ≡ down_from j Q
unfolding down_from
down_from_end Q zero h = refl
down_from_end Q (suc j) h = absurd (omega arith)

------------------------------------------------------------------------
-- Stops of a bucket

module _ (key : Key) (w : List ℕ) where
  in_bucket_stop : (h i : ℕ) → in_bucket key w h i ≡ true → Stop w i × (bucket_at key w i ≡ h)
  unfolding in_bucket is_zero
  in_bucket_stop h i e =
      let p = and_parts (not (is_zero w i 7)) _ e in
      (eqb-false (record_word w i 7) 0 (not-true _ p.0), eqb-true (bucket_at key w i) h p.1)

  stop-in_bucket : (h i : ℕ) → Stop w i → bucket_at key w i ≡ h → in_bucket key w h i ≡ true
  unfolding in_bucket is_zero
  stop-in_bucket h i f e = rw (ne_eqb (record_word w i 7) 0 f, eq-eqb (bucket_at key w i) h e)

  other-in_bucket : (h i : ℕ) → (Stop w i → bucket_at key w i ≡ h → ⊥) → in_bucket key w h i ≡ false
  other-in_bucket h i n =
      cases (in_bucket key w h i) (λ e. let p = in_bucket_stop h i e in absurd (n p.0 p.1)) (λ e. e)

-- all that is asked of a bucket
same_key_bucket : (key : Key) (w : List ℕ) (i j : ℕ) → same_key key w i j ≡ true → bucket_at key w i ≡ bucket_at key w j
unfolding same_key bucket_at entry_at
same_key_bucket Sequence w i j e = rw (eqb-true (record_word w i 8) (record_word w j 8) e)
same_key_bucket Identity w i j e =
    ap (λ (a : Id). (a.high + a.low) % 2 ^ 64 % buckets) (same_id_equal (entry_at w i).id (entry_at w j).id e)

module _ (key : Key) (w : List ℕ) (i : ℕ) (stop : Stop w i) where
  bucket-apart : (j : ℕ) → in_bucket key w (bucket_at key w i) j ≡ false → apart key w j i ≡ true
  bucket-apart j e = by_slot w j (apart_first key w j i) (λ f. apart_stops key w j i f stop ∙ rw (told f))
    where
      told : Stop w j → same_key key w j i ≡ false
      told f = cases (same_key key w j i)
          (λ q. absurd (false≢true (sym e ∙ stop-in_bucket key w (bucket_at key w i) j f (same_key_bucket key w j i q))))
          (λ q. q)

  bucket_tested : (m : ℕ)
      → down_from m (λ j. apart key w j i) ≡ down_from (last_of (in_bucket key w (bucket_at key w i)) m)
      (λ j. apart key w j i)
  bucket_tested = down_from_last (in_bucket key w (bucket_at key w i)) (λ j. apart key w j i) bucket-apart

------------------------------------------------------------------------
-- The walk down a bucket

-- what is left of the test of record i at stop j of its bucket is the whole test
pub record Walking (key : Key) (w : List ℕ) (i j : ℕ) : Type 0 where
  pub before : j < i
  pub member : 0 < j → in_bucket key w (bucket_at key w i) j ≡ true
  pub rest : new_at key w i ≡ down_from j (λ x. apart key w x i)

module _ (key : Key) (w : List ℕ) (i : ℕ) (stop : Stop w i) where
  pub walking_start : 1 ≤ i → Walking key w i (last_of (in_bucket key w (bucket_at key w i)) (i - 1))
  unfolding new_at
  walking_start low =
      let P = in_bucket key w (bucket_at key w i) in
      record {
        before = omega (arith, last_of_most P (i - 1));
        member = last_of_passes P (i - 1);
        rest = bucket_tested key w i stop (i - 1);
      }

  module _ (j : ℕ) (at : Walking key w i j) where
    pub walking_end : j ≤ 0 → true ≡ new_at key w i
    walking_end h = down_from_end (λ x. apart key w x i) j h ∙ sym at.rest

    module _ (some : 0 < j) where
      step : new_at key w i ≡ (not (same_key key w j i) && down_from (j - 1) (λ x. apart key w x i))
      step =
          at.rest ∙ down_from-step (λ x. apart key w x i) j some
          ∙ rw (apart_stops key w j i (in_bucket_stop key w _ j (at.member some)).0 stop)

      pub walking_found : same_key key w j i ≡ true → false ≡ new_at key w i
      walking_found e = sym (step ∙ rw e)

      module _ (nexts : List ℕ) (chained : Bucketed key w (i - 1) nexts) where
        next : get_or nexts j 0 ≡ last_of (in_bucket key w (bucket_at key w i)) (j - 1)
        next =
            let p = in_bucket_stop key w (bucket_at key w i) j (at.member some) in
            rw p.1 at (chained j some (omega (arith, at.before)) p.0)

        pub walking_less : get_or nexts j 0 < j
        walking_less = omega (arith, next, last_of_most (in_bucket key w (bucket_at key w i)) (j - 1))

        pub walking_next : same_key key w j i ≡ false → Walking key w i (get_or nexts j 0)
        walking_next e =
            let P = in_bucket key w (bucket_at key w i) in
            rw next (record {
              before = omega (arith, at.before, last_of_most P (j - 1));
              member = last_of_passes P (j - 1);
              rest = step ∙ rw e (bucket_tested key w i stop (j - 1));
            })

------------------------------------------------------------------------
-- The tables: the last stop of each bucket, and the one before each

-- the stops of records 1 to m are in
pub record Tables (key : Key) (w : List ℕ) (m : ℕ) (heads nexts : List ℕ) : Type 0 where
  pub heads_length : length heads ≡ buckets
  pub nexts_length : length nexts ≡ suc most_records
  pub lasts : (h : ℕ) → h < buckets → get_or heads h 0 ≡ last_of (in_bucket key w h) m
  pub chained : Bucketed key w m nexts

pub tables_none : (key : Key) (w : List ℕ) → Tables key w 0 (replicate buckets 0) (replicate (suc most_records) 0)
unfolding last_of
tables_none key w = record {
  heads_length = simp length-replicate;
  nexts_length = simp length-replicate;
  lasts = λ h less. get_or-replicate buckets h 0 0 less;
  chained = λ j low high. absurd (omega arith);
}

module _ (key : Key) (w : List ℕ) (i : ℕ) (heads nexts : List ℕ) (t : Tables key w (i - 1) heads nexts)
    (low : 1 ≤ i) where
  pub tables_vacant : record_word w i 7 ≡ 0 → Tables key w i heads nexts
  tables_vacant e = record {
    heads_length = t.heads_length;
    nexts_length = t.nexts_length;
    lasts = λ h less. t.lasts h less
        ∙ sym (last_of_no (in_bucket key w h) i low (other-in_bucket key w h i (λ f. absurd (f e))));
    chained = λ j least most f. cases (eqb j i)
        (λ q. let z : j ≡ i = eqb-true j i q in absurd (f (rw z e)))
        (λ q. t.chained j least (omega (arith, eqb-false j i q)) f);
  }

  module _ (b : ℕ) (is : b ≡ bucket_at key w i) (less : b < buckets) where
    pub tables_last : get_or heads b 0 ≡ last_of (in_bucket key w (bucket_at key w i)) (i - 1)
    tables_last = rw (← is) (t.lasts b less)

    pub tables_stop : i ≤ most_records → Stop w i → Tables key w i (set heads b i) (set nexts i (get_or heads b 0))
    tables_stop few stop = record {
      heads_length = length-set heads b i ∙ t.heads_length;
      nexts_length = length-set nexts i (get_or heads b 0) ∙ t.nexts_length;
      lasts = λ h most. cases (eqb b h)
          (λ q. let z : b ≡ h = eqb-true b h q in
          rw (← z, get_or-set_same heads b i 0 (omega (arith, t.heads_length)))
          (sym (last_of_yes (in_bucket key w b) i low (stop-in_bucket key w b i stop (sym is)))))
          (λ q. get_or-set_other heads b h i 0 (λ e. eqb-false b h q (sym e)) ∙ t.lasts h most
          ∙ sym (last_of_no (in_bucket key w h) i low (other-in_bucket key w h i (λ f e. eqb-false b h q (is ∙ e)))));
      chained = λ j least most f. cases (eqb j i)
          (λ q. let z : j ≡ i = eqb-true j i q in
          rw (z, get_or-set_same nexts i (get_or heads b 0) 0 (omega (arith, t.nexts_length))) tables_last)
          (λ q. get_or-set_other nexts i j (get_or heads b 0) 0 (eqb-false j i q)
          ∙ t.chained j least (omega (arith, eqb-false j i q)) f);
    }
