-- The form check is exact: on words below 2^64 it computes whether they are well formed.
use Prim.Native.Nat.{ℕ, ◌-◌, ◌≤◌, ◌<◌, ◌^◌}
use native.Mathlib.Omega.{arith}
use mathlib.Core.Path.{◌≡◌, refl, sym, ap, ◌∙◌}
use mathlib.Core.Bool.{true}
use mathlib.Core.List.{List}
use borrow.Author.Tests.{leb-true, le-leb, eqb-true, eq-eqb}
use lib.Dec.{leb, eqb}
use lib.ListN.{length, get_or, take, drop}
use lib.Seq.{get_or-take, length-take-le}
use Rattle.pricelevel.proofs.Bools.{and_parts}
use Rattle.pricelevel.specs.declared.Side.TheVariants.{Buy, Sell}
use Rattle.book.proofs.Lists.{all_get_d, get_d_all, every_all, all-every}
use Rattle.book.proofs.Places.{layout-header, layout_record}
use Rattle.book.proofs.ReadBack.{slots_at_length}
use Rattle.book.specs.Valid.{SlotFits, Valid}
use Rattle.book.proofs.WellFormed.{IsWord, WellFormed, book_of_slots_length, well_formed_parts, well_formed_of, well_formed-valid, well_formed-layout}
use Rattle.book.specs.Book.{Slot, vacant, pending_count}
use Rattle.book.specs.Lists.{head_or0, every, rising, All}
use Rattle.book.specs.Words.{next_in, chain_indices, header, record_words, layout, record_word, slot_at, slots_at, book_of, sound_stop, all_differ, well_formed, cell}
use Rattle.book.specs.Sizes.{header_length, record_length, most_records, store_length}
use Rattle.book.specs.declared.Chain.{Chain}
use Rattle.book.specs.declared.Chain.TheVariants.{ByStop, ByWatermark}
use Rattle.chains.specs.Links.{Linked}
use Rattle.book.specs.Chains.{head_of, link_of, start_of, next_of, chains_of}
use Rattle.form_check.specs.Check.{record_formed, chain_formed, side_formed, chains_formed, formed}
use Rattle.book.specs.declared.StoreChain.{StoreChain}
use Rattle.book.specs.declared.StoreChain.TheVariants.{Ordered, Free}
use Rattle.chains.proofs.Ascents.{itself, sort_ranked-within}
use Rattle.form_check.proofs.Chained.{ordered, chain_ordered, ordered_all, formed_linked, linked-formed-chain, FreeFormed, formed_free, free-formed}
use Rattle.form_check.proofs.Groups.{group_member, group_vacant, vacant_member}
use Rattle.chains.proofs.Linked.{Names, linked_head, linked-names}
use Rattle.book.proofs.LaidOut.{layout_taken}
use Rattle.form_check.proofs.Records.{RecordForm, record-form, form_record, form_sound, form_words, words_form}
use Rattle.book.proofs.Slots.{slots_at_record, slots_at_all, slot_at_fits}
use Rattle.book.proofs.Tests.{bool_same, rising_at, rising_all}
use Rattle.form_check.proofs.Walks.{InGroup}
use Rattle.store_words.proofs.ChainsOf.{well_formed_linked}

abbrev slots_in : List ℕ → List Slot
slots_in w = slots_at w 1 (get_or w 0 0)

------------------------------------------------------------------------
-- The parts of the check

pub record Formed (w : List ℕ) : Type 0 where
  pub some_records : 1 ≤ get_or w 0 0
  pub few_records : get_or w 0 0 ≤ most_records
  pub room : store_length (get_or w 0 0) ≤ length w
  pub records : All (λ i. record_formed w i ≡ true) (rising 1 (get_or w 0 0))
  pub count : get_or w 1 0 ≡ pending_count (slots_in w)
  pub chains : (k : StoreChain) → chain_formed k w (get_or w 0 0) ≡ true
  pub differ : all_differ (slots_in w) ≡ true

pub formed_parts : (w : List ℕ) → formed w ≡ true → Formed w
unfolding formed chains_formed side_formed
formed_parts w e =
    let n = get_or w 0 0 in
    let long = and_parts (leb header_length (length w)) _ e in
    let some = and_parts (leb 1 n) _ long.1 in
    let few = and_parts (leb n most_records) _ some.1 in
    let room = and_parts (leb (store_length n) (length w)) _ few.1 in
    let records = and_parts (every (record_formed w) (rising 1 n)) _ room.1 in
    let chains = and_parts (chains_formed w n) _ records.1 in
    let count = and_parts (eqb (get_or w 1 0) (pending_count (slots_in w))) _ chains.0 in
    let sells = and_parts (side_formed Sell w n) _ count.1 in
    let buys = and_parts (side_formed Buy w n) _ sells.1 in
    let sell = and_parts (chain_formed (Ordered (ByStop Sell)) w n) _ sells.0 in
    let buy = and_parts (chain_formed (Ordered (ByStop Buy)) w n) _ buys.0 in
    record {
      some_records = leb-true _ _ some.0;
      few_records = leb-true _ _ few.0;
      room = leb-true _ _ room.0;
      records = every_all (record_formed w) (rising 1 n) records.0;
      count = eqb-true _ _ count.0;
      chains = each sell.0 sell.1 buy.0 buy.1 buys.1;
      differ = chains.1;
    }
  where
    Is : StoreChain → Type 0
    Is k = chain_formed k w (get_or w 0 0) ≡ true

    each : Is (Ordered (ByStop Sell)) → Is (Ordered (ByWatermark Sell)) → Is (Ordered (ByStop Buy))
        → Is (Ordered (ByWatermark Buy)) → Is Free → (k : StoreChain) → Is k
    each a b c d f (Ordered (ByStop Sell)) = a
    each a b c d f (Ordered (ByWatermark Sell)) = b
    each a b c d f (Ordered (ByStop Buy)) = c
    each a b c d f (Ordered (ByWatermark Buy)) = d
    each a b c d f Free = f

pub formed_of : (w : List ℕ) → Formed w → formed w ≡ true
unfolding formed chains_formed side_formed
formed_of w f =
    let n = get_or w 0 0 in
    rw (
      le-leb header_length (length w) (omega (arith, f.room)),
      le-leb 1 n f.some_records,
      le-leb n most_records f.few_records,
      le-leb (store_length n) (length w) f.room,
      all-every (record_formed w) (rising 1 n) f.records,
      eq-eqb (get_or w 1 0) (pending_count (slots_in w)) f.count,
      f.chains (Ordered (ByStop Sell)),
      f.chains (Ordered (ByWatermark Sell)),
      f.chains (Ordered (ByStop Buy)),
      f.chains (Ordered (ByWatermark Buy)),
      f.chains Free,
      f.differ,
    )

module _ (w : List ℕ) (words : (p : ℕ) → IsWord (get_or w p 0)) where
  fits : All SlotFits (slots_in w)
  unfolding record_word
  fits = slots_at_all SlotFits w 1 (get_or w 0 0) (λ j low high. slot_at_fits w j (λ k h. words (cell j k)))

  chain_list : (c : Chain) → chain_indices c (book_of w) ≡ ordered c (slots_in w)
  unfolding book_of
  chain_list c = chain_ordered c (book_of w) fits

  ------------------------------------------------------------------------
  -- From the check to the definition

  module _ (f : Formed w) where
    free : FreeFormed w (get_or w 0 0)
    free = formed_free w (get_or w 0 0) (f.chains Free)

    linked : (k : StoreChain) → Linked (get_or w 0 0) w (next_of k) (start_of k) (chains_of (book_of w) k)
    unfolding book_of
    linked (Ordered c) = rw (chain_list c) (formed_linked w (get_or w 0 0) f.differ fits c (f.chains (Ordered c)))
    linked Free = free.linked

    -- each record of a chain's group is linked as in the book
    link_word : (i : ℕ) → 1 ≤ i → i ≤ get_or w 0 0 → (k : StoreChain) → InGroup k w i
        → record_word w i (next_of k) ≡ next_in (chains_of (book_of w) k) i
    unfolding book_of
    link_word i low high (Ordered c) g =
        let l = ordered c (slots_in w) in
        let names = linked-names (get_or w 0 0) w (link_of c)
        (head_of c) l (formed_linked w (get_or w 0 0) f.differ fits c (f.chains (Ordered c))) in
        rw (chain_list c)
        (ordered_all c (slots_in w)
        (Names (get_or w 0 0) w (link_of c) l) names i (group_member w (get_or w 0 0) i low high c g))
    link_word i low high Free g =
        let l = (book_of w).free in
        let P = Names (get_or w 0 0) w (next_of Free) l in
        let names = linked-names (get_or w 0 0) w (next_of Free) (start_of Free) l free.linked in
        let sorted = rw free.all_vacant at (sort_ranked-within itself l P names) in
        vacant_member P 1 (slots_in w) sorted i (group_vacant w (get_or w 0 0) i low high g)

    head_word : (k : StoreChain) → get_or w (start_of k) 0 ≡ head_or0 (chains_of (book_of w) k)
    head_word k = linked_head (get_or w 0 0) w (next_of k) (start_of k) (chains_of (book_of w) k) (linked k)

    form : (i : ℕ) → 1 ≤ i → i ≤ get_or w 0 0 → RecordForm w i
    form i low high = record-form w i
        (rising_at (λ j. record_formed w j ≡ true) 1 (get_or w 0 0) f.records i low (omega arith))

    headers : All (λ k. get_or w k 0 ≡ get_or (header (book_of w)) k 0) (rising 0 header_length)
    unfolding book_of header rising
    headers = (
      sym (slots_at_length w 1 (get_or w 0 0)),
      (
        f.count,
        (
          refl,
          (
            refl,
            (
              head_word (Ordered (ByStop Sell)),
              (
                head_word (Ordered (ByWatermark Sell)),
                (head_word (Ordered (ByStop Buy)), (head_word (Ordered (ByWatermark Buy)), (head_word Free, tt))),
              ),
            ),
          ),
        ),
      ),
    )

    records : (i k : ℕ) → 1 ≤ i → i ≤ length (book_of w).slots → k < record_length
        → record_word w i k ≡ get_or (record_words (book_of w) i (get_or (book_of w).slots (i - 1) vacant)) k 0
    unfolding book_of
    records i k low high h =
        let most : i ≤ get_or w 0 0 = rw slots_at_length at high in
        let words = form_words w i (book_of w) (form i low most) (link_word i low most) in
        rw (slots_at_record w (get_or w 0 0) i low most)
        (rising_at (λ k. record_word w i k ≡ get_or (record_words (book_of w) i (slot_at w i)) k 0) 0 record_length words k
        (omega arith) (omega arith))

    book_valid : Valid (book_of w)
    unfolding book_of
    book_valid = record {
      some_records = rw slots_at_length f.some_records;
      few_records = rw slots_at_length f.few_records;
      sound = slots_at_all (λ s. sound_stop (get_or w 2 0) (get_or w 3 0) s ≡ true) w 1 (get_or w 0 0)
          (λ j low high. form_sound w j (form j low (omega arith)));
      differ = f.differ;
      free_vacant = free.all_vacant;
    }

    is_laid_out : take (store_length (get_or w 0 0)) w ≡ layout (book_of w)
    is_laid_out =
        let size = book_of_slots_length w in
        rw size at
        (layout_taken w (book_of w)
        (λ k h. rising_at (λ k. get_or w k 0 ≡ get_or (header (book_of w)) k 0) 0 header_length headers k (omega arith)
        (omega arith)) records
        (rw size f.room))

    formed-well_formed : WellFormed w
    formed-well_formed = record {
      room = f.room;
      all_are_words = get_d_all IsWord (take (store_length (get_or w 0 0)) w) 0
          (λ i h. let l : i < store_length (get_or w 0 0) = rw
          (length-take-le (store_length (get_or w 0 0)) w f.room) at h in rw get_or-take (words i));
      book_valid = book_valid;
      is_laid_out = is_laid_out;
    }

  ------------------------------------------------------------------------
  -- From the definition to the check

  module _ (e : well_formed w ≡ true) where
    header_word : (k : ℕ) → k < header_length → get_or w k 0 ≡ get_or (header (book_of w)) k 0
    header_word k h = ap (λ (x : List ℕ). get_or x k 0) (well_formed-layout w e)
        ∙ layout-header (book_of w) (drop (store_length (get_or w 0 0)) w) k h

    record-word : (i k : ℕ) → 1 ≤ i → i ≤ get_or w 0 0 → k < record_length
        → record_word w i k ≡ get_or (record_words (book_of w) i (slot_at w i)) k 0
    unfolding book_of
    record-word i k low high h =
        rw (← slots_at_record w (get_or w 0 0) i low high)
        (ap (λ (x : List ℕ). record_word x i k) (well_formed-layout w e)
        ∙ layout_record (book_of w) (drop (store_length (get_or w 0 0)) w) i k low (rw slots_at_length high) h)

    record-back : (i : ℕ) → 1 ≤ i → i ≤ get_or w 0 0 → RecordForm w i
    unfolding book_of sound_stop
    record-back i low high =
        let sound = all_get_d (λ s. sound_stop (get_or w 2 0) (get_or w 3 0) s ≡ true) (slots_in w)
        (i - 1) vacant refl (well_formed-valid w e).sound in
        words_form w i (book_of w) (rw (slots_at_record w (get_or w 0 0) i low high) at sound)
        (λ k h. record-word i k low high h)

    count_word : get_or w 1 0 ≡ pending_count (slots_in w)
    unfolding book_of header
    count_word = header_word 1 (omega arith)

    chain_back : (k : StoreChain) → chain_formed k w (get_or w 0 0) ≡ true
    unfolding book_of
    chain_back (Ordered c) =
        linked-formed-chain w (get_or w 0 0)
        (well_formed-valid w e).differ fits c (rw (chain_list c) at (well_formed_linked w e (Ordered c)))
    chain_back Free = free-formed w (get_or w 0 0) (book_of w).free (well_formed_linked w e Free)
        (well_formed-valid w e).free_vacant

    well_formed-formed : Formed w
    unfolding book_of
    well_formed-formed =
        let v = well_formed-valid w e in
        record {
          some_records = rw slots_at_length at v.some_records;
          few_records = rw slots_at_length at v.few_records;
          room = (well_formed_parts w e).room;
          records = rising_all (λ i. record_formed w i ≡ true) 1 (get_or w 0 0)
              (λ i low high. form_record w i (record-back i low (omega arith)));
          count = count_word;
          chains = chain_back;
          differ = v.differ;
        }

pub exact : (w : List ℕ) → ((p : ℕ) → get_or w p 0 < 2 ^ 64) → formed w ≡ well_formed w
exact w words =
    bool_same (formed w) (well_formed w)
    (λ e. well_formed_of w (formed-well_formed w words (formed_parts w e)))
    (λ e. formed_of w (well_formed-formed w words e))
