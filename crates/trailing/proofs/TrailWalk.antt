-- The walk along a watermark chain that trails its stops: what stands when it has come to a record, and what each turn
-- makes of it.
use Prim.Native.Nat.{ℕ, suc, ◌+◌, ◌-◌, ◌≤◌, ◌<◌, ◌^◌}
use mathlib.Core.Path.{◌≡◌, refl, sym, ap, ◌∙◌}
use mathlib.Core.Bool.{Bool, true, false, cond}
use mathlib.Core.List.{List, [], ◌∷◌, ◌++◌, append_assoc, map}
use native.Mathlib.Omega.{arith}
use borrow.Author.Tests.{eqb-true, eqb-false, ne_eqb}
use borrow.Table.Steps.{cases}
use lib.Dec.{T, eqb}
use lib.ListN.{length, get_or, set, length-map}
use lib.Seq.{get_or-set_same, get_or-set_other, ext_get_or, sets, length-sets}
use Rattle.pricelevel.specs.declared.Price.{Price}
use Rattle.pricelevel.specs.declared.Side.{Side}
use Rattle.stop_terms.specs.Terms.{behind}
use Rattle.book.proofs.Lists.{all_map}
use Rattle.book.specs.Lists.{All}
use Rattle.book.specs.Steps.{trailed_slot, trailed_on}
use Rattle.book.specs.Book.{Slot, vacant, held, Book, side_of, stop_of, watermark_of, pending_count}
use Rattle.book.specs.Evaluation.{trailed, moved_on}
use Rattle.book.specs.Words.{cell, entry_at, chain_indices}
use Rattle.book.specs.declared.Chain.{Chain}
use Rattle.book.specs.declared.Chain.TheVariants.{ByWatermark}
use Rattle.book.specs.declared.StopEntry.{StopEntry}
use Rattle.chains.proofs.OneChain.{linked_distinct, linked_length, word_after_end, linked_after}
use Rattle.chains.proofs.Members.{has_none, has_here, has_all, distinct_absent, has_back}
use Rattle.chains.specs.Chained.{Chained}
use Rattle.book.specs.Chains.{head_of, link_of, Member, chains_of}
use Rattle.book.specs.declared.StoreChain.TheVariants.{Ordered}
use Rattle.chains.specs.Indices.{has}
use Rattle.chains.specs.Links.{Linked, word_after}
use Rattle.chains.specs.Rank.{rank_at}
use Rattle.chains.specs.Records.{Record}
use Rattle.chains.proofs.Ascents.{Ascending, ascending_alike}
use Rattle.chains.proofs.Ranked.{rank_of_slot, rank_in}
use Rattle.pending_stops.proofs.ChainChanges.{chain_member, member-chain}
use Rattle.pending_stops.proofs.Contents.{stored_holds}
use Rattle.pending_stops.proofs.StoredWords.{contents_entry, contents-rank}
use Rattle.pending_stops.specs.Stored.{Stored, Contents}
use Rattle.trailing.proofs.Behind.{behind_none, behind_some}
use Rattle.trailing.proofs.InOrder.{still_so, ends_so, ranked, Order, order_begins, order_next, order-ends}
use Rattle.trailing.proofs.Mapped.{slot_mapped, pending_count_mapped}
use Rattle.trailing.proofs.Moved.{moves_slot, moves_in, moves_in_next, moves_in_none, chain-moves}
use Rattle.trailing.proofs.Passed.{chain_ascending, ascending_rest, rest_past}
use Rattle.resort.proofs.Relinks.{word_room}
use Rattle.trailing.proofs.Slots.{moves_still, trailed_slot_vacant, trailed_slot_own, trailed_slot-other, trailed_slot_still, trailed_slot_keeps}
use Rattle.trailing.proofs.TrailedWords.{chained-written, contents-trailed}
use Rattle.trailing.specs.Trail.{Names, if_behind, moves, still_in_order, ends_in_order, Unsorted}

module _ (n : ℕ) (side : Side) (price : Price) (b : Book) (r : List ℕ) where
  abbrev own : Chain
  own = ByWatermark side

  -- what record j held, and what it holds after trailing
  abbrev old : ℕ → Slot
  old j = get_or b.slots (j - 1) vacant

  abbrev new : ℕ → Slot
  new j = trailed_slot side price (old j)

  -- the chain is front, rest, and the word at p names the rest: the records of rest hold what they held, all others are
  -- trailed
  pub record Walked (w : List ℕ) (p moved left : ℕ) : Type 0 where
    pub front : List ℕ
    pub rest : List ℕ
    pub slots : List Slot
    pub is : chain_indices own b ≡ front ++ rest
    pub at : p ≡ word_after (link_of own) (head_of own) front
    pub chained : Chained n w (chains_of b)
    pub contents : Contents n w (pending_count b.slots) b.next b.tick slots r
    pub holds : (j : ℕ) → 1 ≤ j → j ≤ n → get_or slots (j - 1) vacant ≡ cond (has j rest) (old j) (new j)
    pub short : length rest ≤ left
    pub count : moved + moves_in price b.slots rest ≡ length (moved_on price side b)

  module _ (w0 : List ℕ) (st : Stored n w0 b r) where
    pub begins : (h : ℕ) → h ≡ head_of own → Walked w0 h 0 n
    begins h e =
        let s = stored_holds st in
        record {
          front = [];
          rest = chain_indices own b;
          slots = b.slots;
          is = refl;
          at = e;
          chained = s.chained;
          contents = s.contents;
          holds = λ j low high. cases (has j (chain_indices own b)) (λ t. rw t)
              (λ t. rw t (sym (other j low high t (old j) refl)));
          short = linked_length n (link_of own) w0 (head_of own) (chain_indices own b) (s.chained.linked (Ordered own));
          count = omega (arith, chain-moves price side b);
        }
      where
        -- a record that is not in the chain holds no stop of the side
        other : (j : ℕ) → 1 ≤ j → j ≤ n → has j (chain_indices own b) ≡ false → (s : Slot) → old j ≡ s
            → trailed_slot side price s ≡ s
        other j low high t vacant q = trailed_slot_vacant side price
        other j low high t (held u) q =
            trailed_slot-other side price u
            (λ d. rw t at (member-chain own b st.fits j (record {
              from = low;
              to = rw st.records high;
              entry = u;
              there = q;
              is_of_side = d;
            })))

    module _ (w : List ℕ) (p moved left : ℕ) (s : Walked w p moved left) where
      to_come : Linked n w (link_of own) p s.rest
      to_come = rw s.at (linked_after n w (link_of own) (head_of own) s.front s.rest
          (rw s.is at (s.chained.linked (Ordered own))))

      pub names : Names n w p
      names = record {
        inside = rw s.at (word_room n w (chains_of b) s.chained own s.front s.rest s.is);
        named = go s.rest to_come;
      }
        where
          go : (l : List ℕ) → Linked n w (link_of own) p l → 1 ≤ get_or w p 0 → Record n w (get_or w p 0)
          go [] d low = absurd (omega arith)
          go (j ∷ l) d low = rw d.0 (record { least = d.1; most = d.2; inside = s.chained.inside })

      -- the stop of a record to come
      member : (j : ℕ) → T (has j s.rest) → Member side b.slots j
      member j t = chain_member own b st.fits j (rw s.is (has_back j s.front s.rest t))

      to_come_most : (j : ℕ) → T (has j s.rest) → j ≤ n
      to_come_most j t = rw st.records at (member j t).to

      waits : (j : ℕ) (t : T (has j s.rest)) → get_or s.slots (j - 1) vacant ≡ held (member j t).entry
      waits j t = cases (has j s.rest)
          (λ e. (rw e at (s.holds j (member j t).from (to_come_most j t))) ∙ (member j t).there)
          (λ e. absurd (rw e at t))

      entry : (j : ℕ) (t : T (has j s.rest)) → entry_at w j ≡ (member j t).entry
      entry j t = contents_entry s.contents j (member j t).entry (member j t).from (to_come_most j t) (waits j t)

      ------------------------------------------------------------------------
      -- The walk ends

      -- the price has passed none of those to come
      still : if_behind side price w (get_or w p 0) ≡ 0 → (j : ℕ) (t : T (has j s.rest))
          → behind side (watermark_of (member j t).entry) price.0 ≡ false
      still z j t = go s.rest refl to_come
        where
          go : (l : List ℕ) → s.rest ≡ l → Linked n w (link_of own) p l
              → behind side (watermark_of (member j t).entry) price.0 ≡ false
          go [] e d = absurd (has_none j (rw e at t))
          go (i ∷ l) e d =
              let here : T (has i s.rest) = rw e (has_here i l) in
              let first = behind_none side price w i (rw d.0 at z) d.1 in
              rest_past side price.0 b st.valid st.fits s.front i l (rw e at s.is) (member i here)
              (rw (entry i here) at first)
              j (rw e at t) (member j t)

      side_same : if_behind side price w (get_or w p 0) ≡ 0 → (j : ℕ) (t : T (has j s.rest))
          → behind (side_of (member j t).entry) (watermark_of (member j t).entry) price.0 ≡ false
      side_same z j t = ap (λ (d : Side). behind d (watermark_of (member j t).entry) price.0)
          (sym (member j t).is_of_side) ∙ still z j t

      -- and so they stay
      keeps : if_behind side price w (get_or w p 0) ≡ 0 → (j : ℕ) (t : T (has j s.rest))
          → new j ≡ held (member j t).entry
      keeps z j t = rw (member j t).there
          (trailed_slot_still side price (member j t).entry (member j t).is_of_side (side_same z j t))

      ends : if_behind side price w (get_or w p 0) ≡ 0
          → (s.slots ≡ map (trailed_slot side price) b.slots) × (moved ≡ length (moved_on price side b))
      ends z = (
        ext_get_or vacant s.slots (map (trailed_slot side price) b.slots)
            (s.contents.records ∙ sym st.records ∙ sym (length-map b.slots (trailed_slot side price)))
            (λ k l. let e : suc k - 1 ≡ k = omega arith in
            rw e at (all (suc k) (omega arith) (omega (arith, s.contents.records)))),
        omega (arith, s.count, moves_in_none price b.slots s.rest none),
      )
        where
          all : (j : ℕ) → 1 ≤ j → j ≤ n
              → get_or s.slots (j - 1) vacant ≡ get_or (map (trailed_slot side price) b.slots) (j - 1) vacant
          all j low high = rw (slot_mapped (trailed_slot side price) (trailed_slot_keeps side price) b.slots (j - 1))
              (cases (has j s.rest)
              (λ e. let t : T (has j s.rest) = rw e tt in waits j t ∙ sym (keeps z j t))
              (λ e. rw e at (s.holds j low high)))

          none : (j : ℕ) → T (has j s.rest) → moves_slot price (old j) ≡ 0
          none j t = rw (member j t).there (moves_still price (member j t).entry (side_same z j t))

      ends_unsorted : (i : ℕ) → i ≡ if_behind side price w (get_or w p 0) → i ≡ 0
          → (moved ≡ length (moved_on price side b)) × Unsorted n w b (trailed_on side price b) r
      unfolding trailed_on
      ends_unsorted i q z =
          let e = ends (sym q ∙ z) in
          let count = pending_count_mapped (trailed_slot side price) (trailed_slot_keeps side price) b.slots in
          (e.1, record { contents = rw (e.0, ← count) at s.contents; chained = s.chained })

      -- ranks of those to come, by the words and in both books
      ranks_keep : if_behind side price w (get_or w p 0) ≡ 0 → (j : ℕ) → T (has j s.rest)
          → rank_in own b.slots j ≡ ranked side price b j
      ranks_keep z j t =
          ap (rank_of_slot own)
          ((member j t).there ∙ sym (keeps z j t)
          ∙ sym (slot_mapped (trailed_slot side price) (trailed_slot_keeps side price) b.slots (j - 1)))

      rank_waits : (j : ℕ) → T (has j s.rest) → rank_at own w j ≡ rank_in own b.slots j
      rank_waits j t =
          contents-rank s.contents own j (member j t).entry (member j t).from (to_come_most j t) (waits j t)
          ∙ ap (rank_of_slot own) (waits j t ∙ sym (member j t).there)

      -- what was in order so far stays so, if the first of those to come does not rank below
      ends_in_order_lem : if_behind side price w (get_or w p 0) ≡ 0 → (x : ℕ) → Order side price b s.front s.rest x
          → (1 ≤ get_or w p 0 → x ≤ rank_at own w (get_or w p 0))
          → chain_indices own (trailed_on side price b) ≡ chain_indices own b
      ends_in_order_lem z x o le =
          order-ends side price b s.front s.rest x s.is o (over s.rest refl to_come ascends) ascends
        where
          ascends : Ascending (ranked side price b) s.rest
          ascends =
              ascending_alike (rank_in own b.slots) (ranked side price b) s.rest
              (has_all (λ j. rank_in own b.slots j ≡ ranked side price b j) s.rest (ranks_keep z))
              (ascending_rest (rank_in own b.slots) s.front s.rest
              (rw s.is at (chain_ascending own b st.valid st.fits)))

          over : (l : List ℕ) → s.rest ≡ l → Linked n w (link_of own) p l → Ascending (ranked side price b) l
              → All (λ j. x ≤ ranked side price b j) l
          over [] e d a = tt
          over (i ∷ l) e d a =
              let here : T (has i s.rest) = rw e (has_here i l) in
              let first : x ≤ ranked side price b i =
              omega (
                arith,
                rw d.0 at (le (omega (arith, d.0, d.1))),
                rank_waits i here,
                ranks_keep z i here,
              ) in
              (first, all_map {P = λ j. ranked side price b i < ranked side price b j} {Q = λ j. x ≤ ranked side price b j} (λ j h. omega arith) l a.0)

      ------------------------------------------------------------------------
      -- The walk goes on

      -- record i is next
      record Next (i : ℕ) : Type 0 where
        after : List ℕ
        is : s.rest ≡ i ∷ after
        at : Record n w i

      next : (i : ℕ) → i ≡ if_behind side price w (get_or w p 0) → (i ≡ 0 → ⊥) → Next i
      next i e z = go s.rest refl to_come
        where
          told : i ≡ get_or w p 0
          told = (behind_some side price w (get_or w p 0) i e z).0

          go : (l : List ℕ) → s.rest ≡ l → Linked n w (link_of own) p l → Next i
          go [] q d = absurd (z (told ∙ d))
          go (j ∷ l) q d = rw (told ∙ d.0) (record {
            after = l;
            is = q;
            at = record { least = d.1; most = d.2; inside = s.chained.inside };
          })

      module _ (i : ℕ) (m : Next i) where
        here : T (has i s.rest)
        here = rw m.is (has_here i m.after)

        abbrev stop : StopEntry
        stop = (member i here).entry

        some_left : 1 ≤ left
        some_left = omega (arith, s.short, ap length m.is)

        gone : has i m.after ≡ false
        gone = cases (has i m.after)
            (λ e. absurd (distinct_absent i m.after
            (linked_distinct n (link_of own) w p (i ∷ m.after) (rw m.is at to_come)) (rw e tt)))
            (λ e. e)

        -- what records hold then
        abbrev slots' : List Slot
        slots' = set s.slots (i - 1) (held (trailed price stop))

        set_here : get_or slots' (i - 1) vacant ≡ held (trailed price stop)
        set_here = get_or-set_same s.slots (i - 1)
            (held (trailed price stop)) vacant (omega (arith, m.at.least, m.at.most, s.contents.records))

        new_here : new i ≡ held (trailed price stop)
        new_here = ap (trailed_slot side price) (member i here).there
            ∙ trailed_slot_own side price stop (member i here).is_of_side

        here_new : get_or slots' (i - 1) vacant ≡ cond (has i m.after) (old i) (new i)
        here_new = rw gone (set_here ∙ sym new_here)

        other_same : (j : ℕ) → 1 ≤ j → j ≤ n → (i ≡ j → ⊥)
            → get_or slots' (j - 1) vacant ≡ cond (has j m.after) (old j) (new j)
        unfolding has
        other_same j low high ne =
            get_or-set_other s.slots (i - 1) (j - 1)
            (held (trailed price stop)) vacant (λ e. ne (omega (arith, m.at.least)))
            ∙ (rw (m.is, ne_eqb i j ne) at (s.holds j low high))

        same-moves : moves price (entry_at w i) ≡ moves_slot price (old i)
        same-moves = rw (member i here).there (ap (moves price) (entry i here))

        module _ (w' : List ℕ)
            (ew : w' ≡ sets w (cell i 4)
            (stop_of (trailed price (entry_at w i)) ∷ watermark_of (trailed price (entry_at w i)) ∷ [])) where
          chained_new : Chained n w' (chains_of b)
          chained_new = rw ew (chained-written n w i m.at _ _ s.chained)

          contents_new : Contents n w' (pending_count b.slots) b.next b.tick slots' r
          contents_new =
              rw ew (contents-trailed n w i m.at _ _ s.contents price stop (waits i here)
              (ap (λ (t : StopEntry). stop_of (trailed price t)) (entry i here))
              (ap (λ (t : StopEntry). watermark_of (trailed price t)) (entry i here)))

          goes_on : (p' moved' : ℕ) → p' ≡ cell i (link_of own) → moved' ≡ moved + moves price (entry_at w i)
              → Walked w' p' moved' (left - 1)
          goes_on p' moved' ep em = record {
            front = s.front ++ (i ∷ []);
            rest = m.after;
            slots = slots';
            is = s.is ∙ ap (λ (l : List ℕ). s.front ++ l) m.is ∙ sym (append_assoc s.front (i ∷ []) m.after);
            at = ep ∙ sym (word_after_end (link_of own) (head_of own) s.front i);
            chained = chained_new;
            contents = contents_new;
            holds = λ j low high. cases (eqb i j) (λ e. rw (← eqb-true i j e) here_new)
                (λ e. other_same j low high (eqb-false i j e));
            short = omega (arith, s.short, ap length m.is);
            count = omega (
              arith,
              em,
              s.count,
              moves_in_next price b.slots i m.after,
              ap (moves_in price b.slots) m.is,
              same-moves,
            );
          }

          -- it ranks then as in the book after
          rank_new : rank_at own w' i ≡ ranked side price b i
          rank_new =
              contents-rank contents_new own i (trailed price stop) m.at.least m.at.most set_here
              ∙ ap (rank_of_slot own)
              (set_here ∙ sym new_here
              ∙ sym (slot_mapped (trailed_slot side price) (trailed_slot_keeps side price) b.slots (i - 1)))

-- where the price has passed no stop of the side, nothing changes
pub idle-stored : (n : ℕ) (w : List ℕ) (b : Book) (r : List ℕ) (side : Side) (price : Price) → Stored n w b r
    → (h : ℕ) → h ≡ head_of (ByWatermark side) → (i : ℕ) → i ≡ if_behind side price w (get_or w h 0) → i ≡ 0
    → (0 ≡ length (moved_on price side b)) × Stored n w (trailed_on side price b) r
unfolding begins trailed_on
idle-stored n w b r side price st h e i q z =
    let told = ends n side price b r w st w h 0 n (begins n side price b r w st h e) (sym q ∙ z) in
    (told.1, rw (← told.0) st)

moves_most : (price : Price) (t : StopEntry) (m : ℕ) → m ≡ moves price t → m ≤ 1
unfolding moves
moves_most price t m h =
    cases (eqb (stop_of (trailed price t)) (stop_of t)) (λ e. omega (arith, rw e at h)) (λ e. omega (arith, rw e at h))

------------------------------------------------------------------------
-- The turns of the loop, for whatever book the words w0 are those of

module _ (n : ℕ) (w0 : List ℕ) (side : Side) (price : Price) where
  pub record Trailing (w : List ℕ) (p moved : ℕ) (sorted : Bool) (x left : ℕ) : Type 0 where
    pub size : length w ≡ length w0
    pub bound : moved + left ≤ n
    pub walked : (b : Book) (r : List ℕ) → Stored n w0 b r → Walked n side price b r w p moved left
    pub order : (b : Book) (r : List ℕ) (st : Stored n w0 b r) → sorted ≡ true
        → Order side price b (walked b r st).front (walked b r st).rest x

  pub trailing_begins : (h : ℕ) → h ≡ head_of (ByWatermark side) → price.0 < 2 ^ 64 → Trailing w0 h 0 true 0 n
  unfolding begins
  trailing_begins h e fits = record {
    size = refl;
    bound = omega arith;
    walked = λ b r st. begins n side price b r w0 st h e;
    order = λ b r st _. order_begins side price b st.valid st.fits fits;
  }

  module _ (w : List ℕ) (p moved : ℕ) (sorted : Bool) (x left : ℕ) (v : Trailing w p moved sorted x left)
      (i : ℕ) (ei : i ≡ if_behind side price w (get_or w p 0)) where
    pub turn-ends : i ≡ 0 → (b : Book) (r : List ℕ) → Stored n w0 b r
        → (moved ≡ length (moved_on price side b)) × Unsorted n w b (trailed_on side price b) r
    turn-ends z b r st = ends_unsorted n side price b r w0 st w p moved left (v.walked b r st) i ei z

    pub turn_sorted : i ≡ 0 → (t : Bool) → t ≡ ends_in_order sorted x (ByWatermark side) w (get_or w p 0)
        → (b : Book) (r : List ℕ) → Stored n w0 b r
        → t ≡ true → chain_indices (ByWatermark side) (trailed_on side price b) ≡ chain_indices (ByWatermark side) b
    turn_sorted z t et b r st h =
        let so = ends_so sorted x (ByWatermark side) w (get_or w p 0) (sym et ∙ h) in
        ends_in_order_lem n side price b r w0 st w p moved left (v.walked b r st) (sym ei ∙ z) x (v.order b r st so.0)
        so.1

    module _ (z : i ≡ 0 → ⊥) where
      -- the book that there is
      module _ (b : Book) (r : List ℕ) (st : Stored n w0 b r) where
        turn_next : Next n side price b r w0 st w p moved left (v.walked b r st) i
        turn_next = next n side price b r w0 st w p moved left (v.walked b r st) i ei z

        pub turn_record : Record n w i
        turn_record = turn_next.at

        pub turn_left : 1 ≤ left
        turn_left = some_left n side price b r w0 st w p moved left (v.walked b r st) i turn_next

      module _ (m : ℕ) (em : m ≡ moves price (entry_at w i)) (some : 1 ≤ left) where
        pub turn_most : moved + m ≤ n
        turn_most = omega (arith, v.bound, moves_most price (entry_at w i) m em)

        module _ (w' : List ℕ)
            (ew : w' ≡ sets w (cell i 4)
            (stop_of (trailed price (entry_at w i)) ∷ watermark_of (trailed price (entry_at w i)) ∷ [])) where
          pub turn-written : (b : Book) (r : List ℕ) → Stored n w0 b r → Record n w' i
          turn-written b r st =
              let m = turn_next b r st in
              let c = chained_new n side price b r w0 st w p moved left (v.walked b r st) i m w' ew in
              record { least = m.at.least; most = m.at.most; inside = c.inside }

          pub turn_on : (p' : ℕ) → p' ≡ cell i (link_of (ByWatermark side)) → (y : ℕ)
              → y ≡ rank_at (ByWatermark side) w' i
              → (t : Bool) → t ≡ still_in_order sorted x y → Trailing w' p' (moved + m) t y (left - 1)
          unfolding goes_on
          turn_on p' ep y ey t et = record {
            size = rw (ew, length-sets) v.size;
            bound = omega (arith, v.bound, moves_most price (entry_at w i) m em);
            walked = λ b r st.
                goes_on n side price b r w0 st w p moved left (v.walked b r st) i (turn_next b r st) w' ew p'
                (moved + m) ep (rw em);
            order = λ b r st h.
                let so = still_so sorted x y (sym et ∙ h) in
                let s = v.walked b r st in
                order_next side price b s.front i (turn_next b r st).after x y
                (rw (turn_next b r st).is at (v.order b r st so.0)) so.1
                (ey ∙ rank_new n side price b r w0 st w p moved left s i (turn_next b r st) w' ew);
          }
