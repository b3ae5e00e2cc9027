-- The words of an empty store, laid out from the front.
use Prim.Native.Nat.{ℕ, zero, suc, ◌+◌, ◌-◌, ◌≤◌, ◌<◌}
use mathlib.Core.Path.{◌≡◌, refl, sym, ap, ◌∙◌}
use mathlib.Core.Bool.{Bool, true, false, ◌&&◌}
use mathlib.Core.List.{List, [], ◌∷◌, ◌++◌, append-nil}
use native.Mathlib.Omega.{arith}
use borrow.Author.Tests.{leb-true, eqb-true, eqb-false}
use borrow.Table.Steps.{cases}
use lib.Dec.{leb, eqb}
use lib.ListN.{length, get_or, take, drop, replicate, length-replicate, length-drop, get_or-replicate}
use lib.Seq.{sets, length-sets, sets-eq, length-take-le, length_front, take_all, take_at, take-add, drop-append-add, drop-drop, get_or-take, get_or-drop, ext_get_or}
use Rattle.error.specs.Answer.{refused, accepted}
use Rattle.pricelevel.proofs.Bools.{and_parts}
use Rattle.pricelevel.specs.declared.Side.TheVariants.{Buy, Sell}
use Rattle.book.proofs.Operations.{empty_book_length}
use Rattle.book.proofs.Places.{record_words_length, layout_length, layout_record}
use Rattle.book.specs.Book.{vacant, Book, chain_side, with_index, gather, pending_on, chain, indices, pending_count}
use Rattle.book.specs.Lists.{head_or0, rising, sort_by}
use Rattle.error.specs.Questions.{first_no, decide}
use Rattle.book.specs.Store.{stored, empty_book, lay_out}
use Rattle.book.specs.Words.{next_in, chain_indices, header, record_words, layout, cell, record_word, data_words, after_by_stop, after_by_watermark, with_links}
use Rattle.book.specs.Sizes.{header_length, record_length, most_records, store_length}
use Rattle.book.specs.declared.Chain.{Chain}
use Rattle.book.specs.declared.Chain.TheVariants.{ByStop, ByWatermark}
use Rattle.chains.specs.Records.{Room, Record}

abbrev free_words : ℕ → List ℕ
free_words next = with_links (data_words vacant) next 0

------------------------------------------------------------------------
-- The free chain that rises

head_or0-rising : (j k : ℕ) → 1 ≤ k → head_or0 (rising j k) ≡ j
unfolding head_or0 rising
head_or0-rising j zero h = absurd (omega arith)
head_or0-rising j (suc k) h = refl

pub next_in-rising : (j k i : ℕ) → j ≤ i → i + 1 < j + k → next_in (rising j k) i ≡ i + 1
unfolding next_in rising
next_in-rising j zero i low h = absurd (omega arith)
next_in-rising j (suc k) i low h = cases (eqb i j)
    (λ e. let q = eqb-true i j e in rw (e, head_or0-rising (suc j) k (omega arith)) (omega arith))
    (λ e. let q = eqb-false i j e in rw e (next_in-rising (suc j) k i (omega arith) (omega arith)))

pub next_in-rising_last : (j k i : ℕ) → j ≤ i → j + k ≤ i + 1 → next_in (rising j k) i ≡ 0
unfolding next_in rising head_or0
next_in-rising_last j zero i low h = refl
next_in-rising_last j (suc k) i low h = cases (eqb i j)
    (λ e. let q = eqb-true i j e in let z : k ≡ 0 = omega arith in rw (e, z))
    (λ e. let q = eqb-false i j e in rw e (next_in-rising_last (suc j) k i (omega arith) (omega arith)))

------------------------------------------------------------------------
-- Parts of a book's words

pub layout-header_part : (b : Book) → take header_length (layout b) ≡ header b
unfolding layout header
layout-header_part b = refl

pub layout_record_part : (b : Book) (i : ℕ) → 1 ≤ i → i ≤ length b.slots
    → take record_length (drop (cell i 0) (layout b)) ≡ record_words b i (get_or b.slots (i - 1) vacant)
unfolding record_word cell
layout_record_part b i low high =
    let inside : record_length ≤ length (drop (cell i 0) (layout b)) = rw length-drop (omega (arith, layout_length b)) in
    let size = length-take-le record_length (drop (cell i 0) (layout b)) inside in
    ext_get_or 0 (take record_length (drop (cell i 0) (layout b))) (record_words b i (get_or b.slots (i - 1) vacant))
    (size ∙ sym (record_words_length b i (get_or b.slots (i - 1) vacant)))
    (λ k h.
    let l : k < record_length = omega (arith, h, size) in
    let e : cell i 0 + k ≡ cell i k = omega arith in
    rw (get_or-take, get_or-drop, e) (rw append-nil at (layout_record b [] i k low high l)))

------------------------------------------------------------------------
-- The header of an empty book

gather_empty : (c : Chain) (i n : ℕ) → gather (pending_on (chain_side c)) i (replicate n vacant) ≡ []
unfolding gather with_index pending_on
gather_empty c i zero = refl
gather_empty c i (suc n) = gather_empty c (suc i) n

chain_indices_empty : (c : Chain) (n tick : ℕ) → chain_indices c (empty_book n tick) ≡ []
unfolding chain_indices chain indices sort_by empty_book
chain_indices_empty c n tick = rw (gather_empty c 1 n)

pending_count_empty : (n : ℕ) → pending_count (replicate n vacant) ≡ 0
unfolding pending_count
pending_count_empty zero = refl
pending_count_empty (suc n) = pending_count_empty n

pub header_empty : (n tick : ℕ) → 1 ≤ n → header (empty_book n tick) ≡ n ∷ 0 ∷ 0 ∷ tick ∷ 0 ∷ 0 ∷ 0 ∷ 0 ∷ 1 ∷ []
unfolding header empty_book head_or0
header_empty n tick h =
    rw (
      length-replicate n vacant,
      pending_count_empty n,
      chain_indices_empty (ByStop Sell) n tick,
      chain_indices_empty (ByWatermark Sell) n tick,
      chain_indices_empty (ByStop Buy) n tick,
      chain_indices_empty (ByWatermark Buy) n tick,
      head_or0-rising 1 n h,
    )

------------------------------------------------------------------------
-- The first words of a list over those of another

abbrev over : List ℕ → List ℕ → ℕ → List ℕ
over l w p = take p l ++ drop p w

module _ (l w : List ℕ) where
  over_drop : (p q : ℕ) → p ≤ length l → p ≤ q → drop q (over l w p) ≡ drop q w
  over_drop p q h k =
      let size = length-take-le p l h in
      let e : q ≡ length (take p l) + (q - p) = omega (arith, size) in
      let f : p + (q - p) ≡ q = omega arith in
      ap (λ (m : ℕ). drop m (over l w p)) e ∙ drop-append-add (take p l) (drop p w) (q - p) ∙ drop-drop (q - p) p w
      ∙ ap (λ (m : ℕ). drop m w) f

  over_length : (p : ℕ) → p ≤ length l → p ≤ length w → length (over l w p) ≡ length w
  over_length p h k = length_front w (take p l) p (length-take-le p l h ∙ sym (length-take-le p w k))

  -- the next words are stored
  over_sets : (p : ℕ) (vs : List ℕ) → p + length vs ≤ length l → p + length vs ≤ length w
      → take (length vs) (drop p l) ≡ vs
      → sets (over l w p) p vs ≡ over l w (p + length vs)
  over_sets p vs h k e =
      let h0 : p ≤ length l = omega arith in
      let k0 : p ≤ length w = omega arith in
      let room : p + length vs ≤ length (over l w p) = omega (arith, over_length p h0 k0) in
      let size = length-take-le p l h0 in
      sets-eq vs (over l w p) p room
      ∙ rw (
        take_at (take p l) (drop p w) p size,
        over_drop p (p + length vs) h0 (omega arith),
        take-add p (length vs) l,
        e,
      )

------------------------------------------------------------------------
-- An empty store

abbrev empty_words : ℕ → ℕ → List ℕ
empty_words n tick = layout (empty_book n tick)

-- the records before i are laid out, over w
pub record Laid (n tick : ℕ) (w : List ℕ) (i : ℕ) (s : List ℕ) : Type 0 where
  pub least : 1 ≤ i
  pub most : i ≤ n + 1
  pub inside : Room n w
  pub words : s ≡ over (empty_words n tick) w (store_length (i - 1))

module _ (n tick : ℕ) where
  empty_words_length : length (empty_words n tick) ≡ store_length n
  empty_words_length = rw (empty_book_length n tick) at (layout_length (empty_book n tick))

  laid-header : (w : List ℕ) → Room n w → sets w 0 (header (empty_book n tick)) ≡ over (empty_words n tick) w header_length
  unfolding header
  laid-header w r =
      over_sets (empty_words n tick) w 0 (header (empty_book n tick)) (omega (arith, empty_words_length))
      (omega (arith, r.room))
      (layout-header_part (empty_book n tick))

  empty_words_record : (i : ℕ) → 1 ≤ i → i ≤ n
      → take record_length (drop (cell i 0) (empty_words n tick)) ≡ free_words (next_in (rising 1 n) i)
  unfolding empty_book record_words after_by_stop after_by_watermark
  empty_words_record i low high =
      let inside : i - 1 < n = omega arith in
      rw (get_or-replicate n (i - 1) vacant vacant inside) at
      (layout_record_part (empty_book n tick) i low (rw (empty_book_length n tick) high))

  -- over the words that the header's stores left
  pub laid_none : (w s : List ℕ) → Room n w → s ≡ sets w 0 (header (empty_book n tick)) → Laid n tick s 1 s
  laid_none w s r e =
      let started : s ≡ over (empty_words n tick) w header_length = e ∙ laid-header w r in
      record {
        least = omega arith;
        most = omega arith;
        inside = record {
          few = r.few;
          room = omega (arith, r.room, ap length e, length-sets w 0 (header (empty_book n tick)));
        };
        words =
            started
            ∙ ap (λ (v : List ℕ). take header_length (empty_words n tick) ++ v)
            (sym (ap (λ (v : List ℕ). drop header_length v) started
            ∙ over_drop (empty_words n tick) w header_length header_length (omega (arith, empty_words_length))
            (omega arith)));
      }

  module _ (w s : List ℕ) (i : ℕ) (h : Laid n tick w i s) where
    pub laid_length : length s ≡ length w
    laid_length =
        ap length h.words
        ∙ over_length (empty_words n tick) w (store_length (i - 1)) (omega (arith, empty_words_length, h.most))
        (omega (arith, h.most, h.inside.room))

    pub laid_record : i ≤ n → Record n s i
    laid_record l = record {
      least = h.least;
      most = l;
      inside = record { few = h.inside.few; room = omega (arith, laid_length, h.inside.room) };
    }

    pub laid_more : (next : ℕ) (after : List ℕ) → i ≤ n → next ≡ next_in (rising 1 n) i
        → after ≡ sets s (cell i 0) (free_words next)
        → Laid n tick w (i + 1) after
    unfolding data_words with_links cell
    laid_more next after l e q =
        let p : cell i 0 ≡ store_length (i - 1) = omega arith in
        let following : store_length (i - 1) + record_length ≡ store_length (i + 1 - 1) = omega (arith, h.least) in
        let part = rw (← e, p) at (empty_words_record i h.least l) in
        record {
          least = omega arith;
          most = omega arith;
          inside = h.inside;
          words =
              q
              ∙ rw (p, h.words)
              (over_sets (empty_words n tick) w (store_length (i - 1)) (free_words next)
              (omega (arith, empty_words_length, following)) (omega (arith, h.inside.room, following)) part)
              ∙ ap (λ (m : ℕ). over (empty_words n tick) w m) following;
        }

    pub laid_all : (before : List ℕ) → Room n before → w ≡ sets before 0 (header (empty_book n tick)) → n < i
        → s ≡ stored n (empty_book n tick) before
    unfolding stored
    laid_all before r e q =
        let started : w ≡ over (empty_words n tick) before header_length = e ∙ laid-header before r in
        let last : store_length (i - 1) ≡ store_length n = omega (arith, h.most) in
        h.words
        ∙ rw (last, take_all (store_length n) (empty_words n tick) (omega (arith, empty_words_length)))
        (ap (λ (v : List ℕ). empty_words n tick ++ v) (ap (λ (v : List ℕ). drop (store_length n) v) started
        ∙ over_drop (empty_words n tick) before header_length (store_length n) (omega (arith, empty_words_length))
        (omega arith)))

------------------------------------------------------------------------
-- The call

abbrev in_range : ℕ → List ℕ → Bool
in_range n w = leb 1 n && (leb n most_records && leb (store_length n) (length w))

pub in_range_room : (n : ℕ) (w : List ℕ) → in_range n w ≡ true → (1 ≤ n) × Room n w
in_range_room n w e =
    let h = and_parts (leb 1 n) _ e in
    let r = and_parts (leb n most_records) _ h.1 in
    (leb-true _ _ h.0, record { few = leb-true _ _ r.0; room = leb-true _ _ r.1 })

pub lay_out_no : (n tick : ℕ) (w : List ℕ) → in_range n w ≡ false
    → (refused 2 ≡ (lay_out n tick w).answer) × (w ≡ (lay_out n tick w).words)
unfolding lay_out first_no decide
lay_out_no n tick w e = rw e (refl, refl)

pub lay_out_yes : (n tick : ℕ) (w after : List ℕ) → in_range n w ≡ true → after ≡ stored n (empty_book n tick) w
    → (accepted tt ≡ (lay_out n tick w).answer) × (after ≡ (lay_out n tick w).words)
unfolding lay_out first_no decide
lay_out_yes n tick w after e q = rw e (refl, q)
