-- Laws of the five chains together: what a store keeps, and what taking a record out of one chain and putting one in
-- does to them all.
use Prim.Native.Nat.{ℕ, ◌≤◌, ◌<◌}
use mathlib.Core.Path.{◌≡◌, refl, sym, ap, ◌∙◌}
use mathlib.Core.Logic.{◌≢◌}
use mathlib.Core.List.{List, ◌∷◌}
use native.Mathlib.Omega.{arith}
use lib.Dec.{T}
use lib.ListN.{length, get_or, set, length-set}
use lib.Seq.{get_or-set_other}
use Rattle.book.specs.Lists.{All}
use Rattle.book.specs.Words.{cell, record_word}
use Rattle.book.specs.Sizes.{record_length, IsData, next_by_watermark}
use Rattle.chains.proofs.Cells.{cell_least, cell_below, cell_injective}
use Rattle.chains.proofs.Kept.{IsLink, is_link_head, is_link-cell, kept_set, kept_trans}
use Rattle.chains.proofs.OneChain.{Apart, place_all, spot_all, linked_records, linked_set, link_first, link_in, link_out}
use Rattle.chains.proofs.Members.{has_here, has_there, has_cases, has_all, all-has, has-remove}
use Rattle.chains.proofs.Names.{name_stands, head_injective, name_injective, watermark_group, upd_all}
use Rattle.chains.proofs.RankedSort.{has-insert_ranked}
use Rattle.chains.specs.Chained.{Chained, Kept, Outside, Ready, upd}
use Rattle.book.specs.Chains.{start_of, next_of, group_of}
use Rattle.book.specs.declared.StoreChain.{StoreChain}
use Rattle.book.specs.declared.StoreChain.TheVariants.{Free}
use Rattle.chains.specs.Indices.{insert_ranked, remove, has}
use Rattle.chains.specs.Links.{Linked, Walk, place, spot, put_in, put_out}
use Rattle.chains.specs.Records.{Record}

module _ (n : ℕ) (w : List ℕ) (ch : StoreChain → List ℕ) (s : Chained n w ch) where
  pub chained_range : (a : StoreChain) (j : ℕ) → T (has j (ch a)) → (1 ≤ j) × (j ≤ n)
  chained_range a = all-has (λ j. (1 ≤ j) × (j ≤ n)) (ch a)
      (linked_records n (next_of a) w (start_of a) (ch a) (s.linked a))

  pub chained_record : (a : StoreChain) (i : ℕ) → T (has i (ch a)) → Record n w i
  chained_record a i h = let r = chained_range a i h in record { least = r.0; most = r.1; inside = s.inside }

  chained-cell : (a : StoreChain) (j : ℕ) → 1 ≤ j → j ≤ n → cell j (next_of a) < length w
  chained-cell a j least most =
      omega (arith, cell_below n j (next_of a) least most (name_stands a).in_record, s.inside.room)

  chained_head : (a : StoreChain) → start_of a < length w
  chained_head a = omega (arith, (name_stands a).high, s.inside.room)

  pub chained-walk : (a : StoreChain) (k p : ℕ) → k ≡ next_of a → p ≡ start_of a → Walk n w k p (ch a)
  chained-walk a k p ek ep =
      rw (ek, ep) (record {
        inside = s.inside;
        link = (name_stands a).in_record;
        start = chained_head a;
        linked = s.linked a;
      })

  ------------------------------------------------------------------------
  -- Places off a chain, which a store may write

  -- q is no word of the chain a
  abbrev Off : StoreChain → ℕ → Type 0
  Off a q = (q ≢ start_of a) × Apart q (next_of a) (ch a)

  -- q is one: what holds of the head and of each link of the chain holds of q
  abbrev Word : StoreChain → ℕ → Type 1
  Word a q = (P : ℕ → Type 0) → P (start_of a) → All (λ j. P (cell j (next_of a))) (ch a) → P q

  off_head : (a b : StoreChain) → a ≢ b → Off b (start_of a)
  off_head a b ne = (
    λ e. ne (head_injective a b e),
    has_all _ (ch b) (λ j h e. omega (arith, (name_stands a).high, cell_least j (next_of b))),
  )

  -- word k of record j, which is not its link in the chain
  off-cell : (a : StoreChain) (j k : ℕ) → 1 ≤ j → k < record_length → (k ≡ next_of a → T (has j (ch a)) → ⊥)
      → Off a (cell j k)
  off-cell a j k least h out = (
    λ e. omega (arith, (name_stands a).high, cell_least j k),
    has_all _ (ch a)
        (λ i t e. let q = cell_injective j i k (next_of a) least (chained_range a i t).0 h
        (name_stands a).in_record e in out q.1 (rw q.0 t)),
  )

  -- a word of one chain is off every other
  off_word : (a b : StoreChain) (q : ℕ) → a ≢ b → Word a q → Off b q
  off_word a b q ne at =
      at (Off b) (off_head a b ne)
      (has_all _ (ch a)
      (λ j h. off-cell b j (next_of a) (chained_range a j h).0 (name_stands a).in_record
      (λ l t. s.apart a b (λ g. ne (name_injective a b g l)) j h t)))

  ------------------------------------------------------------------------
  -- Stores that keep the chains

  -- off every chain, and at no free record's next by watermark
  chained_set : (q v : ℕ) → ((a : StoreChain) → Off a q) → ((j : ℕ) → T (has j (ch Free)) → cell j next_by_watermark ≢ q)
      → Chained n (set w q v) ch
  unfolding record_word
  chained_set q v off h = record {
    inside = record { few = s.inside.few; room = rw length-set s.inside.room };
    linked = λ a. linked_set n (next_of a) w (start_of a) (ch a) q v (off a).0 (off a).1 (s.linked a);
    apart = s.apart;
    blank = λ j t. get_or-set_other w q (cell j next_by_watermark) v 0 (h j t) ∙ s.blank j t;
  }

  -- at one of the first four header words
  pub chained_set-header : (k v : ℕ) → k < 4 → Chained n (set w k v) ch
  chained_set-header k v h =
      chained_set k v
      (λ a. (
        λ e. omega (arith, (name_stands a).low),
        has_all _ (ch a)
            (λ j t e. omega (arith, cell_least j (next_of a))),
      ))
      (λ j t e. omega (arith, cell_least j next_by_watermark))

  -- at a word of record i that links it in none of its chains
  chained_set_word : (i k v : ℕ) → 1 ≤ i → k < record_length → ((a : StoreChain) → k ≡ next_of a → T (has i (ch a)) → ⊥)
      → (k ≡ next_by_watermark → T (has i (ch Free)) → ⊥)
      → Chained n (set w (cell i k) v) ch
  chained_set_word i k v least h out blank =
      chained_set (cell i k) v (λ a. off-cell a i k least h (out a))
      (λ j t e. let q = cell_injective j i next_by_watermark k (chained_range Free j t).0 least (omega arith) h e in
      blank (sym q.1) (rw (← q.0) t))

  -- at a data word
  pub chained_set_data : (i k v : ℕ) → 1 ≤ i → IsData k → Chained n (set w (cell i k) v) ch
  chained_set_data i k v least h =
      chained_set_word i k v least h.inside (λ a e. absurd ((name_stands a).no_data h e))
      (λ e. absurd (h.no_watermark_link e))

  ------------------------------------------------------------------------
  -- One chain changes

  module _ (a : StoreChain) where
    -- in v the chain a is l, of records that are in no chain of another group; the other chains, and the words that are
    -- 0, are as in w
    chained-upd : (v l : List ℕ) → length v ≡ length w → Linked n v (next_of a) (start_of a) l
        → ((b : StoreChain) → a ≢ b → Linked n v (next_of b) (start_of b) (ch b))
        → ((j : ℕ) → T (has j l) → (b : StoreChain) → group_of a ≢ group_of b → T (has j (ch b)) → ⊥)
        → ((j : ℕ) → T (has j (ch Free)) → record_word v j next_by_watermark ≡ 0)
        → (a ≡ Free → (j : ℕ) → T (has j l) → record_word v j next_by_watermark ≡ 0)
        → Chained n v (upd a l ch)
    chained-upd v l size changed others parted blank blank' = record {
      inside = record { few = s.inside.few; room = rw size s.inside.room };
      linked = upd_all (λ b m. Linked n v (next_of b) (start_of b) m) a l ch changed others;
      apart = λ b d. upd_all (λ b m. (d : StoreChain) → group_of b ≢ group_of d → (j : ℕ) → T (has j m)
          → T (has j (upd a l ch d)) → ⊥) a l ch
          (upd_all (λ d m. group_of a ≢ group_of d → (j : ℕ) → T (has j l) → T (has j m) → ⊥) a l ch
          (λ g. absurd (g refl)) (λ d ne g j t u. parted j t d g u))
          (λ b ne. upd_all (λ d m. group_of b ≢ group_of d → (j : ℕ) → T (has j (ch b)) → T (has j m) → ⊥) a l ch
          (λ g j t u. parted j u b (λ e. g (sym e)) t) (λ d ne' g. s.apart b d g)) b d;
      blank = upd_all (λ b m. b ≡ Free → (j : ℕ) → T (has j m) → record_word v j next_by_watermark ≡ 0) a l ch blank'
          (λ b ne e j t. blank j (rw e at t)) Free refl;
    }

    -- a store at a word of the chain leaves next by watermark of a record that is not linked there
    blank_set : (v : List ℕ) (q x j : ℕ) → Word a q → 1 ≤ j → (group_of a ≢ group_of Free → T (has j (ch a)) → ⊥)
        → get_or (set v q x) (cell j next_by_watermark) 0 ≡ get_or v (cell j next_by_watermark) 0
    blank_set v q x j at least out =
        let off = off-cell a j next_by_watermark least (omega arith) (λ l. out (watermark_group a (sym l))) in
        get_or-set_other v q (cell j next_by_watermark) x 0 (at (λ p. cell j next_by_watermark ≢ p) off.0 off.1)

    kept_word : (v : List ℕ) (q x : ℕ) → Word a q → Kept n v (set v q x)
    kept_word v q x at =
        kept_set n v q x (at (IsLink n) (is_link_head n a)
        (has_all _ (ch a) (λ j h. let r = chained_range a j h in is_link-cell n a j r.0 r.1)))

    -- record i is taken out of the chain
    module _ (i : ℕ) (h : T (has i (ch a))) where
      abbrev at : ℕ
      at = spot (next_of a) i (start_of a) (ch a)

      spot_word : Word a at
      spot_word P x y = spot_all P (next_of a) i (start_of a) (ch a) x y

      pub kept_out : Kept n w (put_out w (next_of a) i at)
      kept_out = kept_word w at _ spot_word

      pub chained_out : Chained n (put_out w (next_of a) i at) (upd a (remove i (ch a)) ch)
      unfolding record_word
      chained_out =
          let r = chained_range a i h in
          let blank : (j : ℕ) → T (has j (ch Free)) → record_word (put_out w (next_of a) i at) j 10 ≡ 0 =
          λ j t. blank_set w at _ j spot_word (chained_range Free j t).0 (λ g u. s.apart a Free g j u t)
          ∙ s.blank j t in
          chained-upd _ (remove i (ch a)) (length-set w at _)
          (link_out n (next_of a) w i r.0 r.1 (chained-cell a) (start_of a) (ch a) (chained_head a) h (s.linked a))
          (λ b ne. let off = off_word a b at ne spot_word in linked_set n (next_of b) w (start_of b) (ch b) at _ off.0
          off.1 (s.linked b))
          (λ j t b g. s.apart a b g j (has-remove j i (ch a) t))
          blank (λ e j t. blank j (rw e at (has-remove j i (ch a) t)))

    -- record i is put into it, behind one of its words
    module _ (i : ℕ) (o : Outside n ch a i) where
      own-apart : Off a (cell i (next_of a))
      own-apart = off-cell a i (next_of a) o.least (name_stands a).in_record (λ l t. o.own t)

      kept_in : (q : ℕ) → Word a q → Kept n w (put_in w (next_of a) i q)
      kept_in q at = kept_trans (kept_set n w _ _ (is_link-cell n a i o.least o.most)) (kept_word _ q i at)

      chained_put : (q : ℕ) (l : List ℕ) → Word a q → ((j : ℕ) → T (has j l) → T (has j (i ∷ ch a)))
          → (a ≡ Free → record_word w i next_by_watermark ≡ 0)
          → Linked n (put_in w (next_of a) i q) (next_of a) (start_of a) l → Chained n (put_in w (next_of a) i q) (upd a l ch)
      unfolding record_word
      chained_put q l at members z changed = chained-upd _ l (simp length-set) changed others
          (λ j t b g u. has_cases j i (ch a) (members j t) (λ e. o.other b g (rw e u)) (λ v. s.apart a b g j v u))
          blank
          (λ e j t. has_cases j i (ch a) (members j t)
          (λ q. rw (← q) (same i o.least (λ g u. g (ap group_of e)) ∙ z e))
          (λ u. blank j (rw e at u)))
        where
          others : (b : StoreChain) → a ≢ b → Linked n (put_in w (next_of a) i q) (next_of b) (start_of b) (ch b)
          others b ne =
              let off = off_word a b q ne at in
              let new = off-cell b i (next_of a) o.least (name_stands a).in_record
              (λ l. o.other b (λ g. ne (name_injective a b g l))) in
              linked_set n (next_of b) _ (start_of b) (ch b) q i off.0 off.1
              (linked_set n (next_of b) w (start_of b) (ch b) (cell i (next_of a)) _ new.0 new.1 (s.linked b))

          same : (j : ℕ) → 1 ≤ j → (group_of a ≢ group_of Free → T (has j (i ∷ ch a)) → ⊥)
              → get_or (put_in w (next_of a) i q) (cell j next_by_watermark) 0 ≡ get_or w (cell j next_by_watermark) 0
          same j least out =
              blank_set (set w (cell i (next_of a)) (get_or w q 0)) q i j at least (λ g t. out g (has_there j i (ch a) t))
              ∙ get_or-set_other w (cell i (next_of a)) (cell j next_by_watermark) (get_or w q 0) 0
              (λ e. let r = cell_injective j i 10 (next_of a) least o.least (omega arith)
              (name_stands a).in_record e in out (watermark_group a (sym r.1)) (rw r.0 (has_here i (ch a))))

          blank : (j : ℕ) → T (has j (ch Free)) → get_or (put_in w (next_of a) i q) (cell j next_by_watermark) 0 ≡ 0
          blank j t = same j (chained_range Free j t).0
              (λ g u. has_cases j i (ch a) u (λ e. o.other Free g (rw e t)) (λ v. s.apart a Free g j v t))
              ∙ s.blank j t

      -- at its place
      pub chained_in : (rk : ℕ → ℕ) → (a ≡ Free → record_word w i next_by_watermark ≡ 0)
          → Kept n w (put_in w (next_of a) i (place rk (next_of a) i (start_of a) (ch a)))
          × Chained n (put_in w (next_of a) i (place rk (next_of a) i (start_of a) (ch a)))
          (upd a (insert_ranked rk i (ch a)) ch)
      chained_in rk z =
          let at : Word a (place rk (next_of a) i (start_of a) (ch a)) =
          λ P x y. place_all P (next_of a) i rk (start_of a) (ch a) x y in (
            kept_in _ at,
            chained_put _ (insert_ranked rk i (ch a)) at (λ j t. rw (has-insert_ranked rk j i (ch a)) at t) z
                (link_in n (next_of a) w i o.least o.most (chained-cell a) rk (start_of a) (ch a) (chained_head a)
                own-apart.0 own-apart.1 (s.linked a)),
          )

      -- in front
      pub chained_first : (a ≡ Free → record_word w i next_by_watermark ≡ 0)
          → Kept n w (put_in w (next_of a) i (start_of a))
          × Chained n (put_in w (next_of a) i (start_of a)) (upd a (i ∷ ch a) ch)
      chained_first z =
          let at : Word a (start_of a) = λ P x y. x in (
            kept_in _ at,
            chained_put _ (i ∷ ch a) at (λ j t. t) z
                (link_first n (next_of a) w i o.least o.most (chained-cell a) (start_of a) (ch a) (chained_head a)
                own-apart.0 own-apart.1 (s.linked a)),
          )

-- a store at any word of a record that is in no chain
pub ready_set : (n : ℕ) (w : List ℕ) (ch : StoreChain → List ℕ) (i k v : ℕ) → k < record_length → Ready n w ch i
    → Ready n (set w (cell i k) v) ch i
ready_set n w ch i k v h r = record {
  chained = chained_set_word n w ch r.chained i k v r.least h (λ a e. r.out a) (λ e. r.out Free);
  least = r.least;
  most = r.most;
  out = r.out;
}
