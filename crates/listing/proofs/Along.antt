-- Entries written along a chain: each record that passes a test gives entries, up to the first that does not. The state
-- of a loop that is to write them, and what a turn makes of it.
use Prim.Native.Nat.{ℕ, ◌+◌, ◌-◌, ◌≤◌}
use native.Mathlib.Omega.{arith}
use mathlib.Core.Path.{◌≡◌, refl, sym, ap, ◌∙◌}
use mathlib.Core.Logic.{◌≢◌}
use mathlib.Core.Bool.{Bool, true, false, cond}
use mathlib.Core.List.{List, [], ◌∷◌, ◌++◌, append-nil, append_assoc}
use lib.ListN.{length, get_or, length-append}
use lib.Seq.{sets, length-sets}
use Rattle.book.specs.Words.{cell, record_word, entry_at}
use Rattle.book.specs.declared.StopEntry.{StopEntry}
use Rattle.chains.specs.Links.{Linked}
use Rattle.chains.specs.Records.{Room, Record}
use Rattle.chains.proofs.OneChain.{From, linked_from}
use Rattle.listing.proofs.Notes.{Written}
use Rattle.listing.proofs.Sets.{sets_on}

module _ (test : StopEntry → Bool) (give : StopEntry → List (List ℕ)) (w : List ℕ) where
  -- what the records of a chain give
  unfoldable pub along : List ℕ → List (List ℕ)
  along [] = []
  along (i ∷ l) = cond (test (entry_at w i)) (give (entry_at w i) ++ along l) []

  module _ (n k : ℕ) (list : List (List ℕ)) (at : ℕ) (es : List (List ℕ)) where
    -- before record i, with `done` written and `rest` of the chain to come
    pub record At (i m left : ℕ) (now : List (List ℕ)) : Type 0 where
      pub inside : Room n w
      pub place : ℕ
      pub rest : List ℕ
      pub named : get_or w place 0 ≡ i
      pub linked : Linked n w k place rest
      pub short : length rest ≤ left
      pub done : List (List ℕ)
      pub whole : done ++ along rest ≡ es
      pub listed : Written list at done m now
      pub room : at + length es ≤ length list

    pub at_first : (p : ℕ) (l : List ℕ) → Room n w → Linked n w k p l → length l ≤ n → es ≡ along l
        → at + length es ≤ length list
        → At (get_or w p 0) at n list
    at_first p l inside linked short e room = record {
      inside = inside;
      place = p;
      rest = l;
      named = refl;
      linked = linked;
      short = short;
      done = [];
      whole = sym e;
      listed = (omega arith, refl);
      room = room;
    }

    module _ {i m left : ℕ} {now : List (List ℕ)} (a : At i m left now) where
      pub at_length : length now ≡ length list
      at_length = ap length a.listed.1 ∙ length-sets list at a.done

      -- all is written, where what is left gives nothing
      at_last : along a.rest ≡ [] → Written list at es m now
      at_last e =
          let q : a.done ≡ es = sym (append-nil a.done) ∙ ap (λ l. a.done ++ l) (sym e) ∙ a.whole in
          rw (← q) a.listed

      pub at_end : i ≡ 0 → Written list at es m now
      unfolding along
      at_end z = go a.rest a.linked refl
        where
          go : (l : List ℕ) → Linked n w k a.place l → a.rest ≡ l → Written list at es m now
          go [] h e = at_last (rw e)
          go (j ∷ l) h e = absurd (omega (arith, a.named, h.0, h.1))

      module _ (z : i ≢ 0) where
        at_from : From n w k i a.rest
        at_from = linked_from n w k a.place i a.rest a.named z a.linked

        pub at_record : Record n w i
        at_record = record { least = at_from.least; most = at_from.most; inside = a.inside }

        pub at_left : 1 ≤ left
        at_left = omega (arith, a.short, ap length at_from.is)

        pub at_stop : test (entry_at w i) ≡ false → Written list at es m now
        unfolding along
        at_stop f = at_last (rw (at_from.is, f))

        module _ (t : test (entry_at w i) ≡ true) where
          whole_next : (a.done ++ give (entry_at w i)) ++ along at_from.rest ≡ es
          unfolding along
          whole_next = append_assoc a.done (give (entry_at w i)) (along at_from.rest)
              ∙ (rw (at_from.is, t) at a.whole)

          pub at_room : m + length (give (entry_at w i)) ≤ length now
          at_room =
              let e : length es ≡ (length a.done + length (give (entry_at w i))) + length (along at_from.rest) =
              ap length (sym whole_next) ∙ length-append (a.done ++ give (entry_at w i)) (along at_from.rest)
              ∙ ap (λ k. k + length (along at_from.rest)) (length-append a.done (give (entry_at w i))) in
              omega (arith, e, at_length, a.listed.0, a.room)

          pub at_next : (r : ℕ) (after : List (List ℕ)) → Written now m (give (entry_at w i)) r after
              → At (record_word w i k) r (left - 1) after
          unfolding record_word
          at_next r after h = record {
            inside = a.inside;
            place = cell i k;
            rest = at_from.rest;
            named = refl;
            linked = at_from.linked;
            short = omega (arith, a.short, ap length at_from.is);
            done = a.done ++ give (entry_at w i);
            whole = whole_next;
            listed = (
              omega (arith, h.0, a.listed.0, length-append a.done (give (entry_at w i))),
              h.1 ∙ ap (λ l. sets l m (give (entry_at w i))) a.listed.1
                  ∙ sets_on a.done (give (entry_at w i)) list at m a.listed.0,
            );
            room = a.room;
          }
