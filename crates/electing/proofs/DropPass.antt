-- A pass along a chain that takes the elected out: the state of the loop, and what a turn makes of it. The chain is
-- front ++ rest, the word at p names the first of rest, and front is what the pass has kept.
use Prim.Native.Nat.{ℕ, ◌-◌, ◌≤◌, ◌<◌}
use native.Mathlib.Omega.{arith}
use mathlib.Core.Path.{◌≡◌, refl, sym, ap, ◌∙◌}
use mathlib.Core.Logic.{◌≢◌}
use mathlib.Core.Bool.{Bool, true, false}
use mathlib.Core.List.{List, [], ◌∷◌, ◌++◌, append_assoc}
use lib.ListN.{length, get_or, set}
use Rattle.pricelevel.specs.declared.Price.{Price}
use Rattle.stop_terms.specs.Terms.{elected_at}
use Rattle.book.specs.Words.{cell, entry_at}
use Rattle.book.specs.Sizes.{most_records, record_length, store_length}
use Rattle.chains.proofs.Kept.{kept_trans, kept_entry}
use Rattle.chains.proofs.OneChain.{linked_length, From, linked_from, word_after_end}
use Rattle.chains.proofs.Names.{name_stands, head_injective, upd_same}
use Rattle.chains.specs.Chained.{Chained, Kept, upd}
use Rattle.book.specs.Chains.{start_of, next_of}
use Rattle.book.specs.declared.StoreChain.{StoreChain}
use Rattle.chains.specs.Links.{Linked, put_out, word_after}
use Rattle.chains.specs.Records.{Record}
use Rattle.electing.proofs.Fronts.{second_linked, second-place, kept_second, chained_second}
use Rattle.electing.specs.Elected.{unelected}

module _ (price : Price) (w : List ℕ) (i : ℕ) (l : List ℕ) where
  unelected_drop : elected_at (entry_at w i).terms price ≡ true → unelected price w (i ∷ l) ≡ unelected price w l
  unfolding unelected
  unelected_drop e = rw e

  unelected_keep : elected_at (entry_at w i).terms price ≡ false → unelected price w (i ∷ l) ≡ i ∷ unelected price w l
  unfolding unelected
  unelected_keep e = rw e

------------------------------------------------------------------------
-- Along the chain a of ch

module _ (n : ℕ) (a : StoreChain) (price : Price) (w0 : List ℕ) (ch : StoreChain → List ℕ) where
  pub record Pass (w : List ℕ) (p left : ℕ) : Type 0 where
    pub front : List ℕ
    pub rest : List ℕ
    pub chained : Chained n w (upd a (front ++ rest) ch)
    pub place : p ≡ word_after (next_of a) (start_of a) front
    pub split : unelected price w0 (ch a) ≡ front ++ unelected price w0 rest
    pub short : length rest ≤ left

  pass_first : (p : ℕ) → p ≡ start_of a → Chained n w0 ch → Pass w0 p n
  pass_first p e h = record {
    front = [];
    rest = ch a;
    chained = rw (upd_same a (ch a) ch refl) h;
    place = e;
    split = refl;
    short = linked_length n (next_of a) w0 (start_of a) (ch a) (h.linked a);
  }

  module _ {w : List ℕ} {p left : ℕ} (s : Pass w p left) where
    ahead : Linked n w (next_of a) p s.rest
    ahead = rw s.place (second_linked ch a s.front s.rest s.chained)

    pass-place : p < store_length n
    pass-place = rw s.place (second-place ch a s.front s.rest s.chained)

    pass_end : get_or w p 0 ≡ 0 → Chained n w (upd a (unelected price w0 (ch a)) ch)
    unfolding unelected
    pass_end z = go s.rest refl ahead
      where
        go : (l : List ℕ) → s.rest ≡ l → Linked n w (next_of a) p l → Chained n w (upd a (unelected price w0 (ch a)) ch)
        go [] e c = rw (s.split, e) (rw e at s.chained)
        go (j ∷ l) e c = absurd (omega (arith, c.0, c.1))

    -- the next record
    module _ (ne : get_or w p 0 ≢ 0) where
      abbrev i : ℕ
      i = get_or w p 0

      abbrev from : From n w (next_of a) i s.rest
      from = linked_from n w (next_of a) p i s.rest refl ne ahead

      pass_record : Record n w i
      pass_record = record { least = from.least; most = from.most; inside = s.chained.inside }

      pass_left : 1 ≤ left
      pass_left = omega (arith, s.short, ap length from.is)

      pass_keep : elected_at (entry_at w0 i).terms price ≡ false → Pass w (cell i (next_of a)) (left - 1)
      pass_keep e = record {
        front = s.front ++ (i ∷ []);
        rest = from.rest;
        chained = rw (append_assoc s.front (i ∷ []) from.rest) (rw from.is at s.chained);
        place = sym (word_after_end (next_of a) (start_of a) s.front i);
        split =
            s.split ∙ ap (λ (l : List ℕ). s.front ++ unelected price w0 l) from.is
            ∙ ap (λ (l : List ℕ). s.front ++ l) (unelected_keep price w0 i from.rest e)
            ∙ sym (append_assoc s.front (i ∷ []) (unelected price w0 from.rest));
        short = omega (arith, s.short, ap length from.is);
      }

      kept_drop : Kept n w (put_out w (next_of a) i p)
      kept_drop = rw (← s.place) at (kept_second ch a s.front s.rest s.chained i from.rest from.is)

      pass_drop : elected_at (entry_at w0 i).terms price ≡ true → Pass (put_out w (next_of a) i p) p (left - 1)
      pass_drop e = record {
        front = s.front;
        rest = from.rest;
        chained = rw (← s.place) at (chained_second ch a s.front s.rest s.chained i from.rest from.is);
        place = s.place;
        split =
            s.split ∙ ap (λ (l : List ℕ). s.front ++ unelected price w0 l) from.is
            ∙ ap (λ (l : List ℕ). s.front ++ l) (unelected_drop price w0 i from.rest e);
        short = omega (arith, s.short, ap length from.is);
      }

------------------------------------------------------------------------
-- The loop

-- along the chain that has this link and head, of chains that there are, and of all chains that the words have at the
-- start
pub record Passing (n : ℕ) (price : Price) (w0 : List ℕ) (link head : ℕ) (w : List ℕ) (p left : ℕ) : Type 0 where
  pub name : StoreChain
  pub its_link : link ≡ next_of name
  pub its_head : head ≡ start_of name
  pub chains : StoreChain → List ℕ
  pub chained : Chained n w0 chains
  pub kept : Kept n w0 w
  pub passes : (a : StoreChain) → head ≡ start_of a → (ch : StoreChain → List ℕ) → Chained n w0 ch
      → Pass n a price w0 ch w p left

pub passing_first : (n : ℕ) (price : Price) (w : List ℕ) (link head : ℕ) (a : StoreChain) → link ≡ next_of a
    → head ≡ start_of a
    → (ch : StoreChain → List ℕ) → Chained n w ch → Passing n price w link head w head n
passing_first n price w link head a el eh ch h = record {
  name = a;
  its_link = el;
  its_head = eh;
  chains = ch;
  chained = h;
  kept = record { size = refl; header = λ k l. refl; words = λ i k low l. refl; beyond = refl };
  passes = λ a e ch h. pass_first n a price w ch head e h;
}

-- the words at p and at the link of a record may be read and written
pub record Places (n link : ℕ) (w : List ℕ) (p : ℕ) : Type 0 where
  pub low : p < store_length n
  pub few : n ≤ most_records
  pub room : store_length n ≤ length w
  pub link_low : link < record_length

module _ {n : ℕ} {price : Price} {w0 : List ℕ} {link head : ℕ} {w : List ℕ} {p left : ℕ}
    (v : Passing n price w0 link head w p left) where
  abbrev here : Pass n v.name price w0 v.chains w p left
  here = v.passes v.name v.its_head v.chains v.chained

  pub passing_places : Places n link w p
  passing_places = record {
    low = pass-place n v.name price w0 v.chains here;
    few = v.chained.inside.few;
    room = here.chained.inside.room;
    link_low = rw v.its_link (name_stands v.name).in_record;
  }

  pub passing_end : get_or w p 0 ≡ 0 → (a : StoreChain) → head ≡ start_of a → (ch : StoreChain → List ℕ) → Chained n w0 ch
      → Chained n w (upd a (unelected price w0 (ch a)) ch)
  passing_end z a e ch h = pass_end n a price w0 ch (v.passes a e ch h) z

  module _ (ne : get_or w p 0 ≢ 0) where
    pub passing_record : Record n w (get_or w p 0)
    passing_record = pass_record n v.name price w0 v.chains here ne

    pub passing_left : 1 ≤ left
    passing_left = pass_left n v.name price w0 v.chains here ne

    module _ (at : ℕ) (is : at ≡ cell (get_or w p 0) link) where
      same_link : (a : StoreChain) → head ≡ start_of a → link ≡ next_of a
      same_link a e = v.its_link ∙ ap next_of (head_injective v.name a (sym v.its_head ∙ e))

      same_test : {t : Bool} → elected_at (entry_at w (get_or w p 0)).terms price ≡ t
          → elected_at (entry_at w0 (get_or w p 0)).terms price ≡ t
      same_test e = rw (kept_entry n w0 w v.kept (get_or w p 0) passing_record.least) at e

      pub passing_keep : elected_at (entry_at w (get_or w p 0)).terms price ≡ false
          → Passing n price w0 link head w at (left - 1)
      passing_keep e = record {
        name = v.name;
        its_link = v.its_link;
        its_head = v.its_head;
        chains = v.chains;
        chained = v.chained;
        kept = v.kept;
        passes = λ a q ch h. rw (is, same_link a q) (pass_keep n a price w0 ch (v.passes a q ch h) ne (same_test e));
      }

      pub passing_drop : elected_at (entry_at w (get_or w p 0)).terms price ≡ true
          → Passing n price w0 link head (set w p (get_or w at 0)) p (left - 1)
      passing_drop e = record {
        name = v.name;
        its_link = v.its_link;
        its_head = v.its_head;
        chains = v.chains;
        chained = v.chained;
        kept = rw (is, v.its_link) (kept_trans v.kept (kept_drop n v.name price w0 v.chains here ne));
        passes = λ a q ch h. rw (is, same_link a q) (pass_drop n a price w0 ch (v.passes a q ch h) ne (same_test e));
      }
