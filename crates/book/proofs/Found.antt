-- What `find` answers of a well-formed store: the stop that a record holds, under its identity.
use Prim.Native.Nat.{ℕ, zero, suc, ◌-◌, ◌≤◌, ◌<◌}
use native.Mathlib.Omega.{arith}
use mathlib.Core.Path.{◌≡◌, refl}
use mathlib.Core.Bool.{true}
use mathlib.Core.List.{List, [], ◌∷◌}
use borrow.Table.Steps.{cases}
use lib.ListN.{length, get_or}
use Rattle.error.specs.Answer.{accepted}
use Rattle.error.specs.Questions.{first_no, decide}
use Rattle.pricelevel.specs.declared.Id.{Id}
use Rattle.book.proofs.Lookup.{lookup_found}
use Rattle.book.proofs.VacatedEach.{lookup_is}
use Rattle.book.proofs.WellFormed.{well_formed-valid}
use Rattle.book.specs.Book.{Slot, vacant, held, Pending}
use Rattle.book.specs.Store.{lookup, entry_of, find}
use Rattle.book.specs.Words.{book_of, well_formed}
use Rattle.book.specs.declared.StopEntry.{StopEntry}
use Rattle.std.specs.Prelude.{None, Option, Some}

-- a record of the store holds the stop
pub record HeldIn (w : List ℕ) (t : StopEntry) : Type 0 where
  pub index : ℕ
  pub from : 1 ≤ index
  pub there : get_or (book_of w).slots (index - 1) vacant ≡ held t

pub find_held : (id : Id) (w : List ℕ) (t : StopEntry) → find id w ≡ accepted (Some t) → HeldIn w t
unfolding find decide first_no entry_of
find_held id w t e = cases (well_formed w) (λ f. go (lookup id (book_of w)) refl (rw f at e))
    (λ f. let g = rw f at e in let z : ◌≡◌ {A = ℕ} 0 1 = cc in absurd (omega arith))
  where
    go : (o : Option Pending) → lookup id (book_of w) ≡ o → accepted (entry_of o) ≡ accepted (Some t) → HeldIn w t
    go None q h = let z : ◌≡◌ {A = ℕ} 0 1 = cc in absurd (omega arith)
    go (Some p) q h =
        let f = (lookup_found id (book_of w) p q).0 in
        let same : p.entry ≡ t = cc in
        record { index = p.index; from = f.from; there = rw same at f.there }

-- a place that holds a stop is one of the records
held-within : (ss : List Slot) (k : ℕ) (t : StopEntry) → get_or ss k vacant ≡ held t → k < length ss
held-within [] k t e = let z : ◌≡◌ {A = ℕ} 0 1 = cc in absurd (omega arith)
held-within (s ∷ ss) zero t e = omega arith
held-within (s ∷ ss) (suc k) t e = omega (arith, held-within ss k t e)

pub held-find : (w : List ℕ) (t : StopEntry) → well_formed w ≡ true → HeldIn w t → find t.id w ≡ accepted (Some t)
unfolding find decide first_no entry_of
held-find w t formed h = rw (
  formed,
  lookup_is (book_of w) (record { index = h.index; entry = t }) (well_formed-valid w formed) (record {
    from = h.from;
    to = omega (arith, held-within (book_of w).slots (h.index - 1) t h.there);
    there = h.there;
  }),
)
