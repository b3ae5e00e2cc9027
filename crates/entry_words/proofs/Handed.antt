-- The words of an entry that is handed in are those of a listed entry exactly where the two are the same in every field.
use Prim.Native.Nat.{ℕ}
use mathlib.Core.Path.{◌≡◌, refl, sym, ap, ◌∙◌}
use mathlib.Core.Bool.{Bool, true, false, cond, false≢true}
use native.Mathlib.Omega.{arith}
use borrow.Table.Steps.{cases}
use Rattle.pricelevel.proofs.Identity.{kind_number_injective}
use Rattle.pricelevel.specs.Identity.{kind_number}
use Rattle.pricelevel.specs.declared.IdKind.TheVariants.{Uuid}
use Rattle.book.proofs.Lists.{same_list_equal, same_list_refl}
use Rattle.book.proofs.SameEntries.{elected_words_injective, same_elected_equal, same_elected_refl}
use Rattle.book.specs.Commit.{same_elected}
use Rattle.book.specs.Entries.{elected_words}
use Rattle.book.specs.Lists.{same_list}
use Rattle.book.specs.declared.Elected.{Elected}
use Rattle.entry_words.specs.Handed.{pending_word, handed_words}

-- a flag is below 2, so that the word tells it and the kind
pending_word_parts : (p q : Bool) (k : ℕ) → pending_word p k ≡ cond q 1 0 → (k ≡ 0) × (cond {A = ℕ} p 1 0 ≡ cond q 1 0)
unfolding pending_word
pending_word_parts true true k e = omega arith
pending_word_parts true false k e = absurd (omega arith)
pending_word_parts false true k e = absurd (omega arith)
pending_word_parts false false k e = omega arith

pending_word_uuid : (p : Bool) → pending_word p 0 ≡ cond p 1 0
unfolding pending_word
pending_word_uuid true = refl
pending_word_uuid false = refl

module _ (e f : Elected) (uuid : f.child.kind ≡ Uuid) where
  handed_equal : handed_words e ≡ elected_words f → e ≡ f
  unfolding handed_words elected_words
  handed_equal h =
      let last : pending_word e.pending (kind_number e.child.kind) ≡ cond f.pending 1 0 = cc in
      let parts = pending_word_parts e.pending f.pending (kind_number e.child.kind) last in
      elected_words_injective e f (kind_number_injective _ _ parts.0 ∙ sym uuid) (cc parts.1)

  handed_own : handed_words f ≡ elected_words f
  unfolding handed_words elected_words
  handed_own = rw (uuid, pending_word_uuid f.pending)

  pub handed_same : same_list (handed_words e) (elected_words f) ≡ same_elected e f
  handed_same = cases (same_list (handed_words e) (elected_words f))
      (λ y. y ∙ sym (rw (handed_equal (same_list_equal (handed_words e) (elected_words f) y)) (same_elected_refl f)))
      (λ n. cases (same_elected e f)
      (λ y.
      let same : handed_words e ≡ elected_words f = ap handed_words (same_elected_equal e f y) ∙ handed_own in
      absurd (false≢true (sym n ∙ rw same (same_list_refl (elected_words f)))))
      (λ m. n ∙ sym m))
