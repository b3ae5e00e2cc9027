-- A refused call alters nothing lent: document 01, The questions a call goes through. A call that takes a known path
-- writes its words anew, so that it is shown here that a refused one writes those that came in.
use Prim.Native.Nat.{ℕ, zero, suc}
use mathlib.Core.Bool.{Bool, true, false, cond, ◌&&◌}
use mathlib.Core.List.{List, [], ◌∷◌}
use mathlib.Core.Path.{◌≡◌, refl, ap, ◌∙◌}
use native.Mathlib.Omega.{arith}
use borrow.Author.Tests.{leb-true}
use lib.Dec.{leb}
use Rattle.pricelevel.proofs.Bools.{and_parts}
use Rattle.book.proofs.Refusals.{Refused, admit_refused, clear_refused, run_call_refused}
use Rattle.host_words.specs.Answers.{path_words}
use Rattle.host_words.specs.Arguments.{is_on, id_known, id_of, terms_known, terms_of, last_price_of, path_known, path_of, settings_of}
use Rattle.host_words.specs.ByWords.{HostOutcome, RunOutcome, hosted_run, admit_by_words, clear_by_words, run_by_words}

flag-is_on : (f : ℕ) → leb f 1 ≡ true → cond (is_on f) 1 0 ≡ f
flag-is_on zero h = refl
flag-is_on (suc zero) h = refl
flag-is_on (suc (suc f)) h = omega (arith, leb-true (suc (suc f)) 1 h)

-- what holds of a call where its values are known, and where they are not
either : {O : Type 0} (Kept : O → Type 0) (known : Bool) (read unread : O) → (known ≡ true → Kept read) → Kept unread
    → Kept (cond known read unread)
either Kept true read unread h g = h refl
either Kept false read unread h g = g

module _ (a b p f : ℕ) (w : List ℕ) where
  abbrev path : List ℕ
  path = a ∷ b ∷ p ∷ f ∷ []

  -- the words of a known path are those that it was read from
  path_words-path_of : path_known path ≡ true → path_words (path_of path) ≡ path
  path_words-path_of h = let t = and_parts _ _ h in rw (flag-is_on a t.0, flag-is_on b t.1)

  abbrev Left : {A : Type 0} → HostOutcome A → Type 0
  Left o = Refused o.answer → (o.words ≡ w) × (o.path ≡ path)

  pub admit_refused-stays : (kill : ℕ) (trade id terms : List ℕ) (quantity : ℕ) (holder : List ℕ)
      → Left (admit_by_words kill trade id terms quantity holder w path)
  admit_refused-stays kill trade id terms quantity holder =
      either (λ o. Left o) (id_known id && (terms_known terms && path_known path)) _ _
      (λ e r. let known = (and_parts (terms_known terms) _ (and_parts (id_known id) _ e).1).1 in
      let t = admit_refused (is_on kill) (last_price_of trade) (id_of id) (terms_of terms) _ _ w (path_of path) r in
      (t.0, ap path_words t.1 ∙ path_words-path_of known)) (λ r. (refl, refl))

  pub clear_refused-stays : Left (clear_by_words w path)
  clear_refused-stays =
      either (λ o. Left o) (path_known path) _ _
      (λ e r. let t = clear_refused w (path_of path) r in (t.0, ap path_words t.1 ∙ path_words-path_of e))
      (λ r. (refl, refl))

  pub run_refused-stays : (settings script trade : List ℕ) (elected : ℕ)
      → Refused (run_by_words settings script trade w elected path).answer
      → ((run_by_words settings script trade w elected path).words ≡ w)
      × ((run_by_words settings script trade w elected path).elected ≡ [])
      × ((run_by_words settings script trade w elected path).path ≡ path)
  unfolding run_by_words hosted_run
  run_refused-stays settings script trade elected =
      either (λ (o : RunOutcome). Refused o.answer → (o.words ≡ w) × (o.elected ≡ []) × (o.path ≡ path))
      (path_known path) _ _
      (λ e r. let t = run_call_refused (settings_of settings) w elected script (last_price_of trade) (path_of path) r in
      (t.0, t.1, ap path_words t.2 ∙ path_words-path_of e)) (λ r. (refl, refl, refl))
