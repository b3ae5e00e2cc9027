-- Lists: what the definitions of the book share.
use Rattle.std.specs.Prelude.{ℕ, zero, suc, Bool, true, false, cond, ◌&&◌, List, [], ◌∷◌, eqb, None, Option, Some}

-- the first element, or 0: how a chain is named in a word
unfoldable pub head_or0 : List ℕ → ℕ
head_or0 [] = 0
head_or0 (i ∷ l) = i

-- k numbers rising from i
unfoldable pub rising : ℕ → ℕ → List ℕ
rising i zero = []
rising i (suc k) = i ∷ rising (suc i) k

-- no value, a value
-- a fact of every element, and a test on every element
abbrev pub All : {A : Type 0} → (A → Type 0) → List A → Type 0
All P [] = Unit {0}
All P (x ∷ l) = P x × All P l

unfoldable pub every : {A : Type 0} → (A → Bool) → List A → Bool
every p [] = true
every p (x ∷ l) = p x && every p l

-- the elements that pass a test, in their order
unfoldable pub filter : {A : Type 0} → (A → Bool) → List A → List A
filter keeps [] = []
filter keeps (x ∷ l) = cond (keeps x) (x ∷ filter keeps l) (filter keeps l)

unfoldable pub same_list : List ℕ → List ℕ → Bool
same_list [] [] = true
same_list [] (y ∷ m) = false
same_list (x ∷ l) [] = false
same_list (x ∷ l) (y ∷ m) = eqb x y && same_list l m

-- as long, and the same element by element
unfoldable pub same_by : {A : Type 0} → (A → A → Bool) → List A → List A → Bool
same_by same [] [] = true
same_by same [] (y ∷ m) = false
same_by same (x ∷ l) [] = false
same_by same (x ∷ l) (y ∷ m) = same x y && same_by same l m

-- put in, and sorted, by a test for earlier: document 01, The store, order of chains
unfoldable pub insert_by : {A : Type 0} → (A → A → Bool) → A → List A → List A
insert_by earlier x [] = x ∷ []
insert_by earlier x (y ∷ l) = cond (earlier x y) (x ∷ y ∷ l) (y ∷ insert_by earlier x l)

unfoldable pub sort_by : {A : Type 0} → (A → A → Bool) → List A → List A
sort_by earlier [] = []
sort_by earlier (x ∷ l) = insert_by earlier x (sort_by earlier l)
