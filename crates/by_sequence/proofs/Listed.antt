-- What a function makes of the first m numbers, written one by one from the start of a list: i of them.
use Prim.Native.Nat.{ℕ, ◌+◌, ◌≤◌, ◌<◌}
use mathlib.Core.Path.{◌≡◌, sym, ap, ◌∙◌}
use mathlib.Core.List.{List, map}
use native.Mathlib.Numerals.{add-one}
use native.Mathlib.Omega.{arith}
use lib.ListN.{length, get_or, take, set, length-map, get_or-map}
use lib.Seq.{length-take-le, take_all, paste, paste-suc, length-paste, get_or-take}
use Rattle.book.specs.Calls.{written}

abbrev pub listed : {A : Type 0} → (ℕ → A) → List ℕ → ℕ → List A → ℕ → List A
listed f o m list i = paste list 0 (map f (take m o)) i

module _ {A : Type 0} (f : ℕ → A) (o : List ℕ) (m : ℕ) (inside : m ≤ length o) (list : List A) (room : m ≤ length list) where
  size : length (map f (take m o)) ≡ m
  size = length-map (take m o) f ∙ length-take-le m o inside

  module _ (now : List A) (i : ℕ) (h : now ≡ listed f o m list i) where
    pub listed_length : i ≤ m → length now ≡ length list
    listed_length k = rw h (length-paste list 0 (map f (take m o)) i (omega arith) (omega (arith, size)))

    pub listed_next : i < m → (x : A) → x ≡ f (get_or o i 0) → set now i x ≡ listed f o m list (i + 1)
    listed_next k x e =
        let at : i ≡ 0 + i = omega arith in
        let value : x ≡ get_or (map f (take m o)) i (f 0) =
        e ∙ sym (get_or-map f (take m o) i 0 ∙ ap f (get_or-take m o i 0 k)) in
        rw (h, value) (ap (λ (p : ℕ). set (listed f o m list i) p (get_or (map f (take m o)) i (f 0))) at
        ∙ paste-suc list 0 (map f (take m o)) i (f 0) (omega arith) (omega (arith, size))
        ∙ ap (λ (j : ℕ). listed f o m list j) (sym (add-one i)))

    pub listed_end : i ≡ m → now ≡ written (map f (take m o)) list
    unfolding written
    listed_end e =
        let at : 0 + i ≡ length (map f (take m o)) = omega (arith, size) in
        rw (h, at, take_all i (map f (take m o)) (omega (arith, size)))
