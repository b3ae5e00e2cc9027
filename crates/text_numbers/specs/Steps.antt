-- What an argument of a command gives: a fault with its column, or values; and the place behind it.
use Rattle.std.specs.Prelude.{ℕ, List, [], ◌∷◌, take}
use Rattle.text_numbers.specs.declared.Step.{Step}

-- the faults of a word, by number; 0 is none
abbrev pub missing : ℕ
missing = 1

abbrev pub not_number : ℕ
not_number = 2

abbrev pub too_large : ℕ
too_large = 3

abbrev pub bad : ℕ → ℕ → ℕ → Step
bad fault column next = record { fault = fault; column = column; next = next; size = 0; a = 0; b = 0; c = 0; d = 0; e = 0 }

-- so many values, the first of five
abbrev pub got : ℕ → ℕ → ℕ → ℕ → ℕ → ℕ → ℕ → Step
got size a b c d e next = record { fault = 0; column = 0; next = next; size = size; a = a; b = b; c = c; d = d; e = e }

unfoldable pub values_of : Step → List ℕ
values_of s = take s.size (s.a ∷ s.b ∷ s.c ∷ s.d ∷ s.e ∷ [])
