-- The arguments of a command by its signature, a letter for each.
use Rattle.std.specs.Prelude.{ℕ, ◌+◌, cond, List, [], ◌∷◌, ◌++◌, eqb}
use Rattle.text_words.specs.Words.{word_start, word_end}
use Rattle.text_numbers.specs.Steps.{values_of}
use Rattle.sheet_arguments.specs.Arguments.{argument_at}

-- a word too many
abbrev pub extra_word : ℕ
extra_word = 9

-- the fault, its column, and the values of the arguments: of those before the fault where there is one
pub record Arguments : Type 0 where
  pub fault : ℕ
  pub column : ℕ
  pub values : List ℕ

abbrev pub arguments : ℕ → ℕ → List ℕ → Arguments
arguments f k vs = record { fault = f; column = k; values = vs }

abbrev pub behind : List ℕ → Arguments → Arguments
behind vs a = arguments a.fault a.column (vs ++ a.values)

-- behind the last argument there is no word
unfoldable pub ended : List ℕ → ℕ → Arguments
ended line at = cond (eqb (word_start line at) (word_end line at)) (arguments 0 0 []) (arguments extra_word (word_start line at + 1) [])

-- the arguments from a place on
unfoldable pub arguments_from : List ℕ → List ℕ → ℕ → Arguments
arguments_from [] line at = ended line at
arguments_from (letter ∷ signature) line at =
    let s = argument_at letter line at in
    cond (eqb s.fault 0) (behind (values_of s) (arguments_from signature line s.next)) (arguments s.fault s.column [])
