-- Holders as theorems, which the checker computes.
use mathlib.Core.Path.{◌≡◌, refl}
use mathlib.Core.List.{[], ◌∷◌}
use Rattle.text_words.specs.Words.{word_start, word_end, run, separates, spells}
use Rattle.text_numbers.specs.Steps.{bad, got, missing}
use Rattle.text_holders.specs.Holders.{holder_at, holder_or_none, holder_between, word_at, packed, too_long}

-- "h Anna "
short : holder_at (104 ∷ 32 ∷ 65 ∷ 110 ∷ 110 ∷ 97 ∷ 32 ∷ []) 1 ≡ got 4 4714827222794371072 0 0 0 0 6
unfolding holder_at holder_or_none holder_between word_at packed word_start word_end run separates spells
short = refl

-- "abcdefghijklmnopqrstuvwxyz012345"
longest : holder_at (97 ∷ 98 ∷ 99 ∷ 100 ∷ 101 ∷ 102 ∷ 103 ∷ 104 ∷ 105 ∷ 106 ∷ 107 ∷ 108 ∷ 109 ∷ 110 ∷ 111 ∷ 112 ∷ 113 ∷ 114 ∷ 115 ∷ 116 ∷ 117 ∷ 118 ∷ 119 ∷ 120 ∷ 121 ∷ 122 ∷ 48 ∷ 49 ∷ 50 ∷ 51 ∷ 52 ∷ 53 ∷ []) 0 ≡ got 4 7017280452245743464 7596001834950356848 8174723217654970232 8753361813601727541 0 32
unfolding holder_at holder_or_none holder_between word_at packed word_start word_end run separates spells
longest = refl

-- "h abcdefghijklmnopqrstuvwxyz0123456"
too_long_lem : holder_at (104 ∷ 32 ∷ 97 ∷ 98 ∷ 99 ∷ 100 ∷ 101 ∷ 102 ∷ 103 ∷ 104 ∷ 105 ∷ 106 ∷ 107 ∷ 108 ∷ 109 ∷ 110 ∷ 111 ∷ 112 ∷ 113 ∷ 114 ∷ 115 ∷ 116 ∷ 117 ∷ 118 ∷ 119 ∷ 120 ∷ 121 ∷ 122 ∷ 48 ∷ 49 ∷ 50 ∷ 51 ∷ 52 ∷ 53 ∷ 54 ∷ []) 1 ≡ bad too_long 3 35
unfolding holder_at holder_or_none holder_between word_at packed word_start word_end run separates spells
too_long_lem = refl

-- "h;;"
none : holder_at (104 ∷ 59 ∷ 59 ∷ []) 1 ≡ bad missing 4 3
unfolding holder_at holder_or_none holder_between word_at packed word_start word_end run separates spells
none = refl

-- "h;;"
none_is-zeros : holder_or_none (104 ∷ 59 ∷ 59 ∷ []) 1 ≡ got 4 0 0 0 0 0 3
unfolding holder_at holder_or_none holder_between word_at packed word_start word_end run separates spells
none_is-zeros = refl

-- "h;b"
some : holder_or_none (104 ∷ 59 ∷ 98 ∷ []) 1 ≡ got 4 7061644215716937728 0 0 0 0 3
unfolding holder_at holder_or_none holder_between word_at packed word_start word_end run separates spells
some = refl
