-- A holder: a word of up to 32 bytes, zero bytes behind them, as four big-endian words.
use Rattle.std.specs.Prelude.{ℕ, zero, suc, ◌+◌, ◌-◌, ◌*◌, ◌%◌, cond, List, eqb, leb, get_or}
use Rattle.text_words.specs.Words.{word_start, word_end, between}
use Rattle.text_numbers.specs.Steps.{missing, bad, got}
use Rattle.text_numbers.specs.declared.Step.{Step}

abbrev pub too_long : ℕ
too_long = 8

-- k bytes from a place on behind the bytes of v, the highest falling out; zero bytes behind the text
unfoldable pub packed : ℕ → List ℕ → ℕ → ℕ → ℕ
packed zero text at v = v
packed (suc k) text at v = packed k text (at + 1) (v % 72057594037927936 * 256 + get_or text at 0)

-- eight bytes as a word
unfoldable pub word_at : List ℕ → ℕ → ℕ
word_at text at = packed 8 text at 0

abbrev pub of_holder : List ℕ → ℕ → Step
of_holder text end = got 4 (word_at text 0) (word_at text 8) (word_at text 16) (word_at text 24) 0 end

-- the holder between two places; `none` is what stands for no word
unfoldable pub holder_between : Step → List ℕ → ℕ → ℕ → Step
holder_between none line start end =
    cond (eqb start end) none
    (cond (leb (end - start) 32) (of_holder (between line start end) end) (bad too_long (start + 1) end))

-- the next word as a holder; no word is a fault
unfoldable pub holder_at : List ℕ → ℕ → Step
holder_at line at =
    holder_between (bad missing (word_start line at + 1) (word_end line at)) line (word_start line at) (word_end line at)

-- the next word as a holder; no word is four zeros
unfoldable pub holder_or_none : List ℕ → ℕ → Step
holder_or_none line at = holder_between (got 4 0 0 0 0 0 (word_end line at)) line (word_start line at) (word_end line at)
