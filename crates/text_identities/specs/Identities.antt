-- Identities: a UUID of 36 characters, a ULID of 26, or a number.
use Rattle.std.specs.Prelude.{ℕ, ◌+◌, ◌-◌, ◌*◌, ◌/◌, ◌%◌, cond, not, List, [], ◌∷◌, eqb, leb, length, Option, Some, None}
use Rattle.text_words.specs.Words.{word_start, word_end, between, run, folded}
use Rattle.text_numbers.specs.Numbers.{number_between}
use Rattle.text_numbers.specs.Steps.{missing, bad, got}
use Rattle.text_numbers.specs.declared.Step.{Step}
use Rattle.text_identities.specs.declared.Spelled.{Spelled}

abbrev pub not_uuid : ℕ
not_uuid = 4

abbrev pub not_ulid : ℕ
not_ulid = 5

-- Crockford's 32 digits, of which the first sixteen are the hexadecimal ones: "0123456789abcdefghjkmnpqrstvwxyz"
unfoldable pub digits : List ℕ
digits = 48 ∷ 49 ∷ 50 ∷ 51 ∷ 52 ∷ 53 ∷ 54 ∷ 55 ∷ 56 ∷ 57 ∷ 97 ∷ 98 ∷ 99 ∷ 100 ∷ 101 ∷ 102 ∷ 103 ∷ 104 ∷ 106 ∷ 107 ∷ 109 ∷ 110 ∷ 112 ∷ 113 ∷ 114 ∷ 115 ∷ 116 ∷ 118 ∷ 119 ∷ 120 ∷ 121 ∷ 122 ∷ []

-- the place of a letter in a text; the text's length where it has none
unfoldable pub place_in : List ℕ → ℕ → ℕ
place_in text b = run (λ x. not (eqb x b)) text

-- a digit's value, in either case; 32 where it is none
unfoldable pub value_of : ℕ → ℕ
value_of b = place_in digits (folded b)

abbrev pub spelled : ℕ → ℕ → Spelled
spelled high low = record { high = high; low = low }

-- a digit of a base behind 128 bits, the highest bits falling out; `top` is 2^64 by the base
abbrev pub behind : ℕ → ℕ → Spelled → ℕ → Spelled
behind base top n d = spelled (n.high % top * base + n.low / top) (n.low % top * base + d)

-- A pattern has a letter for each character: '-' stands for itself, 'f' for a hexadecimal digit, 'z' for one of the 32, '7' for one up to 7.
unfoldable pub most_of : ℕ → ℕ
most_of p = cond (eqb p 55) 7 (cond (eqb p 102) 15 31)

-- what is read with a character behind it, by the pattern's letter; none where it is another one
unfoldable pub with_character : Spelled → ℕ → ℕ → Option Spelled
with_character n p b =
    cond (eqb p 45) (cond (eqb b 45) (Some n) None)
    (cond (leb (value_of b) (most_of p))
    (cond (eqb p 102) (Some (behind 16 1152921504606846976 n (value_of b))) (Some (behind 32 576460752303423488 n (value_of b))))
    None)

-- the first other character spoils what comes behind it
abbrev pub character_behind : Option Spelled → ℕ → ℕ → Option Spelled
character_behind None p b = None
character_behind (Some n) p b = with_character n p b

unfoldable pub spelled_from : Option Spelled → List ℕ → List ℕ → Option Spelled
spelled_from n [] text = n
spelled_from n (p ∷ pattern) [] = n
spelled_from n (p ∷ pattern) (b ∷ text) = spelled_from (character_behind n p b) pattern text

-- a text by a pattern of its length
unfoldable pub spelled_by : List ℕ → List ℕ → Option Spelled
spelled_by pattern text = cond (eqb (length text) (length pattern)) (spelled_from (Some (spelled 0 0)) pattern text) None

-- "ffffffff-ffff-ffff-ffff-ffffffffffff"
unfoldable pub uuid_pattern : List ℕ
uuid_pattern = 102 ∷ 102 ∷ 102 ∷ 102 ∷ 102 ∷ 102 ∷ 102 ∷ 102 ∷ 45 ∷ 102 ∷ 102 ∷ 102 ∷ 102 ∷ 45 ∷ 102 ∷ 102 ∷ 102 ∷ 102 ∷ 45 ∷ 102 ∷ 102 ∷ 102 ∷ 102 ∷ 45 ∷ 102 ∷ 102 ∷ 102 ∷ 102 ∷ 102 ∷ 102 ∷ 102 ∷ 102 ∷ 102 ∷ 102 ∷ 102 ∷ 102 ∷ []

-- "7zzzzzzzzzzzzzzzzzzzzzzzzz"
unfoldable pub ulid_pattern : List ℕ
ulid_pattern = 55 ∷ 122 ∷ 122 ∷ 122 ∷ 122 ∷ 122 ∷ 122 ∷ 122 ∷ 122 ∷ 122 ∷ 122 ∷ 122 ∷ 122 ∷ 122 ∷ 122 ∷ 122 ∷ 122 ∷ 122 ∷ 122 ∷ 122 ∷ 122 ∷ 122 ∷ 122 ∷ 122 ∷ 122 ∷ 122 ∷ []

-- the kind and the two words between two places, or the fault
abbrev pub of_spelled : Option Spelled → ℕ → ℕ → ℕ → ℕ → Step
of_spelled (Some n) kind fault start end = got 3 kind n.high n.low 0 0 end
of_spelled None kind fault start end = bad fault (start + 1) end

unfoldable pub patterned : List ℕ → ℕ → ℕ → List ℕ → ℕ → ℕ → Step
patterned pattern kind fault line start end = of_spelled (spelled_by pattern (between line start end)) kind fault start end

-- a number as an identity
abbrev pub numbered : Step → Step
numbered s = cond (eqb s.fault 0) (got 3 2 0 s.a 0 0 s.next) s

-- the kind, the high and the low word: a word of 36 characters is a UUID, one of 26 a ULID, any other a number
unfoldable pub identity_between : List ℕ → ℕ → ℕ → Step
identity_between line start end =
    cond (eqb (end - start) 36) (patterned uuid_pattern 0 not_uuid line start end)
    (cond (eqb (end - start) 26) (patterned ulid_pattern 1 not_ulid line start end) (numbered (number_between line start end)))

-- the next word as an identity
unfoldable pub identity_at : List ℕ → ℕ → Step
identity_at line at = identity_between line (word_start line at) (word_end line at)

-- a UUID with no kind
abbrev pub kindless : Step → Step
kindless s = cond (eqb s.fault 0) (got 2 s.b s.c 0 0 0 s.next) s

unfoldable pub uuid_between : List ℕ → ℕ → ℕ → Step
uuid_between line start end =
    cond (eqb start end) (bad missing (start + 1) end) (kindless (patterned uuid_pattern 0 not_uuid line start end))

-- the next word as a UUID
unfoldable pub uuid_at : List ℕ → ℕ → Step
uuid_at line at = uuid_between line (word_start line at) (word_end line at)
