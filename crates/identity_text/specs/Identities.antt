-- Identities as text. An identity is two words, high and low: sixteen bytes, the most significant first.
use Rattle.std.specs.Prelude.{ℕ, ◌+◌, ◌*◌, ◌/◌, ◌^◌, cond, List, [], ◌∷◌, ◌++◌, eqb, ltb, get_or}
use Rattle.text_buffer.specs.Digits.{digits, decimal_of}

-- a hexadecimal digit in lower case: "0" to "9", then "a" to "f"
abbrev pub hex_letter : ℕ → ℕ
hex_letter d = cond (ltb d 10) (48 + d) (87 + d)

-- a dash and the last k hexadecimal digits of a word
unfoldable pub group_of : ℕ → ℕ → List ℕ
group_of k n = 45 ∷ digits hex_letter 16 k n

-- a UUID: 32 hexadecimal digits, in groups of 8, 4, 4, 4 and 12
unfoldable pub uuid_of : ℕ → ℕ → List ℕ
uuid_of high low =
    digits hex_letter 16 8 (high / 2 ^ 32) ++ group_of 4 (high / 2 ^ 16) ++ group_of 4 high ++ group_of 4 (low / 2 ^ 48)
    ++ group_of 12 low

-- Crockford's digits of base 32: "0123456789ABCDEFGHJKMNPQRSTVWXYZ"
abbrev pub crockford_letters : List ℕ
crockford_letters =
    48 ∷ 49 ∷ 50 ∷ 51 ∷ 52 ∷ 53 ∷ 54 ∷ 55 ∷ 56 ∷ 57 ∷ 65 ∷ 66 ∷ 67 ∷ 68 ∷ 69 ∷ 70 ∷ 71 ∷ 72 ∷ 74 ∷ 75 ∷ 77 ∷ 78 ∷ 80 ∷ 81 ∷ 82 ∷ 83 ∷ 84 ∷ 86 ∷ 87 ∷ 88 ∷ 89 ∷ 90 ∷ []

abbrev pub crockford : ℕ → ℕ
crockford d = get_or crockford_letters d 0

-- a ULID: 26 digits of base 32, the first of which has three bits
unfoldable pub ulid_of : ℕ → ℕ → List ℕ
ulid_of high low = digits crockford 32 26 (high * 2 ^ 64 + low)

-- an identity of a kind: 0 a UUID, 1 a ULID, any other the low word in decimal
unfoldable pub identity_of : ℕ → ℕ → ℕ → List ℕ
identity_of kind high low = cond (eqb kind 0) (uuid_of high low) (cond (eqb kind 1) (ulid_of high low) (decimal_of low))
