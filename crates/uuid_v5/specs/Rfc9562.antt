-- UUIDs of version 5 as RFC 9562 defines them, over lists of octets.
use Rattle.std.specs.Prelude.{ℕ, ◌+◌, ◌*◌, ◌%◌, ◌^◌, List, [], ◌∷◌, ◌++◌, length, get_or, set, take, drop}
use Rattle.fips180.specs.Fips.{big_endian, digest}
use Rattle.uuid_v5.specs.declared.Uuid.{Uuid}

-- §4: the 16 octets of a UUID, the most significant first
unfoldable pub octets_of : Uuid → List ℕ
octets_of u = big_endian 8 u.high ++ big_endian 8 u.low

-- §4: the number that octets make, the most significant first
unfoldable pub number : List ℕ → ℕ
number [] = 0
number (b ∷ o) = b * 2 ^ (8 * length o) + number o

-- §4: the UUID of 16 octets
unfoldable pub uuid_of : List ℕ → Uuid
uuid_of o = record { high = number (take 8 o); low = number (drop 8 o) }

-- §4.2: the version, 0b0101, in the four high bits of octet 6
unfoldable pub with_version : List ℕ → List ℕ
with_version o = set o 6 (0x5 * 16 + get_or o 6 0 % 16)

-- §4.1: the variant, 0b10, in the two high bits of octet 8
unfoldable pub with_variant : List ℕ → List ℕ
with_variant o = set o 8 (0x2 * 64 + get_or o 8 0 % 64)

-- §5.5: the octets that a SHA-1 digest gives, its first 16 with the version and the variant put in
unfoldable pub stamped : List ℕ → List ℕ
stamped o = with_variant (with_version (take 16 o))

-- §5.5: the octets of the UUID of a name in a namespace, from the namespace's octets and the name's
unfoldable pub v5 : List ℕ → List ℕ → List ℕ
v5 namespace name = stamped (digest (namespace ++ name))
