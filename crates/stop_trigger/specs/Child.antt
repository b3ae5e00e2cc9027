-- The identity of an elected stop's child order: document 01, The limit and the child.
use Rattle.std.specs.Prelude.{ℕ, List, [], ◌∷◌, ◌++◌}
use Rattle.pricelevel.specs.Identity.{kind_number}
use Rattle.pricelevel.specs.declared.Id.{Id}
use Rattle.pricelevel.specs.declared.IdKind.TheVariants as kind
use Rattle.uuid_v5.specs.Rfc9562.{octets_of, uuid_of, v5}
use Rattle.uuid_v5.specs.declared.Uuid.{Uuid}

-- the 25 bytes `orderbook-rs/stop-trigger`
abbrev pub label : List ℕ
label =
    111 ∷ 114 ∷ 100 ∷ 101 ∷ 114 ∷ 98 ∷ 111 ∷ 111 ∷ 107 ∷ 45 ∷ 114 ∷ 115 ∷ 47 ∷ 115 ∷ 116 ∷ 111 ∷ 112 ∷ 45 ∷ 116 ∷ 114
    ∷ 105 ∷ 103 ∷ 103 ∷ 101 ∷ 114
    ∷ []

-- the name: the label, the kind byte, the sixteen identity bytes
abbrev pub child_name : ℕ → List ℕ → List ℕ
child_name kind bytes = label ++ (kind ∷ bytes)

-- an identity's sixteen bytes: its two words, high first, big-endian
unfoldable pub id_bytes : Id → List ℕ
id_bytes id = octets_of (record { high = id.high; low = id.low })

-- the identity of kind 0 that a UUID is
unfoldable pub id_of : Uuid → Id
id_of u = record { kind = kind.Uuid; high = u.high; low = u.low }

-- UUID version 5 of the name over the 16-byte namespace
unfoldable pub child_id : Uuid → Id → Id
child_id namespace id = id_of (uuid_of (v5 (octets_of namespace) (child_name (kind_number id.kind) (id_bytes id))))
