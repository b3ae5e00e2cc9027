-- The number of an identity's kind, and when two identities are equal.
use Rattle.std.specs.Prelude.{ℕ, Bool, ◌&&◌, eqb}
use Rattle.pricelevel.specs.declared.Id.{Id}
use Rattle.pricelevel.specs.declared.IdKind.{IdKind}
use Rattle.pricelevel.specs.declared.IdKind.TheVariants.{Uuid, Ulid, Sequential}

-- document 01, head: an identity is a kind (0 UUID, 1 ULID, 2 sequential) and sixteen bytes
abbrev pub kind_number : IdKind → ℕ
kind_number Uuid = 0
kind_number Ulid = 1
kind_number Sequential = 2

-- document 01, head: identities are equal when kind and both words are
unfoldable pub same_id : Id → Id → Bool
same_id a b = eqb (kind_number a.kind) (kind_number b.kind) && (eqb a.high b.high && eqb a.low b.low)
