-- Laws of identities: `same_id` decides their equality.
use mathlib.Core.Path.{◌≡◌, refl}
use mathlib.Core.Bool.{true}
use native.Mathlib.Omega.{arith}
use lib.Dec.{eqb}
use borrow.Author.Tests.{eqb-true, eq-eqb}
use Rattle.pricelevel.specs.declared.Id.{Id}
use Rattle.pricelevel.specs.declared.IdKind.{IdKind}
use Rattle.pricelevel.specs.declared.IdKind.TheVariants.{Uuid, Ulid, Sequential}
use Rattle.pricelevel.specs.Identity.{kind_number, same_id}
use Rattle.pricelevel.proofs.Bools.{and_parts}

pub kind_number_injective : (a b : IdKind) → kind_number a ≡ kind_number b → a ≡ b
kind_number_injective Uuid Uuid e = refl
kind_number_injective Uuid Ulid e = absurd (omega arith)
kind_number_injective Uuid Sequential e = absurd (omega arith)
kind_number_injective Ulid Uuid e = absurd (omega arith)
kind_number_injective Ulid Ulid e = refl
kind_number_injective Ulid Sequential e = absurd (omega arith)
kind_number_injective Sequential Uuid e = absurd (omega arith)
kind_number_injective Sequential Ulid e = absurd (omega arith)
kind_number_injective Sequential Sequential e = refl

pub same_id_equal : (a b : Id) → same_id a b ≡ true → a ≡ b
unfolding same_id
same_id_equal a b e =
    let s = and_parts (eqb (kind_number a.kind) (kind_number b.kind)) _ e in
    let w = and_parts (eqb a.high b.high) _ s.1 in
    λ i. record {
      kind = kind_number_injective a.kind b.kind (eqb-true _ _ s.0) i;
      high = eqb-true a.high b.high w.0 i;
      low = eqb-true a.low b.low w.1 i;
    }

pub same_id_refl : (a : Id) → same_id a a ≡ true
unfolding same_id
same_id_refl a = rw (eq-eqb (kind_number a.kind) _ refl, eq-eqb a.high _ refl, eq-eqb a.low _ refl)
