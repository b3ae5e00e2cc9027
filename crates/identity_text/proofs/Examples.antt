-- Identities as theorems, which the checker computes.
use mathlib.Core.Path.{◌≡◌, refl}
use mathlib.Core.List.{[], ◌∷◌}
use Rattle.text_buffer.specs.Digits.{digits, width, decimal_of}
use Rattle.identity_text.specs.Identities.{group_of, uuid_of, ulid_of, identity_of}

-- "6f9619ff-8b86-d011-b42d-00c04fc964ff"
a_uuid : identity_of 0 8040642770064822289 12983034126751327487 ≡ 54 ∷ 102 ∷ 57 ∷ 54 ∷ 49 ∷ 57 ∷ 102 ∷ 102 ∷ 45 ∷ 56 ∷ 98 ∷ 56 ∷ 54 ∷ 45 ∷ 100 ∷ 48 ∷ 49 ∷ 49 ∷ 45 ∷ 98 ∷ 52 ∷ 50 ∷ 100 ∷ 45 ∷ 48 ∷ 48 ∷ 99 ∷ 48 ∷ 52 ∷ 102 ∷ 99 ∷ 57 ∷ 54 ∷ 52 ∷ 102 ∷ 102 ∷ []
unfolding identity_of uuid_of group_of ulid_of decimal_of width digits
a_uuid = refl

-- "01ARZ3NDEKTSV4RRFFQ69G5FAV"
a_ulid : identity_of 1 96332863914628726 5503943799937875291 ≡ 48 ∷ 49 ∷ 65 ∷ 82 ∷ 90 ∷ 51 ∷ 78 ∷ 68 ∷ 69 ∷ 75 ∷ 84 ∷ 83 ∷ 86 ∷ 52 ∷ 82 ∷ 82 ∷ 70 ∷ 70 ∷ 81 ∷ 54 ∷ 57 ∷ 71 ∷ 53 ∷ 70 ∷ 65 ∷ 86 ∷ []
unfolding identity_of uuid_of group_of ulid_of decimal_of width digits
a_ulid = refl

-- "7ZZZZZZZZZZZZZZZZZZZZZZZZZ"
the_last_ulid : identity_of 1 18446744073709551615 18446744073709551615 ≡ 55 ∷ 90 ∷ 90 ∷ 90 ∷ 90 ∷ 90 ∷ 90 ∷ 90 ∷ 90 ∷ 90 ∷ 90 ∷ 90 ∷ 90 ∷ 90 ∷ 90 ∷ 90 ∷ 90 ∷ 90 ∷ 90 ∷ 90 ∷ 90 ∷ 90 ∷ 90 ∷ 90 ∷ 90 ∷ 90 ∷ []
unfolding identity_of uuid_of group_of ulid_of decimal_of width digits
the_last_ulid = refl

-- "1007"
a-number : identity_of 2 5 1007 ≡ 49 ∷ 48 ∷ 48 ∷ 55 ∷ []
unfolding identity_of uuid_of group_of ulid_of decimal_of width digits
a-number = refl
