-- Forms as theorems, which the checker computes.
use mathlib.Core.Path.{◌≡◌, refl}
use mathlib.Core.List.{[], ◌∷◌}
use Rattle.text_buffer.specs.Digits.{digits, width, decimal_of}
use Rattle.identity_text.specs.Identities.{group_of, uuid_of, ulid_of, identity_of}
use Rattle.text_pieces.specs.Pieces.{side_of, price_of, limit_of, bytes_of, until_zero, holder_of}
use Rattle.text_wide.specs.Wide.{wide_of}
use Rattle.text_letters.specs.Letters.{takes, piece_of}
use Rattle.text_forms.specs.Forms.{form_from, form_of}

-- "print %n at %n" makes "print 7 at 98"
numbers : form_of (112 ∷ 114 ∷ 105 ∷ 110 ∷ 116 ∷ 32 ∷ 37 ∷ 110 ∷ 32 ∷ 97 ∷ 116 ∷ 32 ∷ 37 ∷ 110 ∷ []) (7 ∷ 98 ∷ []) ≡ 112 ∷ 114 ∷ 105 ∷ 110 ∷ 116 ∷ 32 ∷ 55 ∷ 32 ∷ 97 ∷ 116 ∷ 32 ∷ 57 ∷ 56 ∷ []
unfolding form_from piece_of takes identity_of uuid_of group_of ulid_of wide_of side_of price_of limit_of bytes_of until_zero holder_of decimal_of width digits
numbers = refl

-- "%s %i, limit %l, child %u" makes "sell 7, limit 93, child 6f9619ff-8b86-d011-b42d-00c04fc964ff"
elected : form_of (37 ∷ 115 ∷ 32 ∷ 37 ∷ 105 ∷ 44 ∷ 32 ∷ 108 ∷ 105 ∷ 109 ∷ 105 ∷ 116 ∷ 32 ∷ 37 ∷ 108 ∷ 44 ∷ 32 ∷ 99 ∷ 104 ∷ 105 ∷ 108 ∷ 100 ∷ 32 ∷ 37 ∷ 117 ∷ []) (1 ∷ 2 ∷ 0 ∷ 7 ∷ 1 ∷ 0 ∷ 93 ∷ 8040642770064822289 ∷ 12983034126751327487 ∷ []) ≡ 115 ∷ 101 ∷ 108 ∷ 108 ∷ 32 ∷ 55 ∷ 44 ∷ 32 ∷ 108 ∷ 105 ∷ 109 ∷ 105 ∷ 116 ∷ 32 ∷ 57 ∷ 51 ∷ 44 ∷ 32 ∷ 99 ∷ 104 ∷ 105 ∷ 108 ∷ 100 ∷ 32 ∷ 54 ∷ 102 ∷ 57 ∷ 54 ∷ 49 ∷ 57 ∷ 102 ∷ 102 ∷ 45 ∷ 56 ∷ 98 ∷ 56 ∷ 54 ∷ 45 ∷ 100 ∷ 48 ∷ 49 ∷ 49 ∷ 45 ∷ 98 ∷ 52 ∷ 50 ∷ 100 ∷ 45 ∷ 48 ∷ 48 ∷ 99 ∷ 48 ∷ 52 ∷ 102 ∷ 99 ∷ 57 ∷ 54 ∷ 52 ∷ 102 ∷ 102 ∷ []
unfolding form_from piece_of takes identity_of uuid_of group_of ulid_of wide_of side_of price_of limit_of bytes_of until_zero holder_of decimal_of width digits
elected = refl

-- "%o %o %w %h." makes "none 5 18446744073709551616 anna."
each : form_of (37 ∷ 111 ∷ 32 ∷ 37 ∷ 111 ∷ 32 ∷ 37 ∷ 119 ∷ 32 ∷ 37 ∷ 104 ∷ 46 ∷ []) (0 ∷ 5 ∷ 1 ∷ 5 ∷ 1 ∷ 0 ∷ 7020670232008065024 ∷ 0 ∷ 0 ∷ 0 ∷ []) ≡ 110 ∷ 111 ∷ 110 ∷ 101 ∷ 32 ∷ 53 ∷ 32 ∷ 49 ∷ 56 ∷ 52 ∷ 52 ∷ 54 ∷ 55 ∷ 52 ∷ 52 ∷ 48 ∷ 55 ∷ 51 ∷ 55 ∷ 48 ∷ 57 ∷ 53 ∷ 53 ∷ 49 ∷ 54 ∷ 49 ∷ 54 ∷ 32 ∷ 97 ∷ 110 ∷ 110 ∷ 97 ∷ 46 ∷ []
unfolding form_from piece_of takes identity_of uuid_of group_of ulid_of wide_of side_of price_of limit_of bytes_of until_zero holder_of decimal_of width digits
each = refl

-- "%n %n" makes "3 0"
missing : form_of (37 ∷ 110 ∷ 32 ∷ 37 ∷ 110 ∷ []) (3 ∷ []) ≡ 51 ∷ 32 ∷ 48 ∷ []
unfolding form_from piece_of takes identity_of uuid_of group_of ulid_of wide_of side_of price_of limit_of bytes_of until_zero holder_of decimal_of width digits
missing = refl

-- "a%%b%zc%n%" makes "abc4"
other_letters : form_of (97 ∷ 37 ∷ 37 ∷ 98 ∷ 37 ∷ 122 ∷ 99 ∷ 37 ∷ 110 ∷ 37 ∷ []) (4 ∷ []) ≡ 97 ∷ 98 ∷ 99 ∷ 52 ∷ []
unfolding form_from piece_of takes identity_of uuid_of group_of ulid_of wide_of side_of price_of limit_of bytes_of until_zero holder_of decimal_of width digits
other_letters = refl
