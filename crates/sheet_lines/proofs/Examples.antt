-- The first rows printed, as theorems, which the checker computes.
use mathlib.Core.Path.{◌≡◌, refl}
use mathlib.Core.List.{[], ◌∷◌}
use Rattle.text_buffer.specs.Digits.{digits, width, decimal_of}
use Rattle.identity_text.specs.Identities.{group_of, uuid_of, ulid_of, identity_of}
use Rattle.text_pieces.specs.Pieces.{side_of, price_of, limit_of, bytes_of, until_zero, holder_of}
use Rattle.text_wide.specs.Wide.{wide_of}
use Rattle.text_letters.specs.Letters.{takes, piece_of}
use Rattle.text_forms.specs.Forms.{form_from}
use Rattle.sheet_lines.specs.Rows.{rows0}
use Rattle.sheet_lines.specs.Lines.{line_of}

-- "  print 98 at 189"
line0 : line_of 0 (98 ∷ 189 ∷ []) ≡ 32 ∷ 32 ∷ 112 ∷ 114 ∷ 105 ∷ 110 ∷ 116 ∷ 32 ∷ 57 ∷ 56 ∷ 32 ∷ 97 ∷ 116 ∷ 32 ∷ 49 ∷ 56 ∷ 57 ∷ 10 ∷ []
unfolding line_of rows0 form_from piece_of takes identity_of uuid_of group_of ulid_of wide_of side_of price_of limit_of bytes_of until_zero holder_of decimal_of width digits
line0 = refl

-- "    moved 98: stop 189 to 280, watermark 371 to 462"
line1 : line_of 1 (2 ∷ 0 ∷ 98 ∷ 189 ∷ 280 ∷ 371 ∷ 462 ∷ []) ≡ 32 ∷ 32 ∷ 32 ∷ 32 ∷ 109 ∷ 111 ∷ 118 ∷ 101 ∷ 100 ∷ 32 ∷ 57 ∷ 56 ∷ 58 ∷ 32 ∷ 115 ∷ 116 ∷ 111 ∷ 112 ∷ 32 ∷ 49 ∷ 56 ∷ 57 ∷ 32 ∷ 116 ∷ 111 ∷ 32 ∷ 50 ∷ 56 ∷ 48 ∷ 44 ∷ 32 ∷ 119 ∷ 97 ∷ 116 ∷ 101 ∷ 114 ∷ 109 ∷ 97 ∷ 114 ∷ 107 ∷ 32 ∷ 51 ∷ 55 ∷ 49 ∷ 32 ∷ 116 ∷ 111 ∷ 32 ∷ 52 ∷ 54 ∷ 50 ∷ 10 ∷ []
unfolding line_of rows0 form_from piece_of takes identity_of uuid_of group_of ulid_of wide_of side_of price_of limit_of bytes_of until_zero holder_of decimal_of width digits
line1 = refl

-- "    elected 98: sell 280, quantity 371, stop 462, limit 553, sequence 644, child 6f9619ff-8b86-d011-b42d-00c04fc964ff"
line2 : line_of 2 (98 ∷ 1 ∷ 2 ∷ 0 ∷ 280 ∷ 371 ∷ 462 ∷ 1 ∷ 0 ∷ 553 ∷ 644 ∷ 8040642770064822289 ∷ 12983034126751327487 ∷ []) ≡ 32 ∷ 32 ∷ 32 ∷ 32 ∷ 101 ∷ 108 ∷ 101 ∷ 99 ∷ 116 ∷ 101 ∷ 100 ∷ 32 ∷ 57 ∷ 56 ∷ 58 ∷ 32 ∷ 115 ∷ 101 ∷ 108 ∷ 108 ∷ 32 ∷ 50 ∷ 56 ∷ 48 ∷ 44 ∷ 32 ∷ 113 ∷ 117 ∷ 97 ∷ 110 ∷ 116 ∷ 105 ∷ 116 ∷ 121 ∷ 32 ∷ 51 ∷ 55 ∷ 49 ∷ 44 ∷ 32 ∷ 115 ∷ 116 ∷ 111 ∷ 112 ∷ 32 ∷ 52 ∷ 54 ∷ 50 ∷ 44 ∷ 32 ∷ 108 ∷ 105 ∷ 109 ∷ 105 ∷ 116 ∷ 32 ∷ 53 ∷ 53 ∷ 51 ∷ 44 ∷ 32 ∷ 115 ∷ 101 ∷ 113 ∷ 117 ∷ 101 ∷ 110 ∷ 99 ∷ 101 ∷ 32 ∷ 54 ∷ 52 ∷ 52 ∷ 44 ∷ 32 ∷ 99 ∷ 104 ∷ 105 ∷ 108 ∷ 100 ∷ 32 ∷ 54 ∷ 102 ∷ 57 ∷ 54 ∷ 49 ∷ 57 ∷ 102 ∷ 102 ∷ 45 ∷ 56 ∷ 98 ∷ 56 ∷ 54 ∷ 45 ∷ 100 ∷ 48 ∷ 49 ∷ 49 ∷ 45 ∷ 98 ∷ 52 ∷ 50 ∷ 100 ∷ 45 ∷ 48 ∷ 48 ∷ 99 ∷ 48 ∷ 52 ∷ 102 ∷ 99 ∷ 57 ∷ 54 ∷ 52 ∷ 102 ∷ 102 ∷ 10 ∷ []
unfolding line_of rows0 form_from piece_of takes identity_of uuid_of group_of ulid_of wide_of side_of price_of limit_of bytes_of until_zero holder_of decimal_of width digits
line2 = refl

-- "98\tprint\t189\t280"
line3 : line_of 3 (98 ∷ 189 ∷ 280 ∷ []) ≡ 57 ∷ 56 ∷ 9 ∷ 112 ∷ 114 ∷ 105 ∷ 110 ∷ 116 ∷ 9 ∷ 49 ∷ 56 ∷ 57 ∷ 9 ∷ 50 ∷ 56 ∷ 48 ∷ 10 ∷ []
unfolding line_of rows0 form_from piece_of takes identity_of uuid_of group_of ulid_of wide_of side_of price_of limit_of bytes_of until_zero holder_of decimal_of width digits
line3 = refl
