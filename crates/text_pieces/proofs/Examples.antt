-- Pieces as theorems, which the checker computes.
use mathlib.Core.Path.{◌≡◌, refl}
use mathlib.Core.List.{[], ◌∷◌}
use Rattle.text_buffer.specs.Digits.{digits, width, decimal_of}
use Rattle.text_wide.specs.Wide.{wide_of}
use Rattle.text_pieces.specs.Pieces.{side_of, price_of, limit_of, bytes_of, until_zero, holder_of}

-- "none"
no-price : price_of 0 7 ≡ 110 ∷ 111 ∷ 110 ∷ 101 ∷ []
unfolding wide_of side_of price_of limit_of bytes_of until_zero holder_of decimal_of width digits
no-price = refl

-- "100"
a-price : price_of 1 100 ≡ 49 ∷ 48 ∷ 48 ∷ []
unfolding wide_of side_of price_of limit_of bytes_of until_zero holder_of decimal_of width digits
a-price = refl

-- "none"
no_limit : limit_of 0 1 1 ≡ 110 ∷ 111 ∷ 110 ∷ 101 ∷ []
unfolding wide_of side_of price_of limit_of bytes_of until_zero holder_of decimal_of width digits
no_limit = refl

-- "93"
a_limit : limit_of 1 0 93 ≡ 57 ∷ 51 ∷ []
unfolding wide_of side_of price_of limit_of bytes_of until_zero holder_of decimal_of width digits
a_limit = refl

-- "sell"
sells : side_of 1 ≡ 115 ∷ 101 ∷ 108 ∷ 108 ∷ []
unfolding wide_of side_of price_of limit_of bytes_of until_zero holder_of decimal_of width digits
sells = refl

-- "buy"
buys : side_of 0 ≡ 98 ∷ 117 ∷ 121 ∷ []
unfolding wide_of side_of price_of limit_of bytes_of until_zero holder_of decimal_of width digits
buys = refl

-- "anna"
holder : holder_of 7020670232008065024 0 0 0 ≡ 97 ∷ 110 ∷ 110 ∷ 97 ∷ []
unfolding wide_of side_of price_of limit_of bytes_of until_zero holder_of decimal_of width digits
holder = refl

-- "anna.lind"
holder_of_two_words : holder_of 7020670232786921838 7205759403792793600 0 0 ≡ 97 ∷ 110 ∷ 110 ∷ 97 ∷ 46 ∷ 108 ∷ 105 ∷ 110 ∷ 100 ∷ []
unfolding wide_of side_of price_of limit_of bytes_of until_zero holder_of decimal_of width digits
holder_of_two_words = refl

-- "abcdefghijklmnopqrstuvwxyz012345"
holder_of_32 : holder_of 7017280452245743464 7596001834950356848 8174723217654970232 8753361813601727541 ≡ 97 ∷ 98 ∷ 99 ∷ 100 ∷ 101 ∷ 102 ∷ 103 ∷ 104 ∷ 105 ∷ 106 ∷ 107 ∷ 108 ∷ 109 ∷ 110 ∷ 111 ∷ 112 ∷ 113 ∷ 114 ∷ 115 ∷ 116 ∷ 117 ∷ 118 ∷ 119 ∷ 120 ∷ 121 ∷ 122 ∷ 48 ∷ 49 ∷ 50 ∷ 51 ∷ 52 ∷ 53 ∷ []
unfolding wide_of side_of price_of limit_of bytes_of until_zero holder_of decimal_of width digits
holder_of_32 = refl
