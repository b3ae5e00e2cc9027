-- The pieces of printed lines, each by a letter:
--
--   n (110)  a number in decimal
--   s (115)  a side
--   u (117)  a UUID
--   o (111)  a price that may be absent
--   w (119)  a number of two words
--   i (105)  an identity by its kind
--   l (108)  a limit that may be absent
--   h (104)  a holder's name
--
-- Any other letter stands for nothing and takes no value. A value that is missing is 0.
use Rattle.std.specs.Prelude.{ℕ, cond, List, [], eqb, get_or}
use Rattle.text_buffer.specs.Digits.{decimal_of}
use Rattle.identity_text.specs.Identities.{uuid_of, identity_of}
use Rattle.text_pieces.specs.Pieces.{side_of, price_of, limit_of, holder_of}
use Rattle.text_wide.specs.Wide.{wide_of}

-- how many values a letter takes: n, s, u, o, w, i, l, h
unfoldable pub takes : ℕ → ℕ
takes letter =
    cond (eqb letter 110) 1
    (cond (eqb letter 115) 1
    (cond (eqb letter 117) 2
    (cond (eqb letter 111) 2
    (cond (eqb letter 119) 2
    (cond (eqb letter 105) 3
    (cond (eqb letter 108) 3
    (cond (eqb letter 104) 4 0)))))))

-- the piece of a letter: n, s, u, o, w, i, l, h
unfoldable pub piece_of : ℕ → List ℕ → List ℕ
piece_of letter values =
    cond (eqb letter 110) (decimal_of (get_or values 0 0))
    (cond (eqb letter 115) (side_of (get_or values 0 0))
    (cond (eqb letter 117) (uuid_of (get_or values 0 0) (get_or values 1 0))
    (cond (eqb letter 111) (price_of (get_or values 0 0) (get_or values 1 0))
    (cond (eqb letter 119) (wide_of (get_or values 0 0) (get_or values 1 0))
    (cond (eqb letter 105) (identity_of (get_or values 0 0) (get_or values 1 0) (get_or values 2 0))
    (cond (eqb letter 108) (limit_of (get_or values 0 0) (get_or values 1 0) (get_or values 2 0))
    (cond (eqb letter 104) (holder_of (get_or values 0 0) (get_or values 1 0) (get_or values 2 0) (get_or values 3 0)) [])))))))
