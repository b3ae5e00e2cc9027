-- The argument that a letter of a signature asks for.
use Rattle.std.specs.Prelude.{ℕ, cond, List, eqb}
use Rattle.text_numbers.specs.Numbers.{number_at, count_at}
use Rattle.text_numbers.specs.Steps.{got}
use Rattle.text_numbers.specs.declared.Step.{Step}
use Rattle.text_identities.specs.Identities.{identity_at, uuid_at}
use Rattle.text_holders.specs.Holders.{holder_at, holder_or_none}
use Rattle.sheet_words.specs.Words.{optional_at, either_at, child_at, on_text, off_text, sell_text, buy_text}

abbrev pub not_on_off : ℕ
not_on_off = 6

abbrev pub not_side : ℕ
not_side = 7

-- the letters 'n', 'o', 'i', 'u', 'b', 's', 'h', 'H', 'p', 'c'; any other asks for nothing
unfoldable pub argument_at : ℕ → List ℕ → ℕ → Step
argument_at letter line at =
    cond (eqb letter 110) (number_at line at)
    (cond (eqb letter 111) (optional_at line at)
    (cond (eqb letter 105) (identity_at line at)
    (cond (eqb letter 117) (uuid_at line at)
    (cond (eqb letter 98) (either_at on_text off_text not_on_off line at)
    (cond (eqb letter 115) (either_at sell_text buy_text not_side line at)
    (cond (eqb letter 104) (holder_at line at)
    (cond (eqb letter 72) (holder_or_none line at)
    (cond (eqb letter 112) (count_at line at)
    (cond (eqb letter 99) (child_at line at) (got 0 0 0 0 0 0 at))))))))))
