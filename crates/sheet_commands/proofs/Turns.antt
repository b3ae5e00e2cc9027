-- One turn of the loop over the rows of a table, and its two ends.
use Prim.Native.Nat.{ℕ, ◌+◌, ◌≤◌}
use mathlib.Core.Path.{◌≡◌}
use mathlib.Core.Bool.{true, false}
use mathlib.Core.List.{List, [], ◌∷◌}
use lib.ListN.{length, drop, drop_of_length-le}
use Rattle.text_lines.specs.Lines.{lines_of}
use Rattle.text_words.specs.Words.{between, same_text}
use Rattle.sheet_signatures.specs.Signatures.{arguments, arguments_from}
use Rattle.sheet_commands.specs.Commands.{command, command_from, keyword_of, signature_of, no_command}

module _ (lines rest : List (List ℕ)) (row line : List ℕ) (kind start end : ℕ) (cut : lines ≡ row ∷ rest) where
  pub row_found : same_text (between line start end) (keyword_of row) ≡ true
      → command_from lines kind line start end ≡ command kind (arguments_from (signature_of row) line end)
  unfolding command_from
  row_found h = rw cut (simp h)

  pub row-passed : same_text (between line start end) (keyword_of row) ≡ false
      → command_from lines kind line start end ≡ command_from rest (kind + 1) line start end
  unfolding command_from
  row-passed h = rw cut (simp h)

pub rows_end : (table line : List ℕ) (at kind start end : ℕ) → length table ≤ at
    → command_from (lines_of (drop at table)) kind line start end ≡ command 0 (arguments no_command (start + 1) [])
unfolding command_from lines_of
rows_end table line at kind start end h = rw (drop_of_length-le table {i = at} h)
