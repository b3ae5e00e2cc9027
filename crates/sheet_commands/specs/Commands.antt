-- The command that a line is, by a table: a total definition from bytes.
use Rattle.std.specs.Prelude.{ℕ, ◌+◌, ◌≡◌, cond, List, [], ◌∷◌, eqb}
use Rattle.std.proofs.lemmas.List.Edits.{sets}
use Rattle.text_lines.specs.Lines.{lines_of}
use Rattle.text_words.specs.Words.{word_start, word_end, between, same_text}
use Rattle.sheet_signatures.specs.Signatures.{Arguments, arguments, arguments_from}
use Rattle.sheet_commands.specs.Grammar.{grammar}
use Rattle.sheet_commands.specs.declared.Read.{Read}

-- a first word that is no keyword
abbrev pub no_command : ℕ
no_command = 10

-- A command's number, 0 for a line without words and where the first word is no keyword; the fault, 0 for none, and its column; the values of the arguments, or of
-- those before the fault.
pub record Command : Type 0 where
  pub kind : ℕ
  pub fault : ℕ
  pub column : ℕ
  pub values : List ℕ

abbrev pub command : ℕ → Arguments → Command
command kind a = record { kind = kind; fault = a.fault; column = a.column; values = a.values }

-- the first and the second word of a row of the table
unfoldable pub keyword_of : List ℕ → List ℕ
keyword_of row = between row (word_start row 0) (word_end row 0)

unfoldable pub signature_of : List ℕ → List ℕ
signature_of row = between row (word_start row (word_end row 0)) (word_end row (word_end row 0))

-- the command by rows, the first of which has the number `kind`; the line's first word stands between `start` and `end`
unfoldable pub command_from : List (List ℕ) → ℕ → List ℕ → ℕ → ℕ → Command
command_from [] kind line start end = command 0 (arguments no_command (start + 1) [])
command_from (row ∷ rows) kind line start end =
    cond (same_text (between line start end) (keyword_of row)) (command kind (arguments_from (signature_of row) line end))
    (command_from rows (kind + 1) line start end)

-- the command that a line is
unfoldable pub command_of : List ℕ → Command
command_of line =
    cond (eqb (word_start line 0) (word_end line 0)) (command 0 (arguments 0 0 []))
    (command_from (lines_of grammar) 1 line (word_start line 0) (word_end line 0))

-- a command as it is told: the values stand at the beginning of the lent list, as far as it goes
pub record Told (c : Command) (old new : List ℕ) (r : Read) : Type 0 where
  pub kind : r.kind ≡ c.kind
  pub fault : r.fault ≡ c.fault
  pub column : r.column ≡ c.column
  pub values : new ≡ sets old 0 c.values
