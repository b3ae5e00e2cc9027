-- The words of what a call answers.
use Rattle.std.specs.Prelude.{ℕ, ◌+◌, Bool, cond, List, [], ◌∷◌, ◌++◌, ◌≡◌, replicate, None, Option, Some}
use Rattle.error.specs.Answer.{Answer, refused, accepted}
use Rattle.pricelevel.specs.Identity.{kind_number}
use Rattle.pricelevel.specs.Side.{side_number}
use Rattle.pricelevel.specs.declared.Id.{Id}
use Rattle.pricelevel.specs.declared.Seq.{Seq}
use Rattle.repricing.specs.declared.Adjustment.{Adjustment}
use Rattle.stop_terms.specs.declared.StopTerms.{StopTerms}
use Rattle.book.specs.Sizes.{data_length}
use Rattle.book.specs.Entries.{stop_words}
use Rattle.book.specs.declared.Counts.{Counts}
use Rattle.book.specs.declared.PassCounts.{PassCounts}
use Rattle.book.specs.declared.Totals.{Totals}
use Rattle.book.specs.declared.PrintPath.{PrintPath}
use Rattle.book.specs.declared.PrintSegment.{PrintSegment}
use Rattle.book.specs.declared.StopEntry.{StopEntry}
use Rattle.pricelevel.specs.declared.Price.{Price}

-- what a call returns: 0 where it is accepted, else document 01's number of the refusal
unfoldable pub number : {A : Type 0} → Answer A → ℕ
number (refused k) = k
number (accepted x) = 0

-- the lent words of the answer after the call: those of what it accepted; a refused call leaves them
unfoldable pub answered : {A : Type 0} → (A → List ℕ) → Answer A → List ℕ → List ℕ
answered words (refused k) lent = lent
answered words (accepted x) lent = words x

-- both: what a call returns, and the lent words of the answer after it
abbrev pub Told : {A : Type 0} → (A → List ℕ) → Answer A → List ℕ → ℕ → List ℕ → Type 0
Told words a lent r after = (r ≡ number a) × (after ≡ answered words a lent)

-- the question that an inconsistency answers no, or 0
abbrev pub or_zero : Option ℕ → ℕ
or_zero None = 0
or_zero (Some k) = k

abbrev pub flag : Bool → ℕ
flag b = cond b 1 0

-- the sequence
abbrev pub seq_words : Seq → List ℕ
seq_words seq = seq.0 ∷ []

-- kind, high, low
abbrev pub id_words : Id → List ℕ
id_words id = kind_number id.kind ∷ id.high ∷ id.low ∷ []

-- side, stop, watermark, trail
abbrev pub terms_words : StopTerms → List ℕ
terms_words t = side_number t.side ∷ t.stop.0 ∷ t.watermark.0 ∷ t.trail ∷ []

-- open, prev present, prev, first
abbrev pub path_words : PrintPath → List ℕ
path_words path = flag path.«open» ∷ flag path.has_prev ∷ path.prev.0 ∷ path.first.0 ∷ []

-- a price that may be absent: present (0, 1), and the price or 0
abbrev pub price_words : Option Price → List ℕ
price_words None = replicate 2 0
price_words (Some p) = 1 ∷ p.0 ∷ []

-- a segment, if there is one, as a script entry: printed (0, 1), prev present (0, 1), prev, first, last
abbrev pub segment_words : Option PrintSegment → List ℕ
segment_words None = replicate 5 0
segment_words (Some s) = 1 ∷ (price_words s.prev ++ (s.first.0 ∷ s.last.0 ∷ []))

-- found (0, 1), and the words of the stop or zeros
abbrev pub found_words : Option StopEntry → List ℕ
found_words None = replicate (1 + data_length) 0
found_words (Some t) = 1 ∷ stop_words t

-- of the sells high, low; of the buys high, low
abbrev pub totals_words : Totals → List ℕ
totals_words t = t.sell.high ∷ t.sell.low ∷ t.buy.high ∷ t.buy.low ∷ []

-- how many were listed
abbrev pub listed_words : ℕ → List ℕ
listed_words n = n ∷ []

-- moves, elected
abbrev pub counts_words : Counts → List ℕ
counts_words c = c.moves ∷ c.elected ∷ []

-- moves, elected, used
abbrev pub pass_words : PassCounts → List ℕ
pass_words c = c.moves ∷ c.elected ∷ c.used ∷ []

-- adjusted (0, 1), and the new stop and reference or zeros
abbrev pub preview_words : Option Adjustment → List ℕ
preview_words None = replicate 3 0
preview_words (Some a) = 1 ∷ a.stop.0 ∷ a.reference.0 ∷ []
