-- The limit of every elected entry, under a collar: document 02, Four.
use mathlib.Core.Path.{◌≡◌, refl}
use Rattle.stop_protection.proofs.Limits.{limit-number}
use Rattle.stop_protection.specs.Collar.{limit_for, limit_under, limit_present, limit_high, limit_low}
use Rattle.stop_protection.specs.declared.StopProtection.{StopProtection}
use Rattle.book.specs.Book.{Book, side_of, stop_of}
use Rattle.book.specs.Calls.{elected_entry}
use Rattle.book.specs.Entries.{elected_words, LimitIs}
use Rattle.book.specs.Evaluation.{Fill}
use Rattle.book.specs.declared.Settings.{Settings}
use Rattle.std.specs.Prelude.{Some}

-- its words are those of the stop moved by the collar, whatever the stop and the collar; an entry of a call is that of a
-- fill
pub entry_limit : (s : Settings) (b : Book) (f : Fill) (p : StopProtection) → s.protection ≡ Some p
    → LimitIs (elected_words (elected_entry s b f)) (limit_for p.collar (side_of f.stop) (stop_of f.stop))
unfolding elected_words elected_entry limit_under limit_present limit_high limit_low
entry_limit s b f p e = rw e (record { present = refl; number = limit-number p.collar (side_of f.stop) f.stop.terms.stop })
