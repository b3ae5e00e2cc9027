-- `text_wide::put_wide` ends: the high word falls.
use Rattle.text_wide.proofs.+put_wide.Given as goal

abbrev pub decreases-put_wide : goal.decreases-put_wide
decreases-put_wide l = l.high
