-- The search along a chain ends: the records that are left of it are no more than `left`.
use Rattle.stored_stops.proofs.+find_from.Given as goal

abbrev pub decreases-find_from : goal.decreases-find_from
decreases-find_from l = l.left
