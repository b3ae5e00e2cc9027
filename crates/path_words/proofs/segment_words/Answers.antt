-- `path_words::segment_words` meets its contract.
use Rattle.path_words.proofs.segment_words.Goals as goal

pub returns-in-None : goal.returns-in-None
returns-in-None c = rw c.in-None.is

pub returns-in-None-prev : goal.returns-in-None-prev
returns-in-None-prev c = rw (c.in-Some.is, c.in-None-prev.is)

pub returns-in-Some-prev : goal.returns-in-Some-prev
returns-in-Some-prev c = rw (c.in-Some.is, c.in-Some-prev.is)
