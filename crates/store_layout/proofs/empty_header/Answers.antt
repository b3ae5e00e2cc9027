-- `store_layout::empty_header` meets its contract.
use mathlib.Core.Path.{sym}
use Rattle.store_words.proofs.EmptyWords.{header_empty}
use Rattle.store_layout.proofs.empty_header.Goals as goal

pub returns : goal.returns
returns c = sym (header_empty _ _ c.requires)
