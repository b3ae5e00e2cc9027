-- `text_lines::next_line` meets its contract: the line ends at the first line feed.
use Rattle.text_lines.proofs.Lines.{line_feed, line_last}
use Rattle.text_lines.proofs.next_line.Goals as goal

pub returns-in-Some-clause-text_value : goal.returns-in-Some-clause-text_value
returns-in-Some-clause-text_value c = line_feed _ _ _ c.requires c.in-Some.ensures

pub returns-in-None-clause-text_value : goal.returns-in-None-clause-text_value
returns-in-None-clause-text_value c = line_last _ _ c.requires c.in-None.ensures
