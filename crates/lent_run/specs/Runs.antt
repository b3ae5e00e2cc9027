-- What a run by value tells: its answer, and the print path after it.
use Rattle.error.specs.Answer.{Answer, told_answer}
use Rattle.book.specs.declared.PassCounts.{PassCounts}
use Rattle.book.specs.declared.PrintPath.{PrintPath}
use Rattle.book.specs.declared.StopRun.{StopRun}

abbrev pub told_run : StopRun → Answer PassCounts × PrintPath
told_run r = (told_answer r.answer, r.path)
