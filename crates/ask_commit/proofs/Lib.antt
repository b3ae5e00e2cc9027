mod AskThenCommit
