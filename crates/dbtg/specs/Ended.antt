-- The exit status of the program.
use Rattle.std.specs.Prelude.{ℕ}
use Rattle.dbtg.specs.declared.ended.Status.{Status}
use Rattle.dbtg.specs.declared.ended.Status.TheVariants.{Done, Failed, Memory, ReaderGone, Refused, WrongWords}

abbrev pub code : Status → ℕ
code Done = 0
code Refused = 1
code WrongWords = 2
code Memory = 3
code Failed = 4
code ReaderGone = 141
