-- The numbers by which causes are printed.
use Rattle.std.specs.Prelude.{ℕ}
use Rattle.dbtg_script.specs.declared.fault.Cause.{Cause}
use Rattle.dbtg_script.specs.declared.fault.Cause.TheVariants as cause

-- the number of a cause
abbrev pub cause_number : Cause → ℕ
cause_number cause.LineNotAllowed = 1
cause_number cause.NoStatementWord = 2
cause_number cause.UnexpectedWord = 3
cause_number cause.UnknownArea = 4
cause_number cause.UnknownRecordType = 5
cause_number cause.UnknownSet = 6
cause_number cause.UnknownItem = 7
cause_number cause.ItemTwice = 8
cause_number cause.OtherKind = 9
cause_number cause.TooGreat = 10
cause_number cause.NotThere = 11
cause_number cause.NotThisWay = 12
cause_number cause.OutOfRange = 13
cause_number cause.TooMuch = 14
