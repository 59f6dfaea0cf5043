-- The numbers by which causes are printed.
use Rattle.std.specs.Prelude.{ℕ}
use Rattle.dbtg_schema.specs.declared.fault.Cause.{Cause}
use Rattle.dbtg_schema.specs.declared.fault.Cause.TheVariants as cause

-- the number by which a cause is printed
abbrev pub cause_number : Cause → ℕ
cause_number cause.ByteNotAllowed = 1
cause_number cause.TextTooLong = 2
cause_number cause.UnexpectedWord = 3
cause_number cause.NotAName = 4
cause_number cause.NameTaken = 5
cause_number cause.ItemNameTwice = 6
cause_number cause.UnknownArea = 7
cause_number cause.UnknownRecordType = 8
cause_number cause.UnknownItem = 9
cause_number cause.UnknownSet = 10
cause_number cause.NotAPicture = 11
cause_number cause.OwnerIsMember = 12
cause_number cause.MemberTwice = 13
cause_number cause.KeyPicturesDiffer = 14
cause_number cause.KeyMisplaced = 15
cause_number cause.OverLimit = 16
cause_number cause.NoItems = 17
cause_number cause.CalcItemTwice = 18
