-- The numbers of statements and causes in a status.
use Rattle.std.specs.Prelude.{ℕ, ◌+◌, ◌*◌, Bool, true, false}
use Rattle.dbtg_unit.specs.declared.statement.Statement.{Statement}
use Rattle.dbtg_unit.specs.declared.statement.Statement.TheVariants.{OpenArea, CloseArea, Find, Get, Store, Insert, Remove, Modify, Delete, Keep, Free}
use Rattle.dbtg_unit.specs.declared.unit.Cause.{Cause}
use Rattle.dbtg_unit.specs.declared.unit.Cause.TheVariants.{AreaNotOpen, ChangedByAnother, DuplicatesNotAllowed, NoSuchCurrent, End, UpdateModeNeeded, NoRoom, NoCurrentOfRunUnit, MandatoryAutomatic, Mandatory, AlreadyMember, Deleted, OtherRecordType, NotMember, PositionLost, NoneSatisfies, AreaAlreadyOpen, UsageConflict, OwnerHasMembers, NotKept}
use Rattle.dbtg_unit.specs.declared.unit.Status.{Status}
use Rattle.dbtg_unit.specs.declared.unit.Status.TheVariants.{Done, Refused}

-- the first two digits of a refusal
abbrev pub statement_code : Statement → ℕ
statement_code (OpenArea a mode) = 1
statement_code (CloseArea a) = 2
statement_code (Find suppress form) = 3
statement_code (Get r) = 4
statement_code (Store r items suppress) = 5
statement_code (Insert s) = 6
statement_code (Remove s) = 7
statement_code (Modify r changes) = 8
statement_code (Delete option) = 9
statement_code Keep = 10
statement_code (Free all) = 11

-- its last two digits
abbrev pub cause_code : Cause → ℕ
cause_code AreaNotOpen = 1
cause_code ChangedByAnother = 3
cause_code DuplicatesNotAllowed = 5
cause_code NoSuchCurrent = 6
cause_code End = 7
cause_code UpdateModeNeeded = 9
cause_code NoRoom = 11
cause_code NoCurrentOfRunUnit = 13
cause_code MandatoryAutomatic = 14
cause_code Mandatory = 15
cause_code AlreadyMember = 16
cause_code Deleted = 17
cause_code OtherRecordType = 20
cause_code NotMember = 22
cause_code PositionLost = 23
cause_code NoneSatisfies = 26
cause_code AreaAlreadyOpen = 28
cause_code UsageConflict = 29
cause_code OwnerHasMembers = 30
cause_code NotKept = 31

-- the four digits of a status as a number; 0 for success
abbrev pub status_code : Statement → Status → ℕ
status_code statement Done = 0
status_code statement (Refused cause) = statement_code statement * 100 + cause_code cause

-- the statement was not refused
abbrev pub is_done : Status → Bool
is_done Done = true
is_done (Refused cause) = false
