-- How the code keeps programs that are under way, with how many statements their units have made.
use Rattle.std.specs.Prelude.{ℕ, ◌≡◌, List, length}
use Rattle.dbtg_schema.specs.Lists.{Lists}
use Rattle.dbtg_unit.specs.declared.unit.Entry.{Entry}
use Rattle.dbtg_program.specs.declared.program.Program.{Program}
use Rattle.dbtg_step.specs.Core.Whole.{Making}
use Rattle.dbtg_going.specs.declared.member.Member.{Member}
use Rattle.dbtg_going.specs.Goings.{AreEach, IsAt}
use Rattle.dbtg_going.specs.Turns.{after_turns}

-- the same for each of these members
abbrev pub AreAt : Lists → List Program → List Entry → List Member → Type 0
AreAt schema = AreEach (IsAt schema)

-- the database has a unit for each program, and the members are where its history has led them
pub record IsUnderWay (schema : Lists) (programs : List Program) (m : Making) (members : List Member) : Type 0 where
  pub schema_is : m.schema ≡ schema
  pub units : m.units ≡ length programs
  pub are_at : AreAt schema programs m.history members

-- these turns were taken, and everything goes on with these members
pub record HaveTurned (schema : Lists) (programs : List Program) (old : Making) (turns : List ℕ) (new : Making) (members : List Member) : Type 0 where
  pub under_way : IsUnderWay schema programs new members
  pub database : new ≡ record old { history = after_turns schema old.capacity programs old.history turns }
