-- What may cross threads: a unit and its database may, which callers need.
use denote.RattleType.{RattleType}
use denote.Struct.Struct.{Struct}
use denote.Struct.Owning.{shape as owning_shape}
use denote.Struct.Declared.{shape}
use denote.Param.Send.{IsSend, IsSync, Frees, part_keyless, recorded_send, sendable, struct_send, view_send}
use Rattle.std.proofs.Crossing.{crosses}
use Rattle.atomic_table.specs.contracts.shared.Seat as Seat
use Rattle.atomic_table.specs.contracts.shared.Shared as Shared
use Rattle.atomic_table.specs.declared.shared.TableRule.{Ghosts}
use Rattle.atomic_table.specs.contracts.send_lease.SendLease as Lease
use Rattle.atomic_table.proofs.Rights.{right_send}
use Rattle.atomic_table.proofs.Sent.{seat_keyless, shares_keyless}
use Rattle.std.specs.declared.alloc.Allocator as allocator
use Rattle.dbtg_cells.specs.contracts.cell.Cell as Cell
use Rattle.dbtg_schema.specs.contracts.schema.Schema as Schema
use Rattle.dbtg_unit.specs.contracts.held.Held as Held
use Rattle.dbtg_unit.specs.contracts.statement.Statement as Statement
use Rattle.dbtg_unit.specs.contracts.unit.Entry as Entry
use Rattle.dbtg_run.specs.contracts.work.Work as Work
use Rattle.dbtg_run.specs.contracts.unit.RunUnit as RunUnit
use Rattle.dbtg_run.specs.contracts.unit.RunUnit.TheInside as inside
use Rattle.dbtg_run.specs.contracts.database.Database as Database

pub cell_send : IsSend Cell.the_row
cell_send = search (sendable, crosses) depth 60 fits 20000

pub entry_send : IsSend Entry.the_row
entry_send = search (sendable, crosses) depth 60 fits 20000

pub held_send : IsSend Held.the_row
held_send = search (sendable, crosses, cell_send) depth 60 fits 20000

-- as in the library, which does not export it
seat_send : (S V : RattleType) → IsSend S → IsSend (Seat.the_row S V)
seat_send S V s = record { owned = λ d vs. ((λ vss. (tt, ((λ uss. (tt, tt)), tt))), seat_keyless S s V.coded.code d.table_id d.id d.me); leaving = λ k f vs. tt }

field_send : IsSend Work.the_field.row
field_send = search (sendable, crosses, seat_send, cell_send, entry_send, held_send) depth 60 fits 20000

work_send : IsSend Work.the_row
work_send = search (sendable, crosses, field_send, seat_send, cell_send, entry_send, held_send) depth 60 fits 20000

-- a unit's one field is a box of its work
fields_send : IsSend inside.the_row
fields_send = recorded_send inside.the_field.row _ _ inside.the_type.to_one (struct_send (shape inside.the_type) (search (sendable, crosses, work_send, field_send) depth 60 fits 20000, tt))

pub unit_send : IsSend RunUnit.the_row
unit_send = view_send _ _ _ _ _ fields_send

pub schema_sync : IsSync Schema.the_row
schema_sync = search (sendable, crosses) depth 60 fits 20000

pub statement_sync : IsSync Statement.the_row
statement_sync = search (sendable, crosses) depth 60 fits 20000

-- also as in the library
shared_sync : (S V K P : RattleType) (g : Ghosts P.Denot S.Denot V.Denot K.Denot) → IsSend S → IsSync (Shared.the_row S V K P g)
shared_sync S V K P g s = let fields : IsSync (Struct (owning_shape (Shared.the_type S V K P g))) = search sendable depth 20 in
    record { shared = λ d b o ν. (fields.shared (d.words, (d.slots, (tt, tt))) b o ν, shares_keyless S s V.coded.code d.table_id (g.holds d.key) d.words d.slots ν) }

lease_sync : (T A : RattleType) (g : allocator.Ghosts A.Denot) → IsSend A → Frees g g.dealloc_token → IsSync (Lease.the_row T A g)
lease_sync T A g s f = record { shared = λ d b o ν q. part_keyless (Lease.the_row T A g) (right_send T A g f) q d b o }

pub database_sync : IsSync Database.the_row
database_sync = search (sendable, crosses, shared_sync, lease_sync, cell_send, schema_sync) depth 60 fits 20000
