-- Words beside `Prepared` that private functions and lemmas use.
use Rattle.std.specs.Prelude.{List, [], Option, Some, None}
use Rattle.dbtg_unit.specs.declared.edit.CellEdit.{CellEdit}
use Rattle.dbtg_unit.specs.declared.erased.Erased.{Erased}
use Rattle.dbtg_unit.specs.declared.unit.Cause.{Cause}
use Rattle.dbtg_unit.specs.Hands.EditsOf.{edits_of_erased}
use Rattle.dbtg_unit.specs.Hands.Prepared.{Plan, refusal}

-- refused for the first cause, if there is one; otherwise this plan
abbrev pub unless_refusal : Option Cause → Plan → Plan
unless_refusal (Some cause) plan = refusal cause
unless_refusal None plan = plan

-- the edits by which records go, if any go
abbrev pub erased_edits : Option Erased → List CellEdit
erased_edits None = []
erased_edits (Some e) = edits_of_erased e
