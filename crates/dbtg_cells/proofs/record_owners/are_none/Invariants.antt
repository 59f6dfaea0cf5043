use Rattle.std.proofs.Common.{◌≡◌, drop, is_none}
use Rattle.std.specs.List.{list_all}
use Rattle.dbtg_cells.proofs.record_owners.are_none.Given as goal

abbrev pub invariant-loop-owner : goal.invariant-loop-owner
invariant-loop-owner l = list_all is_none (drop l.owner-index l.owners) ≡ list_all is_none l.owners
