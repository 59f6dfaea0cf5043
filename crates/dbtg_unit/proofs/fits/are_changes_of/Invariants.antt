use Rattle.std.proofs.Common.{◌≡◌, drop}
use Rattle.std.specs.List.{list_all}
use Rattle.dbtg_unit.specs.Database.Statements.Fits.{change_fits}
use Rattle.dbtg_unit.proofs.fits.are_changes_of.Given as goal

abbrev pub invariant-loop-change : goal.invariant-loop-change
invariant-loop-change l = list_all (change_fits l.schema l.rtype) (drop l.change-index l.changes) ≡ list_all (change_fits l.schema l.rtype) l.changes
