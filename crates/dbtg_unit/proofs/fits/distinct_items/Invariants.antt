use Rattle.std.proofs.Common.{◌≡◌, drop}
use Rattle.dbtg_unit.specs.Database.Statements.Fits.{distinct_items}
use Rattle.dbtg_unit.proofs.fits.distinct_items.Given as goal

abbrev pub invariant-loop-i : goal.invariant-loop-i
invariant-loop-i l = distinct_items (drop l.i l.changes) ≡ distinct_items l.changes
