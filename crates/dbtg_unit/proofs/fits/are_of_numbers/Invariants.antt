use Rattle.std.proofs.Common.{◌≡◌, drop}
use Rattle.dbtg_unit.specs.Database.Statements.Fits.{values_fit, pictures_at}
use Rattle.dbtg_unit.proofs.fits.are_of_numbers.Given as goal

abbrev pub invariant-loop-i : goal.invariant-loop-i
invariant-loop-i l = values_fit (pictures_at l.schema l.rtype (drop l.i l.items)) (drop l.i l.values) ≡ values_fit (pictures_at l.schema l.rtype l.items) l.values
