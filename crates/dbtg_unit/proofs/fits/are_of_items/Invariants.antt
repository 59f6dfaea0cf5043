use Rattle.std.proofs.Common.{◌≡◌, drop}
use Rattle.std.specs.Prelude.{map}
use Rattle.dbtg_unit.specs.Database.Statements.Fits.{values_fit}
use Rattle.dbtg_unit.proofs.fits.are_of_items.Given as goal

abbrev pub invariant-loop-i : goal.invariant-loop-i
invariant-loop-i l = values_fit (map (λ i. i.picture) (drop l.i l.items)) (drop l.i l.values) ≡ values_fit (map (λ i. i.picture) l.items) l.values
