use Rattle.std.proofs.Common.{◌≡◌, drop}
use Rattle.std.specs.List.{list_all}
use Rattle.dbtg_unit.specs.Database.Statements.Fits.{member_key_fits}
use Rattle.dbtg_unit.proofs.fits.is_of_keys.Given as goal

abbrev pub invariant-loop-member : goal.invariant-loop-member
invariant-loop-member l = list_all (member_key_fits l.schema l.value) (drop l.member-index l.members) ≡ list_all (member_key_fits l.schema l.value) l.members
