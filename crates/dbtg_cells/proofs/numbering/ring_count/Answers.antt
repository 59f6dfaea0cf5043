use Rattle.std.proofs.Common.{sym, ◌∙◌}
use Rattle.dbtg_cells.proofs.PlaceNumbers.{rings_owned}
use Rattle.dbtg_cells.proofs.numbering.ring_count.Goals as goal

pub returns-in-Some-clause-count : goal.returns-in-Some-clause-count
returns-in-Some-clause-count c = sym (rings_owned c.args.schema.now c.args.capacity c.args.set _ (sym c.is_system.ensures ∙ c.if-is_system.false) (sym c.owner_type.ensures ∙ c.in-Some.is))
