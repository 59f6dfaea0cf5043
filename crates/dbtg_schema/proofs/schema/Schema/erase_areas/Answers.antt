use Rattle.dbtg_schema.proofs.Indexes.Erasings.{erase_known}
use Rattle.dbtg_schema.proofs.schema.Schema.erase_areas.Goals as goal

pub returns-in-Some-clause-known : goal.returns-in-Some-clause-known
returns-in-Some-clause-known c = erase_known c.args.self.now c.is_well_formed.ensures c.args.rtype

pub returns-in-None-clause-known : goal.returns-in-None-clause-known
returns-in-None-clause-known c = erase_known c.args.self.now c.is_well_formed.ensures c.args.rtype
