use Rattle.std.proofs.Common.{◌∙◌}
use Rattle.dbtg_page.proofs.CoreShown.{same_count, same_schema}
use Rattle.dbtg_page.proofs.page.push_move.Goals as goal

pub push_ticket-requires-clause-schema : goal.push_ticket-requires-clause-schema
push_ticket-requires-clause-schema c = same_schema c.args.core.now _ c.args.one c.in_ok-event.ensures.core ∙ c.requires.schema

pub push_ticket-requires-clause-units : goal.push_ticket-requires-clause-units
push_ticket-requires-clause-units c = same_count c.args.core.now _ c.args.one c.in_ok-event.ensures.core ∙ c.requires.units
