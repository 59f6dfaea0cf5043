use Rattle.std.proofs.Common.{◌∙◌}
use Rattle.dbtg_unit.specs.Inside.Areas.{asks}
use Rattle.dbtg_schema.specs.Structure.{erase_areas}
use Rattle.dbtg_unit.proofs.Lists.QuestionsJoined.{asked_by_mark}
use Rattle.dbtg_unit.proofs.areas.ask_of_erased.Goals as goal

pub returns : goal.returns
returns c =
    let schema = c.args.schema.now in
    c.ask_of_marked.ensures
    ∙ asked_by_mark (asks c.args.unit.now.modes c.args.question.now) c.erase_areas.result (erase_areas schema c.args.rtype) _ c.is_well_formed.ensures.areas_limit c.erase_areas.ensures.areas c.erase_areas.ensures.known
