use Rattle.std.proofs.Common.{◌∙◌, sym, ap}
use Rattle.std.specs.Prelude.{filter, option_map}
use Rattle.dbtg_schema.specs.Lookups.{final}
use Rattle.dbtg_unit.specs.Inside.InHand.{key_of}
use Rattle.dbtg_plan.specs.Inside.Finding.{is_below, keys_of_type}
use Rattle.dbtg_plan.proofs.Find.NumberedKeys.{last_of_all}
use Rattle.dbtg_plan.proofs.finding.numbered.last_key.Goals as goal

pub returns-in-None : goal.returns-in-None
returns-in-None c =
    let t = c.args.rtype in
    let numbers = c.args.extent.now.numbers in
    c.key_of.ensures ∙ ap (option_map (key_of numbers t)) c.last_live.ensures ∙ last_of_all t numbers
    ∙ ap (λ bound. final (filter (is_below bound) (keys_of_type t numbers))) (sym c.in-None.is)
