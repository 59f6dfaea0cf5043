use Rattle.std.proofs.Common.{◌∙◌, ◌++◌, ap}
use Rattle.std.specs.List.{flat_map, range_with_len}
use Rattle.dbtg_states.specs.Named.{stored, unit_facts}
use Rattle.dbtg_states.proofs.Naming.{all_facts}
use Rattle.dbtg_states.proofs.facts.named.Goals as goal

pub returns : goal.returns
returns c =
    let units = range_with_len 1 c.args.units in
    let keys = c.as_slice-stored.result.now in
    let named_by = c.as_slice-stored.ensures.value ∙ c.in_ok-keys.ensures ∙ ap (stored units) c.as_slice-history.ensures in
    let none = c.of-facts.ensures ∙ c.new.ensures.items in
    let of_units = c.in_ok-push_each_unit.ensures ∙ (λ i. none i ++ flat_map (unit_facts keys) (c.as_slice.ensures i)) in
    all_facts units c.args.run.now keys c.push_each_unit.new.facts c.push_usage.new.facts c.push_image.new.facts named_by of_units c.in_ok-push_usage.ensures c.in_ok-push_image.ensures
