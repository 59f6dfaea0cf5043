use Rattle.std.proofs.Common.{◌∙◌, ◌++◌, ap, sym, append-nil}
use Rattle.std.specs.Prelude.{flat_map, option_map, option_to_list}
use Rattle.std.proofs.lemmas.Result.{on_ok_weaker}
use Rattle.dbtg_states.specs.Inside.SpelledUnits.{unit_numbers}
use Rattle.dbtg_step.proofs.Public.{map_at}
use Rattle.dbtg_step.specs.Core.Whole.{state_now}
use Rattle.dbtg_explore.specs.Versions.{unversioned_unit}
use Rattle.dbtg_explore.proofs.Placed.{none_got, one_got}
use Rattle.dbtg_explore.proofs.Versions.Images.{order_at}
use Rattle.dbtg_explore.proofs.key.spell_unit.Goals as goal

pub spell_own-requires-clause-legal : goal.spell_own-requires-clause-legal
spell_own-requires-clause-legal c = c.requires.legal.legal

pub spell_own-requires-clause-order : goal.spell_own-requires-clause-order
spell_own-requires-clause-order c =
    let d = c.args.database.now in
    order_at d.schema d.capacity (state_now d) c.requires.legal c.args.unit c.in-Some.own.now (one_got (state_now d).units c.units.result.now c.args.unit c.in-Some.own.now c.requires.numbered c.units.ensures.units c.in-Some.ensures.lookup.0 c.in-Some.ensures.lookup.1)

pub returns-in-Some : goal.returns-in-Some
returns-in-Some c =
    let d = c.args.database.now in
    let s = state_now d in
    let own = c.in-Some.own.now in
    let found = one_got s.units c.units.result.now c.args.unit own c.requires.numbered c.units.ensures.units c.in-Some.ensures.lookup.0 c.in-Some.ensures.lookup.1 in
    let there = map_at (unversioned_unit s.database) s.units c.args.unit ∙ ap (option_map (unversioned_unit s.database)) found in
    on_ok_weaker c.spell_own.result
    (λ is. is ∙ ap (λ l. c.args.out.now.items ++ l) (sym (append-nil (unit_numbers (unversioned_unit s.database own))) ∙ ap (λ o. flat_map unit_numbers (option_to_list o)) (sym there))) c.spell_own.ensures

pub returns-in-None : goal.returns-in-None
returns-in-None c =
    let s = state_now c.args.database.now in
    let none = none_got s.units c.units.result.now c.args.unit c.requires.numbered c.units.ensures.units c.in-None.ensures.lookup.0 in
    let there = map_at (unversioned_unit s.database) s.units c.args.unit ∙ ap (option_map (unversioned_unit s.database)) none in
    sym (append-nil c.args.out.now.items) ∙ ap (λ o. c.args.out.now.items ++ flat_map unit_numbers (option_to_list o)) (sym there)
