use Rattle.std.proofs.Common.{◌∙◌, ap, sym, length}
use Rattle.std.specs.Prelude.{option_map}
use Rattle.std.proofs.lemmas.List.{length-map}
use Rattle.dbtg_step.proofs.Public.{map_at}
use Rattle.dbtg_step.specs.Core.Whole.{state_now}
use Rattle.dbtg_explore.specs.Inside.Parts.{kept_count}
use Rattle.dbtg_explore.specs.Versions.{unversioned_entry, unversioned_unit}
use Rattle.dbtg_explore.proofs.Placed.{none_got, one_got}
use Rattle.dbtg_explore.proofs.key.count_kept.Goals as goal

pub returns-in-Some : goal.returns-in-Some
returns-in-Some c =
    let d = c.args.database.now in
    let s = state_now d in
    let own = c.in-Some.own.now in
    let found = one_got s.units c.units.result.now c.args.unit own c.requires.numbered c.units.ensures.units c.in-Some.ensures.lookup.0 c.in-Some.ensures.lookup.1 in
    let there = map_at (unversioned_unit s.database) s.units c.args.unit ∙ ap (option_map (unversioned_unit s.database)) found in
    ap length c.as_slice.ensures ∙ sym (length-map own.kept (unversioned_entry s.database)) ∙ ap kept_count (sym there)

pub returns-in-None : goal.returns-in-None
returns-in-None c =
    let s = state_now c.args.database.now in
    let none = none_got s.units c.units.result.now c.args.unit c.requires.numbered c.units.ensures.units c.in-None.ensures.lookup.0 in
    ap kept_count (sym (map_at (unversioned_unit s.database) s.units c.args.unit ∙ ap (option_map (unversioned_unit s.database)) none))
