use Rattle.std.proofs.Common.{◌≡◌, ◌∙◌, sym, ap, length, Option, Some, None, slice_get}
use Rattle.std.specs.Prelude.{map, option_map, option_and_then, filter, is_some, ◌==◌}
use Rattle.std.specs.List.{find, list_any, range_with_len}
use Rattle.dbtg_schema.specs.Structure.{area_of}
use Rattle.dbtg_schema.specs.WellFormed.{IsSetType}
use Rattle.dbtg_schema.specs.declared.shape.Member.{Member}
use Rattle.dbtg_schema.specs.declared.shape.SetType.{SetType}
use Rattle.dbtg_unit.specs.Inside.Areas.{asks}
use Rattle.dbtg_unit.proofs.Database.Records.ItemsAfterModify.{any_mapped}
use Rattle.dbtg_unit.proofs.Database.Records.SortKeysCompare.{all_at_entry}
use Rattle.dbtg_unit.proofs.Lists.QuestionsJoined.{asked_by_clauses, none_kept}
use Rattle.dbtg_unit.proofs.areas.ask_of_members.Goals as goal

pub returns-in-Some : goal.returns-in-Some
returns-in-Some c =
    let schema = c.args.schema.now in
    let q = asks c.args.unit.now.modes c.args.question.now in
    let set : SetType = c.in-Some.it.now in
    let there : slice_get schema.sets c.args.set ≡ Some set = sym c.set_type.ensures ∙ ap (option_map (λ s. s.now)) c.in-Some.is in
    let good = all_at_entry (IsSetType schema) schema.sets c.args.set set c.is_well_formed.ensures.sets there in
    c.ask_of_clauses.ensures
    ∙ ap (list_any (λ (m : Member). q (area_of schema m.rtype))) c.as_slice.ensures
    ∙ asked_by_clauses (λ t. q (area_of schema t)) set.members (length schema.types) good.member_types
    ∙ sym (any_mapped q (area_of schema) (filter (λ t. is_some (find (λ m. m.rtype == t) set.members)) (range_with_len 0 (length schema.types))))
    ∙ ap (λ (o : Option SetType). list_any q (map (area_of schema) (filter (λ t. is_some (option_and_then (λ s. find (λ m. m.rtype == t) s.members) o)) (range_with_len 0 (length schema.types))))) (sym there)

pub returns-in-None : goal.returns-in-None
returns-in-None c =
    let schema = c.args.schema.now in
    let q = asks c.args.unit.now.modes c.args.question.now in
    let there : slice_get schema.sets c.args.set ≡ None = sym c.set_type.ensures ∙ ap (option_map (λ s. s.now)) c.in-None.is in
    sym (
    ap (λ (o : Option SetType). list_any q (map (area_of schema) (filter (λ t. is_some (option_and_then (λ s. find (λ m. m.rtype == t) s.members) o)) (range_with_len 0 (length schema.types))))) there
    ∙ ap (λ ts. list_any q (map (area_of schema) ts)) (none_kept (range_with_len 0 (length schema.types)))
    )
