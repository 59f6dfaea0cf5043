use Rattle.std.proofs.Common.{◌≡◌, ◌∙◌, ◌++◌, ◌∷◌, [], List, ap, subst, sym, if◌then◌else◌}
use Rattle.std.specs.Prelude.{flat_map, option_to_list, unwrap_or}
use Rattle.std.proofs.lemmas.Result.{on_ok_weaker}
use Rattle.dbtg_unit.specs.Database.Laws.Replay.{IsHistoryOf}
use Rattle.dbtg_unit.specs.Database.Laws.StaysLegal.{IsLegalState}
use Rattle.dbtg_step.proofs.Public.{map_at}
use Rattle.dbtg_step.specs.Machine.SequentialDatabase.{unit_at}
use Rattle.dbtg_step.specs.Core.Whole.{Making, state_now}
use Rattle.dbtg_going.specs.declared.member.Going.{Going}
use Rattle.dbtg_going.specs.Goings.{comes_of}
use Rattle.dbtg_states.specs.Inside.SpelledUnits.{unit_numbers}
use Rattle.dbtg_explore.specs.Inside.Keys.{due_numbers, items_read, items_read_by}
use Rattle.dbtg_explore.specs.Inside.Parts.{kept_count}
use Rattle.dbtg_explore.specs.Orders.{can_go_on}
use Rattle.dbtg_explore.specs.Versions.{unversioned}
use Rattle.dbtg_explore.proofs.Placed.{legal_now, one_by_one, part_there}
use Rattle.dbtg_explore.proofs.meeting.Meeting.spell_unit_part.Goals as goal

pub spell_unit-requires-clause-legal : goal.spell_unit-requires-clause-legal
spell_unit-requires-clause-legal c =
    let of = subst (λ (d : Making). IsHistoryOf d.schema d.capacity d.units d.history) c.database-database.ensures c.history-history.ensures.of in
    let legal = legal_now c.args.self.now c.args.walk.now.database.making c.args.walk.now.goings.items c.requires.place c.requires.meeting of in
    subst (λ (d : Making). IsLegalState d.schema d.capacity (state_now d)) (sym c.database-database.ensures) legal

pub count_kept-requires-clause-legal : goal.count_kept-requires-clause-legal
count_kept-requires-clause-legal c =
    let of = subst (λ (d : Making). IsHistoryOf d.schema d.capacity d.units d.history) c.database-database.ensures c.history-history.ensures.of in
    let legal = legal_now c.args.self.now c.args.walk.now.database.making c.args.walk.now.goings.items c.requires.place c.requires.meeting of in
    subst (λ (d : Making). IsLegalState d.schema d.capacity (state_now d)) (sym c.database-database.ensures) legal

pub returns : goal.returns
returns c =
    let u = c.args.unit in
    let m = c.args.self.now in
    let there = c.database-database.result.now in
    let making = c.args.walk.now.database.making in
    let goings = c.args.walk.now.goings.items in
    let program = λ (gs : List Going). flat_map (λ g. due_numbers c.items_read_by-read.result.now (comes_of g)) (option_to_list (unit_at gs u)) in
    let read : c.items_read_by-read.result.now ≡ items_read_by m.programs u
    = c.items_read_by-read.ensures ∙ ap (λ rs. unwrap_or (unit_at rs u) []) (c.as_slice.ensures.value ∙ c.requires.knows) ∙ ap (λ o. unwrap_or o []) (map_at items_read m.programs u) in
    let own = λ (d : Making). flat_map unit_numbers (option_to_list (unit_at (unversioned (state_now d)).units u)) in
    let before = c.args.out.now.items in
    let kept : c.count_kept.result ≡ kept_count (unit_at (unversioned (state_now making)).units u) = c.count_kept.ensures ∙ ap (λ (d : Making). kept_count (unit_at (unversioned (state_now d)).units u)) c.database-database.ensures in
    let goes : c.number_of.result ≡ (if can_go_on m making.history u then 1 else 0) = c.number_of.ensures ∙ ap (λ b. if b then 1 else 0) c.can_go_on.ensures in
    on_ok_weaker c.spell_unit.result
    (λ is. is
    ∙ ap (λ l. l ++ own there) c.in_ok-spell_program.ensures
    ∙ ap (λ l. (l ++ program c.as_slice-2.result.now) ++ own there) (c.in_ok-push-2.ensures.items ∙ ap (λ l. l ++ c.number_of.result ∷ []) c.in_ok-push.ensures.items)
    ∙ one_by_one m making goings c.requires.place before c.count_kept.result c.number_of.result (program c.as_slice-2.result.now) (own there)
    ∙ (λ i. before ++ (kept i ∷ goes i ∷ (program (c.as_slice-2.ensures.value i) ++ own (c.database-database.ensures i))))
    ∙ ap (λ l. before ++ l) (part_there m making goings c.requires.place u c.items_read_by-read.result.now read))
    c.spell_unit.ensures
