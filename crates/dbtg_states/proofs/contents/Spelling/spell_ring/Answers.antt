use Rattle.std.proofs.Common.{◌≡◌, ◌∙◌, ◌++◌, List, Option, ap, map, subst, sym, true}
use Rattle.std.specs.Prelude.{flat_map}
use Rattle.std.specs.List.{list_all}
use Rattle.std.proofs.lemmas.Result.{on_ok_weaker}
use Rattle.dbtg_cells.specs.declared.key.DbKey.{DbKey}
use Rattle.dbtg_cells.specs.declared.key.Value.{Value}
use Rattle.dbtg_unit.specs.Database.State.Base.{is_live, sort_key}
use Rattle.dbtg_unit.specs.Database.State.Cells.{cell}
use Rattle.dbtg_step.specs.Core.Whole.{state_now}
use Rattle.dbtg_states.proofs.States.ShownParts.{member_numbers}
use Rattle.dbtg_states.proofs.States.Spelled.{ring_live, ring_name, ring_spelled}
use Rattle.dbtg_states.proofs.contents.Spelling.spell_ring.Goals as goal

pub returns-in_default : goal.returns-in_default
returns-in_default c =
    let d = c.args.database.now in
    let r = ring_name d.schema d.capacity (state_now d).database c.args.name.now c.args.ring.now.occurrence c.requires.shows in
    absurd (c.in_default.not-Ring r.0 r.1 r.2)

pub spell_members-requires-clause-live : goal.spell_members-requires-clause-live
spell_members-requires-clause-live c =
    let d = c.args.database.now in
    let db = (state_now d).database in
    subst (λ (ks : List DbKey). list_all (is_live db) ks ≡ true) (sym (c.as_slice.ensures.value ∙ c.in_ok-keys.ensures))
    (ring_live d.schema d.capacity db c.requires.legal c.in-Ring.set c.in-Ring.field-1 c.args.ring.now.occurrence (c.requires.shows ∙ ap (cell d.schema d.capacity db) c.in-Ring.is))

pub returns : goal.returns
returns c =
    let d = c.args.database.now in
    let db = (state_now d).database in
    let set = c.in-Ring.set in
    let one = c.spell.new.out.items in
    let keys = c.as_slice.ensures.value ∙ c.in_ok-keys.ensures in
    on_ok_weaker c.spell_members.result
    (λ spelled. ring_spelled d.schema d.capacity db c.requires.legal set c.in-Ring.field-1 c.args.ring.now.occurrence c.in-Some.owner c.args.out.now.items one c.spell_members.new.out.items
    (c.requires.shows ∙ ap (cell d.schema d.capacity db) c.in-Ring.is) (sym c.in-Some.is ∙ c.owner.ensures) c.in_ok-spell.ensures
    (spelled ∙ (λ i. one ++ flat_map member_numbers (map {B = DbKey × Option Value} (λ k. (k, sort_key (sym c.requires.schema i) db set k)) (keys i)))))
    c.spell_members.ensures
