use Rattle.std.proofs.Common.{◌≡◌, ◌∙◌, ◌+◌, ◌++◌, List, Some, ap, arith, length, refl, slice_get}
use Rattle.std.proofs.lemmas.Option.{slice_get_read}
use Rattle.dbtg_cells.specs.declared.key.Value.{Value}
use Rattle.dbtg_unit.specs.Database.State.Base.{is_live, key_item, sort_key}
use Rattle.dbtg_unit.proofs.Public.{all_at, element_at}
use Rattle.dbtg_step.specs.Core.Whole.{state_now}
use Rattle.dbtg_states.specs.Spelling.{option_numbers, value_numbers}
use Rattle.dbtg_states.proofs.States.Spelled.{member_next}
use Rattle.dbtg_states.proofs.contents.Spelling.spell_members.Goals as goal

pub items_of-requires-clause-live : goal.items_of-requires-clause-live
items_of-requires-clause-live c =
    let keys = c.args.keys.now in
    let key = c.key-item.result in
    let at : slice_get keys c.loop-key.key-index ≡ Some key = slice_get_read keys (length keys) c.loop-key.key-index key refl (omega (arith, c.loop-key-test.true)) c.key-item.is in
    all_at (is_live (state_now c.args.database.now).database) key keys c.requires.live (element_at keys c.loop-key.key-index key at)

pub loop-key-preserved : goal.loop-key-preserved
loop-key-preserved c =
    let schema = c.args.self.now.schema.now in
    let keys = c.args.keys.now in
    let key = c.key-item.result in
    let at : slice_get keys c.loop-key.key-index ≡ Some key = slice_get_read keys (length keys) c.loop-key.key-index key refl (omega (arith, c.loop-key-test.true)) c.key-item.is in
    member_next (sort_key schema (state_now c.args.database.now).database c.args.set) keys c.loop-key.key-index (c.loop-key.key-index + 1) key
    c.args.out.now.items c.loop-key.out.items c.spell.new.out.items c.spell_sort_key.new.out.items (omega arith) at c.loop-key.invariant c.in_ok-spell.ensures
    (c.in_ok-spell_sort_key.ensures ∙ ap (λ (items : List Value). c.spell.new.out.items ++ option_numbers value_numbers (key_item schema c.args.set key.rtype items)) c.items_of.ensures)
