use Rattle.std.proofs.Common.{ℕ, ◌+◌, ◌++◌, [], ◌∷◌, Bool, length, take, sym, ap, ◌∙◌, arith}
use Rattle.std.specs.Prelude.{filter}
use Rattle.std.proofs.lemmas.List.{take_more}
use Rattle.std.proofs.lemmas.List.Elements.{filter-append}
use Rattle.dbtg_going.specs.Turns.{is_heard}
use Rattle.dbtg_going.proofs.Turning.{not_turned, turned_on, turned_to}
use Rattle.dbtg_going.proofs.going.Programs.turns.Goals as goal

pub loop-unit-init : goal.loop-unit-init
loop-unit-init c = not_turned c.args.self.now.schema.now c.args.self.now.list.now c.args.database.now c.args.members.now c.requires.under_way

pub loop-unit-preserved : goal.loop-unit-preserved
loop-unit-preserved c =
    let schema = c.args.self.now.schema.now in
    let programs = c.args.self.now.list.now in
    let turns = c.args.turns.now in
    let i = c.loop-unit.unit-index in
    let heard : ℕ → Bool = is_heard c.args.self.now.around (length programs) in
    let more = take_more turns i _ (omega (arith, c.loop-unit-test.true)) in
    turned_to schema programs c.args.database.now c.told_turn.new.database (filter heard (take i turns) ++ filter heard (_ ∷ [])) (filter heard (take (i + 1) turns)) c.told_turn.new.members
    (sym (ap (filter heard) more ∙ filter-append heard (take i turns) (_ ∷ [])))
    (turned_on schema programs c.args.database.now c.loop-unit.database c.told_turn.new.database (filter heard (take i turns)) (filter heard (_ ∷ [])) c.loop-unit.members c.told_turn.new.members c.loop-unit.invariant c.in_ok-told_turn.ensures)
