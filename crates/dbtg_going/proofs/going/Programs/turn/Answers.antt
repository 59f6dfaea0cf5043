use Rattle.std.proofs.Common.{◌-◌, Some, inl, inr, slice_index_or, ap, sym, ◌∙◌, arith}
use Rattle.std.specs.Prelude.{option_map}
use Rattle.dbtg_going.proofs.Turning.{at_index, nothing_made, said_by, said_by_nobody}
use Rattle.dbtg_going.proofs.going.Programs.turn.Goals as goal
use Rattle.dbtg_going.proofs.going.Programs.turn.Goals.{then-unit-eq0-via-then-unit-eq0, then-unit-eq0-via-else-unit-eq0+then-members-unit}

pub returns-then-unit-eq0-clause-turned : goal.returns-then-unit-eq0-clause-turned
returns-then-unit-eq0-clause-turned c =
    let schema = c.args.self.now.schema.now in
    let programs = c.args.self.now.list.now in
    nothing_made schema programs c.args.database.now c.args.members.now c.requires c.args.unit (said_by_nobody schema programs c.args.database.now c.args.members.now c.requires c.args.unit
    (elim c.then-unit-eq0.branch [ then-unit-eq0-via-then-unit-eq0 w ↦ inl (omega (arith, w.if-unit-eq0.true)) | then-unit-eq0-via-else-unit-eq0+then-members-unit w ↦ inr (omega (arith, w.if-members-unit.true)) ]))

pub make-requires-clause-due : goal.make-requires-clause-due
make-requires-clause-due c =
    let schema = c.args.self.now.schema.now in
    let programs = c.args.self.now.list.now in
    let member = slice_index_or c.args.members.now (c.args.unit - 1) c.index-members-unit.result in
    let said = said_by schema programs c.args.database.now c.args.members.now c.requires c.args.unit member (at_index c.args.members.now c.args.unit c.index-members-unit.result (omega (arith, c.if-unit-eq0.false)) (omega (arith, c.if-members-unit.false))) in
    sym said ∙ (sym c.statement.ensures ∙ (ap (option_map (λ s. s.now)) c.in-Some.is ∙ ap Some (sym c.in_ok-statement-in-Some.ensures)))

pub returns-in-None-clause-turned : goal.returns-in-None-clause-turned
returns-in-None-clause-turned c =
    let schema = c.args.self.now.schema.now in
    let programs = c.args.self.now.list.now in
    let member = slice_index_or c.args.members.now (c.args.unit - 1) c.index-members-unit.result in
    let said = said_by schema programs c.args.database.now c.args.members.now c.requires c.args.unit member (at_index c.args.members.now c.args.unit c.index-members-unit.result (omega (arith, c.if-unit-eq0.false)) (omega (arith, c.if-members-unit.false))) in
    nothing_made schema programs c.args.database.now c.args.members.now c.requires c.args.unit (sym said ∙ (sym c.statement.ensures ∙ ap (option_map (λ s. s.now)) c.in-None.is))
