use Rattle.std.proofs.Common.{◌≡◌, ◌<◌, ◌-◌, ◌++◌, [], ◌∷◌, length, slice_index_or, sym, ap, ◌∙◌, subst, arith}
use Rattle.std.proofs.lemmas.Bool.Decides.{nat_tests}
use Rattle.dbtg_unit.specs.Database.Laws.Replay.{entries_of}
use Rattle.dbtg_program.specs.declared.going.Due.TheVariants as due
use Rattle.dbtg_unit.specs.declared.limits.TheConstants.{MOST_STATEMENTS}
use Rattle.dbtg_going.specs.Goings.{IsAt}
use Rattle.dbtg_going.specs.Inside.Members.{HaveTurned}
use Rattle.dbtg_going.proofs.Turning.{awaits, entry, history_is, index_at, last_is, on_ok, turn_made, written}
use Rattle.dbtg_going.proofs.going.Programs.make.Goals as goal

pub make-requires-clause-within : goal.make-requires-clause-within
make-requires-clause-within c = omega (arith, c.requires.within, c.requires.under_way.units, c.requires.under_way.are_at.count)

pub bounds-self-place : goal.bounds-self-place
bounds-self-place c = omega (arith, c.requires.numbered, c.requires.within, c.requires.under_way.are_at.count)

pub told-requires-clause-due : goal.told-requires-clause-due
told-requires-clause-due c =
    let schema = c.args.self.now.schema.now in
    let programs = c.args.self.now.list.now in
    let a = awaits schema programs c.args.database.now c.args.members.now c.requires.under_way c.args.unit c.args.statement c.requires.due c.requires.numbered c.requires.within in
    let member_is = index_at c.args.members.now c.args.unit a.member c.index-members-place.result a.member_found in
    let made = c.in_ok-make.ensures.made in
    let e = entry schema programs c.args.database.now c.args.members.now c.requires.under_way c.args.unit c.args.statement c.make.new.self made in
    let entry_is : c.index-history-before.result ≡ e =
    last_is c.history.result.now c.args.database.now.history e c.index-history-before.result _ (c.history.ensures.history ∙ history_is schema programs c.args.database.now c.args.members.now c.requires.under_way c.args.unit c.args.statement c.make.new.self made)
    (ap length c.history-before.ensures.history) c.index-history-before.is in
    ap (λ m. m.going.due) member_is ∙ (a.due_is ∙ ap (λ x. due.Statement x.statement) (sym entry_is))

pub told-requires-clause-few : goal.told-requires-clause-few
told-requires-clause-few c =
    let schema = c.args.self.now.schema.now in
    let programs = c.args.self.now.list.now in
    let a = awaits schema programs c.args.database.now c.args.members.now c.requires.under_way c.args.unit c.args.statement c.requires.due c.requires.numbered c.requires.within in
    let member_is = index_at c.args.members.now c.args.unit a.member c.index-members-place.result a.member_found in
    let below : a.member.made < MOST_STATEMENTS = grind (arith, nat_tests, a.few) in
    subst (λ m. m.made < MOST_STATEMENTS) (sym member_is) below

pub told-requires-clause-at : goal.told-requires-clause-at
told-requires-clause-at c =
    let schema = c.args.self.now.schema.now in
    let programs = c.args.self.now.list.now in
    let a = awaits schema programs c.args.database.now c.args.members.now c.requires.under_way c.args.unit c.args.statement c.requires.due c.requires.numbered c.requires.within in
    let member_is = index_at c.args.members.now c.args.unit a.member c.index-members-place.result a.member_found in
    let program_is = index_at programs c.args.unit a.program c.index-self-place.result a.program_found in
    let es = entries_of c.args.unit c.args.database.now.history in
    (es, subst (λ p. IsAt schema p es (slice_index_or c.args.members.now (c.args.unit - 1) c.index-members-place.result)) (sym program_is) (subst (λ m. IsAt schema a.program es m) (sym member_is) a.at))

pub returns : goal.returns
returns c =
    let schema = c.args.self.now.schema.now in
    let programs = c.args.self.now.list.now in
    let a = awaits schema programs c.args.database.now c.args.members.now c.requires.under_way c.args.unit c.args.statement c.requires.due c.requires.numbered c.requires.within in
    let member_is = index_at c.args.members.now c.args.unit a.member c.index-members-place.result a.member_found in
    let made = c.in_ok-make.ensures.made in
    let e = entry schema programs c.args.database.now c.args.members.now c.requires.under_way c.args.unit c.args.statement c.make.new.self made in
    let entry_is : c.index-history-before.result ≡ e =
    last_is c.history.result.now c.args.database.now.history e c.index-history-before.result _ (c.history.ensures.history ∙ history_is schema programs c.args.database.now c.args.members.now c.requires.under_way c.args.unit c.args.statement c.make.new.self made)
    (ap length c.history-before.ensures.history) c.index-history-before.is in
    let program_is = index_at programs c.args.unit a.program c.index-self-place.result a.program_found in
    let es = entries_of c.args.unit c.args.database.now.history in
    let member = slice_index_or c.args.members.now (c.args.unit - 1) c.index-members-place.result in
    let before : IsAt schema (slice_index_or programs (c.args.unit - 1) c.index-self-place.result) es member = subst (λ p. IsAt schema p es member) (sym program_is) (subst (λ m. IsAt schema a.program es m) (sym member_is) a.at) in
    on_ok c.told.result
    (λ told.
    let on : IsAt schema a.program (es ++ e ∷ []) c.told.new.self = subst (λ p. IsAt schema p (es ++ e ∷ []) c.told.new.self) program_is (subst (λ x. IsAt schema (slice_index_or programs (c.args.unit - 1) c.index-self-place.result) (es ++ x ∷ []) c.told.new.self) entry_is told) in
    subst (λ ms. HaveTurned schema programs c.args.database.now (c.args.unit ∷ []) c.make.new.self ms) (sym (written c.args.members.now c.args.unit c.told.new.self c.requires.numbered))
    (turn_made schema programs c.args.database.now c.args.members.now c.requires.under_way c.args.unit c.args.statement c.make.new.self made a.program a.member c.told.new.self a.program_found a.member_found on c.requires.due))
    (c.told.ensures es before)
