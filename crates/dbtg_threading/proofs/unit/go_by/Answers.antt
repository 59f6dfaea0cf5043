use Rattle.std.proofs.Common.{◌≡◌, ◌<◌, ◌≤◌, ◌++◌, [], ◌∷◌, length, None, Some, refl, sym, ap, ◌∙◌, subst, arith}
use Rattle.std.specs.Prelude.{option_map}
use Rattle.std.proofs.lemmas.Bool.Decides.{nat_tests}
use Rattle.std.proofs.lemmas.List.{length-append}
use Rattle.dbtg_unit.specs.declared.limits.TheConstants.{MOST_STATEMENTS}
use Rattle.dbtg_program.specs.declared.going.Due.TheVariants as due
use Rattle.dbtg_going.specs.Goings.{IsAt, comes_of}
use Rattle.dbtg_going.specs.Turns.{due_after}
use Rattle.dbtg_going.proofs.Turning.{last_is, to_be_made}
use Rattle.dbtg_run.specs.Entries.{entry}
use Rattle.dbtg_threading.specs.Inside.Gone.{AreInTurn}
use Rattle.dbtg_threading.proofs.Gone.{none_in_turn, one_more_in_turn, said_after}
use Rattle.dbtg_threading.proofs.unit.go_by.Goals as goal

pub loop-statement-init : goal.loop-statement-init
loop-statement-init g c = record {
  belongs = c.requires.belongs;
  number = refl;
  at = subst (λ es. IsAt c.args.db.now.schema c.args.program.now es c.in_ok-member.member) (sym c.requires.fresh) c.in_ok-member.ensures;
  in_turn = subst (AreInTurn c.args.db.now.schema c.args.program.now) (sym c.requires.fresh) (none_in_turn c.args.db.now.schema c.args.program.now);
}

pub insist-requires-clause-fits : goal.insist-requires-clause-fits
insist-requires-clause-fits g c =
    let m = c.loop-statement.member in
    (to_be_made c.args.db.now.schema m.made m.going.state m.going.due c.in-Some.statement.now (sym c.statement.ensures ∙ ap (option_map (λ s. s.now)) c.in-Some.is)).2

pub returns-in-Spent-clause-gone : goal.returns-in-Spent-clause-gone
returns-in-Spent-clause-gone g c =
    let m = c.loop-statement.member in
    let made = to_be_made c.args.db.now.schema m.made m.going.state m.going.due c.in-Some.statement.now (sym c.statement.ensures ∙ ap (option_map (λ s. s.now)) c.in-Some.is) in
    let few : m.made < MOST_STATEMENTS = grind (arith, nat_tests, made.1) in
    let full = c.insist.ensures.spent.0 c.in-Spent.is in
    let count = c.loop-statement.invariant.at.made in
    absurd (omega (arith, few, full, count))

pub bounds-journal-member : goal.bounds-journal-member
bounds-journal-member g c =
    let D = c.in-Done.ensures.done in
    let l = ap length (c.journal.ensures ∙ D.journal) ∙ length-append c.loop-statement.unit.journal (entry (length D.before) c.insist.new.unit.unit.number c.in-Some.statement.now c.in-Done.field-0 ∷ []) in
    let count = c.loop-statement.invariant.at.made in
    omega (arith, l, count)

pub told-requires-clause-due : goal.told-requires-clause-due
told-requires-clause-due g c =
    let m = c.loop-statement.member in
    let D = c.in-Done.ensures.done in
    let e = entry (length D.before) c.insist.new.unit.unit.number c.in-Some.statement.now c.in-Done.field-0 in
    let entry_is = last_is c.journal.result.now c.loop-statement.unit.journal e c.index-journal-member.result m.made (c.journal.ensures ∙ D.journal) c.loop-statement.invariant.at.made c.index-journal-member.is in
    (to_be_made c.args.db.now.schema m.made m.going.state m.going.due c.in-Some.statement.now (sym c.statement.ensures ∙ ap (option_map (λ s. s.now)) c.in-Some.is)).0
    ∙ ap (λ x. due.Statement x.statement) (sym entry_is)

pub told-requires-clause-few : goal.told-requires-clause-few
told-requires-clause-few g c =
    let m = c.loop-statement.member in
    let made = to_be_made c.args.db.now.schema m.made m.going.state m.going.due c.in-Some.statement.now (sym c.statement.ensures ∙ ap (option_map (λ s. s.now)) c.in-Some.is) in
    grind (arith, nat_tests, made.1)

pub told-requires-clause-at : goal.told-requires-clause-at
told-requires-clause-at g c = (c.loop-statement.unit.journal, c.loop-statement.invariant.at)

pub loop-statement-preserved : goal.loop-statement-preserved
loop-statement-preserved g c =
    let schema = c.args.db.now.schema in
    let program = c.args.program.now in
    let m = c.loop-statement.member in
    let i = c.loop-statement.invariant in
    let j = c.loop-statement.unit.journal in
    let D = c.in-Done.ensures.done in
    let e = entry (length D.before) c.insist.new.unit.unit.number c.in-Some.statement.now c.in-Done.field-0 in
    let entry_is = last_is c.journal.result.now j e c.index-journal-member.result m.made (c.journal.ensures ∙ D.journal) i.at.made c.index-journal-member.is in
    let said : due_after schema m.made (comes_of m.going) ≡ Some e.statement = sym c.statement.ensures ∙ ap (option_map (λ s. s.now)) c.in-Some.is in
    let on : IsAt schema program (j ++ e ∷ []) c.told.new.self = subst (λ x. IsAt schema program (j ++ x ∷ []) c.told.new.self) entry_is (c.in_ok-told.ensures j i.at) in
    let turn = one_more_in_turn schema program j e i.in_turn (said_after schema program j m i.at ∙ said) in
    record {
      belongs = c.insist.ensures.belongs;
      number = c.insist.ensures.number ∙ i.number;
      at = subst (λ es. IsAt schema program es c.told.new.self) (sym D.journal) on;
      in_turn = subst (AreInTurn schema program) (sym D.journal) turn;
    }

pub returns-clause-gone : goal.returns-clause-gone
returns-clause-gone g c =
    let i = c.loop-statement.invariant in
    let none : due_after c.args.db.now.schema c.loop-statement.member.made (comes_of c.loop-statement.member.going) ≡ None = sym c.statement.ensures ∙ ap (option_map (λ s. s.now)) c.in_default.is in
    record {
      at = i.at;
      in_turn = i.in_turn;
      at_end = said_after c.args.db.now.schema c.args.program.now c.loop-statement.unit.journal c.loop-statement.member i.at ∙ none;
    }
