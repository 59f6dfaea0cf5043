use Rattle.std.proofs.Common.{◌≡◌, ◌∙◌, ℕ, ap, refl, sym, subst, true}
use Rattle.std.specs.Prelude.{⊤}
use Rattle.std.proofs.lemmas.Option.{MatchOption-at_some}
use Rattle.dbtg_schema.specs.Lists.{Lists}
use Rattle.dbtg_schema.specs.Lookups.{first}
use Rattle.dbtg_unit.specs.declared.statement.Statement.{Statement}
use Rattle.dbtg_unit.specs.Database.Statements.Fits.{fits}
use Rattle.dbtg_script.specs.Lines.{trimmed}
use Rattle.dbtg_script.specs.StatementFaults.{line_faults}
use Rattle.dbtg_session.proofs.session.take_line.Goals as goal

pub make_and_enter-requires-clause-fitting : goal.make_and_enter-requires-clause-fitting
make_and_enter-requires-clause-fitting c =
    let fit : fits c.args.schema.now c.in-Ok-Some.statement ≡ true =
    MatchOption-at_some ⊤ (λ (x : Statement). fits c.args.schema.now x ≡ true) c.in-Ok-Some.statement c.in-Ok-Some.field-0-is (c.in-Ok-Some.ensures.fitting c.requires.sound) in
    subst (λ (s : Lists). fits s c.in-Ok-Some.statement ≡ true) (sym c.requires.of_schema) fit

pub returns-in_ok-make_and_enter-in-Ok-Some-clause-taken : goal.returns-in_ok-make_and_enter-in-Ok-Some-clause-taken
returns-in_ok-make_and_enter-in-Ok-Some-clause-taken c = record {
  statement = c.in-Ok-Some.statement;
  says = sym c.in-Ok-Some.ensures.statement ∙ c.in-Ok-Some.field-0-is;
  fine = ap (λ (n : ℕ). first (line_faults c.args.schema.now n (trimmed c.args.line.now))) (sym (c.len.ensures ∙ c.args.script.now.begins.ok.0)) ∙ c.in-Ok-Some.ensures.accepted;
  room = c.in_ok-make_and_enter-in-Ok-Some.ensures.room;
  made = c.in_ok-make_and_enter-in-Ok-Some.ensures.made;
  entered = c.in_ok-make_and_enter-in-Ok-Some.ensures.entered;
}

pub returns-in-Ok-None-clause-taken : goal.returns-in-Ok-None-clause-taken
returns-in-Ok-None-clause-taken c = (
  refl,
  record { text = refl; begins = refl },
  (
    sym c.in-Ok-None.ensures.statement ∙ c.in-Ok-None.field-0-is,
    ap (λ (n : ℕ). first (line_faults c.args.schema.now n (trimmed c.args.line.now))) (sym (c.len.ensures ∙ c.args.script.now.begins.ok.0)) ∙ c.in-Ok-None.ensures.accepted,
  ),
)
