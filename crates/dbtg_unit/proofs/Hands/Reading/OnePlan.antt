-- One plan, the effect of a statement on two databases, has one outcome in what is held.
use Rattle.std.proofs.Common.{◌≡◌, sym, ◌∙◌, ap, ℕ, true, List}
use Rattle.dbtg_schema.specs.Lists.{Lists}
use Rattle.dbtg_schema.specs.Sound.{IsSound}
use Rattle.dbtg_cells.specs.declared.cell.Cell.{Cell}
use Rattle.dbtg_cells.specs.declared.name.CellName.{CellName}
use Rattle.dbtg_unit.specs.declared.statement.Statement.{Statement}
use Rattle.dbtg_unit.specs.declared.unit.Unit.{Unit}
use Rattle.dbtg_unit.specs.Database.State.Base.{Database}
use Rattle.dbtg_unit.specs.Database.State.Belongs.{IsUnitOf, IsWithin}
use Rattle.dbtg_unit.specs.Database.State.Cells.{cell}
use Rattle.dbtg_unit.specs.Hands.Edits.{edited_at}
use Rattle.dbtg_unit.specs.Database.Statements.Effect.{effect}
use Rattle.dbtg_unit.specs.Database.Statements.Fits.{fits}
use Rattle.dbtg_unit.specs.Hands.Hands.{Hands}
use Rattle.dbtg_unit.specs.Hands.Local.{Agrees, AllAgree, holds}
use Rattle.dbtg_unit.specs.Hands.Locality.{DoTheSame}
use Rattle.dbtg_unit.specs.Hands.Making.{IsReady, MayPrepare}
use Rattle.dbtg_unit.specs.Hands.Prepared.{IsEffect, Plan}
use Rattle.dbtg_unit.proofs.Hands.Reading.ReadingCells.{held_cell_agrees, held_is_there}

-- a held cell is the same in two databases that agree with what is held
held_alike : (schema : Lists) (capacity : ℕ) (db eb : Database) (cells : List (CellName × Cell)) → AllAgree schema capacity db cells → AllAgree schema capacity eb cells
    → (c : CellName) → holds cells c ≡ true → cell schema capacity db c ≡ cell schema capacity eb c
held_alike schema capacity db eb cells agree agree' c h =
    let x = held_is_there cells c h in
    sym (held_cell_agrees schema capacity db cells c x.0 agree x.1) ∙ held_cell_agrees schema capacity eb cells c x.0 agree' x.1

-- what a plan of a statement is read from; to carry it out, there must be next versions too
pub record MayPlan (schema : Lists) (capacity : ℕ) (unit : Unit) (hands : Hands) (statement : Statement) : Type 0 where
  pub sound : IsSound schema
  pub fits : fits schema statement ≡ true
  pub of_schema : IsUnitOf schema unit
  pub within : IsWithin capacity unit
  pub ready : IsReady schema capacity unit hands statement

pub may_plan : {schema : Lists} {capacity : ℕ} {unit : Unit} {hands : Hands} {statement : Statement} → MayPrepare schema capacity unit hands statement → MayPlan schema capacity unit hands statement
may_plan may = record { sound = may.sound; fits = may.fits; of_schema = may.of_schema; within = may.within; ready = may.ready }

-- a plan that is the statement's effect on every database that agrees with what is held
abbrev pub HasPlan : Lists → ℕ → Unit → Hands → Statement → Type 0
HasPlan schema capacity unit hands statement = (plan : Plan) × ((db : Database) → Agrees schema capacity db hands unit → IsEffect schema capacity db unit hands.guesses statement plan)

pub one_plan_does_the_same : (schema : Lists) (capacity : ℕ) (db eb : Database) (hands : Hands) (unit : Unit) (statement : Statement) → HasPlan schema capacity unit hands statement
    → Agrees schema capacity db hands unit → Agrees schema capacity eb hands unit → DoTheSame schema capacity hands (effect schema capacity db unit statement) (effect schema capacity eb unit statement)
one_plan_does_the_same schema capacity db eb hands unit statement has agrees agrees_too =
    let here = has.1 db agrees in
    let there = has.1 eb agrees_too in
    record {
      answer = sym here.answer ∙ there.answer;
      unit = sym here.unit_is ∙ there.unit_is;
      cells = λ c held. here.cells c ∙ ap (edited_at c has.0.cells) (held_alike schema capacity db eb hands.cells agrees.cells agrees_too.cells c held) ∙ sym (there.cells c);
    }
