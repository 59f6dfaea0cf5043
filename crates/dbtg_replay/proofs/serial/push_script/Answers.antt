use Rattle.std.proofs.Common.{[], ◌∷◌, ◌++◌, ◌∙◌, List, map, subst, sym}
use Rattle.dbtg_unit.specs.declared.statement.Statement.{Statement}
use Rattle.dbtg_replay.specs.Inside.Serial.{HasPrinted}
use Rattle.dbtg_replay.proofs.Printed.{all_taken, printed_more, printed_nothing, taken_on}
use Rattle.dbtg_replay.proofs.serial.push_script.Goals as goal

pub loop-statement-init : goal.loop-statement-init
loop-statement-init c = ([], c.into_iter-statement-iterator.ensures.into_iter_gives.0 ∙ c.into_vec-statement-items.ensures, printed_nothing c.args.schema.now c.args.database.now c.args.out.now.items)

pub loop-statement-preserved : goal.loop-statement-preserved
loop-statement-preserved c =
    let was = c.loop-statement.invariant in (
      was.0 ++ c.in-Some.statement ∷ [],
      taken_on was.0 _ _ c.args.script c.in-Some.statement c.in-Some.ensures.steps.0 was.1,
      printed_more c.args.schema.now c.args.database.now c.loop-statement.database c.push_made.new.database c.args.out.now.items c.loop-statement.out.items c.push_made.new.out.items c.args.unit was.0 c.in-Some.statement was.2 c.in_ok-push_made.ensures,
    )

pub returns : goal.returns
returns c =
    let was = c.loop-statement.invariant in
    subst (λ (xs : List Statement). HasPrinted c.args.schema.now c.args.database.now c.args.out.now.items (map (λ x. (c.args.unit, x)) xs) c.loop-statement.database c.loop-statement.out.items)
    (all_taken was.0 _ c.args.script (sym c.loop-statement.statement-iterator.rest.ok.0 ∙ c.in-None.ensures.steps.0) was.1) was.2
