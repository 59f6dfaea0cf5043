use Rattle.std.proofs.Common.{[], ◌∷◌, ◌++◌, ◌∙◌, List, arith, length-append, refl, subst, sym}
use Rattle.dbtg_unit.specs.declared.statement.Statement.{Statement}
use Rattle.dbtg_step.specs.Core.Serial.{in_turn_from}
use Rattle.dbtg_replay.specs.Inside.Serial.{HasPrinted}
use Rattle.dbtg_replay.proofs.Printed.{all_taken, printed_nothing, scripts_more, taken_on}
use Rattle.dbtg_replay.proofs.serial.push_each_script.Goals as goal

pub loop-script-init : goal.loop-script-init
loop-script-init c = ([], c.into_iter-script-iterator.ensures.into_iter_gives.0 ∙ c.into_vec-script-items.ensures, refl, printed_nothing c.args.schema.now c.args.database.now c.args.out.now.items)

pub loop-script-preserved : goal.loop-script-preserved
loop-script-preserved c =
    let was = c.loop-script.invariant in
    let longer = length-append was.0 (c.in-Some.script ∷ []) in
    let count = was.2 in (
      was.0 ++ c.in-Some.script ∷ [],
      taken_on was.0 _ _ c.args.scripts c.in-Some.script c.in-Some.ensures.steps.0 was.1,
      omega (arith, longer, count),
      scripts_more c.args.schema.now c.args.database.now c.loop-script.database c.push_script.new.database c.args.out.now.items c.loop-script.out.items c.push_script.new.out.items c.loop-script.before was.0 c.in-Some.script was.2 was.3 c.in_ok-push_script.ensures,
    )

pub returns : goal.returns
returns c =
    let was = c.loop-script.invariant in
    subst (λ (xs : List (List Statement)). HasPrinted c.args.schema.now c.args.database.now c.args.out.now.items (in_turn_from 1 xs) c.loop-script.database c.loop-script.out.items)
    (all_taken was.0 _ c.args.scripts (sym c.loop-script.script-iterator.rest.ok.0 ∙ c.in-None.ensures.steps.0) was.1) was.3
