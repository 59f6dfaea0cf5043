use Rattle.std.proofs.Common.{ℕ, List, [], subst}
use Rattle.std.proofs.lemmas.Result.{IfErr-weaker, IfOk-weaker}
use Rattle.dbtg_schema.specs.Texts.SchemaFaults.{refusal as schema_refusal}
use Rattle.dbtg_command.specs.declared.order.Order.TheVariants.{Serial}
use Rattle.dbtg_command.specs.Drawing.{DrawsHeld, IsDrawing}
use Rattle.dbtg_command.specs.Refusals.{RefusesSchema}
use Rattle.dbtg_command.specs.Inside.Sources.{StandsIn}
use Rattle.dbtg_command.specs.Sources.{ToldOfSchema}
use Rattle.dbtg_command.proofs.BytesAtHand.{OnlyMemory, schema_told}
use Rattle.dbtg_command.proofs.draw.draw_bytes.Goals as goal

pub returns-clause-done : goal.returns-clause-done
returns-clause-done c =
    let schema = c.args.schema.now in
    IfOk-weaker c.draw.result (λ out. DrawsHeld (StandsIn schema [] Serial) out.items) (λ out. IsDrawing schema out.items)
    (λ out held. subst (λ (text : List ℕ). IsDrawing text out.items) held.1 held.2) c.draw.ensures.done

pub returns-clause-refused : goal.returns-clause-refused
returns-clause-refused c =
    let schema = c.args.schema.now in
    IfErr-weaker c.draw.result (λ fault. ToldOfSchema (StandsIn schema [] Serial) OnlyMemory fault) (λ fault. RefusesSchema fault (schema_refusal schema))
    (λ fault told. schema_told fault schema [] Serial told) c.draw.ensures.refused
