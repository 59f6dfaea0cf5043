use Rattle.std.proofs.Common.{ℕ, List, Some, None, cond, ap, ◌∙◌}
use Rattle.std.specs.Option.{option_or}
use Rattle.std.specs.Str.{bytes_eq}
use Rattle.dbtg_schema.specs.Inside.NameIndexes.{leads_to}
use Rattle.dbtg_schema.proofs.Indexes.NameIndexes.{entered_name}
use Rattle.dbtg_schema.proofs.index.NameIndex.of.Goals as goal

pub loop-i-preserved : goal.loop-i-preserved
loop-i-preserved g c =
    entered_name g.T.HasName.name_of c.loop-i.index c.enter.new.self c.args.things.now c.loop-i.i c.index-things-i.result c.loop-i-test.true c.index-things-i.is c.loop-i.invariant
    (λ q. c.in_ok-enter.ensures q ∙ ap (λ (n : List ℕ). option_or (leads_to c.loop-i.index q) (cond (bytes_eq q n) (Some c.loop-i.i) None)) c.name.ensures)
