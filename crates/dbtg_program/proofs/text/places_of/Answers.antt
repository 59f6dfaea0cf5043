use Rattle.std.proofs.Common.{List, ℕ, Some, None, cond, ap, ◌∙◌}
use Rattle.std.specs.Option.{option_or}
use Rattle.std.specs.Str.{bytes_eq}
use Rattle.dbtg_program.specs.Inside.Gathered.{leads_to}
use Rattle.dbtg_program.proofs.Gathering.{field_entered}
use Rattle.dbtg_program.proofs.text.places_of.Goals as goal

pub loop-i-preserved : goal.loop-i-preserved
loop-i-preserved c =
    field_entered c.loop-i.places c.enter.new.self c.args.fields.now c.loop-i.i c.index-fields-i.result c.loop-i-test.true c.index-fields-i.is c.loop-i.invariant
    (λ q. c.in_ok-enter.ensures q ∙ ap (λ (n : List ℕ). option_or (leads_to c.loop-i.places q) (cond (bytes_eq q n) (Some c.loop-i.i) None)) c.as_slice.ensures)
