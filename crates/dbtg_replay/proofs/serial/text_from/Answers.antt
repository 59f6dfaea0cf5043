use Rattle.std.proofs.Common.{[], ◌++◌, ◌≡◌, ◌∙◌, ap, length}
use Rattle.dbtg_step.proofs.Public.{serial_led}
use Rattle.dbtg_script.specs.Printing.Texts.{answers_text}
use Rattle.dbtg_replay.proofs.Printed.{leads_so, text_printed}
use Rattle.dbtg_replay.proofs.serial.text_from.Goals as goal

pub returns-in_ok-push_rest-in-Ok : goal.returns-in_ok-push_rest-in-Ok
returns-in_ok-push_rest-in-Ok c =
    let lists = c.args.schema.now in
    let capacity = c.args.database.capacity in
    let image = (c.in_ok-image-in-Ok).image in
    let units = (c.in_ok-image-in-Ok).units in
    let printed = c.in-Ok.ensures in
    let after = printed.continues in
    let led = leads_so c.args.database c.push_each_script.new.database c.args.schema.now (length c.args.scripts) printed.entries image units after c.requires.schema c.requires.units c.requires.opens (c.in_ok-image-in-Ok).ensures in
    let first : c.push_each_script.new.out.items ≡ answers_text lists printed.entries = printed.text_is ∙ ap (λ text. text ++ answers_text lists printed.entries) c.new-out.ensures.items in
    record {
      given = record { results = []; image = image; history = printed.entries; units = units };
      is_run = serial_led lists capacity c.args.scripts printed.entries image units printed.statements_are led;
      is_text = text_printed lists printed.entries image units c.as_slice.result.now c.push_each_script.new.out.items c.push_rest.new.out.items first c.as_slice.ensures (c.in_ok-push_rest-in-Ok).ensures;
    }
