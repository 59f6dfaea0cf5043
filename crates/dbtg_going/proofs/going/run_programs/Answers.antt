use Rattle.std.proofs.Common.{◌≡◌, ◌++◌, length, map, take, drop, refl, ap, ◌∙◌, arith}
use Rattle.std.proofs.lemmas.Grind.{common_steps}
use Rattle.std.specs.Prelude.{option_map}
use Rattle.dbtg_going.specs.Goings.{reached_by}
use Rattle.dbtg_going.proofs.Turning.{if_both}
use Rattle.dbtg_going.proofs.FirstAndLast.{handed_all}
use Rattle.dbtg_going.proofs.going.run_programs.Goals as goal

pub returns : goal.returns
returns c =
    let members = c.in_ok-members.members in
    let made = c.make_all.new.members in
    let back : take members.len (made ++ drop (length made) members.items) ≡ made = grind (arith, common_steps) in
    if_both c.finish.result
    (λ given run are.
    handed_all c.args.schema.now c.args.programs.now c.args.around c.args.capacity (option_map (λ t. t.now) c.args.turns) c.in_ok-database.database c.make_all.new.database (length c.args.programs.now) c.make_all.new.members given
    c.in_ok-database.ensures refl c.in_ok-make_all.ensures run (are ∙ ap (map reached_by) back))
    c.finish.ensures.run c.finish.ensures.programs
