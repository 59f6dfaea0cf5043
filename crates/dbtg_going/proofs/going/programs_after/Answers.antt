use Rattle.std.proofs.Common.{◌≡◌, ◌++◌, false, length, map, take, drop, refl, ap, ◌∙◌, arith}
use Rattle.std.proofs.lemmas.Grind.{common_steps}
use Rattle.std.specs.Prelude.{filter}
use Rattle.dbtg_going.specs.Turns.{is_heard}
use Rattle.dbtg_going.proofs.FirstAndLast.{all_heard}
use Rattle.dbtg_going.proofs.Turning.{turned_to}
use Rattle.dbtg_going.specs.declared.member.Member.{Member}
use Rattle.dbtg_going.proofs.Together.{led_on}
use Rattle.dbtg_going.proofs.going.programs_after.Goals as goal

pub returns : goal.returns
returns c =
    let schema = c.args.schema.now in
    let programs = c.args.programs.now in
    let turns = c.args.turns.now in
    let database = c.in_ok-database.database in
    let members = c.in_ok-members.members in
    let taken = c.turns.new.members in
    let back : take members.len (taken ++ drop (length taken) members.items) ≡ taken = grind (arith, common_steps) in
    let by = turned_to schema programs database c.turns.new.database (filter (is_heard (record { first = false; last = false }) (length programs)) turns) turns c.turns.new.members (all_heard (length programs) turns) c.in_ok-turns.ensures in
    led_on schema c.args.capacity programs turns database c.turns.new.database c.turns.new.database (length programs) c.turns.new.members c.in_ok-goings.goings.items c.in_ok-database.ensures refl by refl (c.in_ok-goings.ensures ∙ ap (map (λ (m : Member). m.going)) back)
